-- Members of a list of numbers, and lists with no member twice. Assumes nothing.
use Rattle.std.specs.Prelude.{◌≡◌, List, [], ◌∷◌, cond, ◌⊎◌, ℕ, eqb}

-- x stands in the list
abbrev pub Mem : ℕ → List ℕ → Type 0
Mem x [] = ⊥
Mem x (y ∷ l) = (x ≡ y) ⊎ Mem x l

-- no member stands twice
abbrev pub NoDup : List ℕ → Type 0
NoDup [] = Unit
NoDup (x ∷ l) = (Mem x l → ⊥) × NoDup l

-- the list without the first place where x stands
unfoldable pub without : ℕ → List ℕ → List ℕ
without x [] = []
without x (y ∷ l) = cond (eqb x y) l (y ∷ without x l)

-- Lists of numbers, and chains of links: a link is 0 for none, and s + 1 for s. Assumes nothing.
use Rattle.std.specs.Prelude.{◌≡◌, cond, List, [], ◌∷◌, ℕ, zero, suc, ◌+◌, ◌-◌, eqb}

-- P holds of every element
abbrev pub All : (ℕ → Type 0) → List ℕ → Type 0
All P [] = Unit
All P (x ∷ xs) = P x × All P xs

-- how often x stands in a list
unfoldable pub times : ℕ → List ℕ → ℕ
times x [] = 0
times x (y ∷ ys) = cond (eqb x y) 1 0 + times x ys

-- the link x leads to s, and s links back to p
pub record Joined (previous : ℕ → ℕ) (p x s : ℕ) : Type 0 where
  pub here : x ≡ s + 1
  pub back : previous s ≡ p

-- from the link x the elements of a list one after the other, and then none; each links back, the first to p
abbrev pub Chain : (ℕ → ℕ) → (ℕ → ℕ) → ℕ → ℕ → List ℕ → Type 0
Chain previous next p x [] = x ≡ 0
Chain previous next p x (s ∷ xs) = Joined previous p x s × Chain previous next (s + 1) (next s) xs

-- what the links lead to from x, in at most n steps
unfoldable pub walk : (ℕ → ℕ) → ℕ → ℕ → List ℕ
walk next zero x = []
walk next (suc n) x = cond (eqb x 0) [] ((x - 1) ∷ walk next n (next (x - 1)))

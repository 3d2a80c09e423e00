-- Members of two lists joined, and how often a number stands there. Assumes nothing.
use mathlib.Core.Path.{◌≡◌, refl}
use mathlib.Core.List.{List, [], ◌∷◌, ◌++◌}
use mathlib.Core.Logic.{◌⊎◌, inl, inr, ⊎_elim}
use Prim.Native.Nat.{ℕ, ◌+◌}
use native.Mathlib.Omega.{arith}
use Rattle.laws.specs.Links.{times}
use Rattle.laws.specs.Members.{Mem, NoDup}

-- A member of both joined is one of either.
pub mem_split : (x : ℕ) (xs ys : List ℕ) → Mem x (xs ++ ys) → Mem x xs ⊎ Mem x ys
mem_split x [] ys m = inr m
mem_split x (y ∷ xs) ys (inl e) = inl (inl e)
mem_split x (y ∷ xs) ys (inr m) = ⊎_elim (λ a. inl (inr a)) inr (mem_split x xs ys m)

pub mem_left : (x : ℕ) (xs ys : List ℕ) → Mem x xs → Mem x (xs ++ ys)
mem_left x [] ys m = absurd m
mem_left x (y ∷ xs) ys (inl e) = inl e
mem_left x (y ∷ xs) ys (inr m) = inr (mem_left x xs ys m)

pub mem_right : (x : ℕ) (xs ys : List ℕ) → Mem x ys → Mem x (xs ++ ys)
mem_right x [] ys m = m
mem_right x (y ∷ xs) ys m = inr (mem_right x xs ys m)

-- Lists that have no member in common have none twice when joined.
pub nodup_append : (xs ys : List ℕ) → NoDup xs → NoDup ys → ((x : ℕ) → Mem x xs → Mem x ys → ⊥) → NoDup (xs ++ ys)
nodup_append [] ys nx ny d = ny
nodup_append (x ∷ xs) ys nx ny d = (
  (λ m. ⊎_elim nx.0 (d x (inl refl)) (mem_split x xs ys m)),
  nodup_append xs ys nx.1 ny (λ z mx my. d z (inr mx) my),
)

-- A number stands in both joined as often as in each.
pub times_append : (x : ℕ) (xs ys : List ℕ) → times x (xs ++ ys) ≡ times x xs + times x ys
unfolding times
times_append x [] ys = omega arith
times_append x (y ∷ xs) ys = omega (arith, times_append x xs ys)

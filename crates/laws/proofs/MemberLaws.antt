-- Members of a list, each of whose elements has a property, and how often a number stands in it. Assumes nothing.
use mathlib.Core.Path.{◌≡◌, refl, sym, subst, ◌∙◌}
use mathlib.Core.List.{List, [], ◌∷◌}
use mathlib.Core.Logic.{inl, inr, ⊎_elim}
use Prim.Native.Nat.{ℕ, ◌+◌, ◌<◌}
use native.Mathlib.Omega.{arith}
use native.Mathlib.Decide.{ℕ_discrete}
use borrow.Author.Tests.{eq-eqb, ne_eqb}
use Rattle.laws.specs.Links.{All, times}
use Rattle.laws.specs.Members.{Mem, NoDup, without}

-- what holds of every element holds of a member
pub all_mem : (P : ℕ → Type 0) (xs : List ℕ) → All P xs → (s : ℕ) → Mem s xs → P s
all_mem P [] a s m = absurd m
all_mem P (x ∷ xs) a s (inl e) = subst P (sym e) a.0
all_mem P (x ∷ xs) a s (inr m) = all_mem P xs a.1 s m

-- and what holds of each member holds of every element
pub mem_all : (P : ℕ → Type 0) (xs : List ℕ) → ((s : ℕ) → Mem s xs → P s) → All P xs
mem_all P [] f = tt
mem_all P (x ∷ xs) f = (f x (inl refl), mem_all P xs (λ s m. f s (inr m)))

-- the first element counted
times_here : (x y : ℕ) (xs : List ℕ) → x ≡ y → times x (y ∷ xs) ≡ 1 + times x xs
unfolding times
times_here x y xs e = rw (eq-eqb x y e)

-- the first element passed over
times_there : (x y : ℕ) (xs : List ℕ) → (x ≡ y → ⊥) → times x (y ∷ xs) ≡ times x xs
unfolding times
times_there x y xs n = rw (ne_eqb x y n) (omega arith)

-- what is no member stands there no time
pub times_none : (x : ℕ) (xs : List ℕ) → (Mem x xs → ⊥) → times x xs ≡ 0
times_none x [] n = unfold times in refl
times_none x (y ∷ xs) n = times_there x y xs (λ e. n (inl e)) ∙ times_none x xs (λ m. n (inr m))

-- a member stands there at least once
pub times_some : (x : ℕ) (xs : List ℕ) → Mem x xs → 0 < times x xs
times_some x [] m = absurd m
times_some x (y ∷ xs) m = go (ℕ_discrete x y) (λ i. times_some x xs i)
  where
    go : Dec (x ≡ y) → (Mem x xs → 0 < times x xs) → 0 < times x (y ∷ xs)
    go (yes e) rest = rw (times_here x y xs e) (omega arith)
    go (no n) rest = rw (times_there x y xs n) (rest (⊎_elim (λ e. absurd (n e)) (λ i. i) m))

-- and where none stands twice, once
pub times_once : (x : ℕ) (xs : List ℕ) → NoDup xs → Mem x xs → times x xs ≡ 1
times_once x [] d m = absurd m
times_once x (y ∷ xs) d m = go (ℕ_discrete x y) (λ i. times_once x xs d.1 i)
  where
    go : Dec (x ≡ y) → (Mem x xs → times x xs ≡ 1) → times x (y ∷ xs) ≡ 1
    go (yes e) rest =
        let z : times x xs ≡ 0 = times_none x xs (λ i. d.0 (subst (λ (w : ℕ). Mem w xs) e i)) in
        times_here x y xs e ∙ omega arith
    go (no n) rest = times_there x y xs n ∙ rest (⊎_elim (λ e. absurd (n e)) (λ i. i) m)

-- what stands there is a member
pub times_mem : (x : ℕ) (xs : List ℕ) → 0 < times x xs → Mem x xs
times_mem x [] h = absurd (let z : ⊥ = omega (arith, times_none x [] (λ m. m)) in z)
times_mem x (y ∷ xs) h = go (ℕ_discrete x y) (λ i. times_mem x xs i)
  where
    go : Dec (x ≡ y) → (0 < times x xs → Mem x xs) → Mem x (y ∷ xs)
    go (yes e) rest = inl e
    go (no n) rest = inr (rest (rw (times_there x y xs n) at h))

-- a member of what is left was a member
pub without_mem : (a s : ℕ) (xs : List ℕ) → Mem s (without a xs) → Mem s xs
unfolding without
without_mem a s [] m = m
without_mem a s (y ∷ xs) m = go (ℕ_discrete a y) (λ i. without_mem a s xs i)
  where
    go : Dec (a ≡ y) → (Mem s (without a xs) → Mem s xs) → Mem s (y ∷ xs)
    go (yes e) rest = inr (rw (eq-eqb a y e) at m)
    go (no n) rest = ⊎_elim (λ e. inl e) (λ i. inr (rest i)) (rw (ne_eqb a y n) at m)

-- The pigeonhole, over lists of numbers: a list with no member twice is no longer than a list that holds its members. Assumes nothing.
use mathlib.Core.Path.{◌≡◌, refl, sym, ap, subst}
use mathlib.Core.List.{List, [], ◌∷◌}
use mathlib.Core.Logic.{inl, inr, ⊎_elim}
use Prim.Native.Nat.{ℕ, zero, suc, ◌<◌, ◌≤◌, zero-le}
use native.Mathlib.Omega.{arith}
use native.Mathlib.Decide.{ℕ_discrete}
use native.Mathlib.Nat.{eq-or-lt_of_le, le_of_suc-le-suc}
use lib.ListN.{length}
use Rattle.laws.specs.Members.{Mem, NoDup}

-- xs without the place that m names
abbrev less : (y : ℕ) (xs : List ℕ) → Mem y xs → List ℕ
less y [] m = []
less y (x ∷ xs) (inl e) = xs
less y (x ∷ xs) (inr m) = x ∷ less y xs m

-- one place fewer
length_less : (y : ℕ) (xs : List ℕ) (m : Mem y xs) → length xs ≡ suc (length (less y xs m))
length_less y [] m = absurd m
length_less y (x ∷ xs) (inl e) = refl
length_less y (x ∷ xs) (inr m) = ap suc (length_less y xs m)

-- every other member is still there
mem_less : (y z : ℕ) (xs : List ℕ) (m : Mem y xs) → Mem z xs → (z ≡ y → ⊥) → Mem z (less y xs m)
mem_less y z [] m n d = absurd m
mem_less y z (x ∷ xs) (inl e) (inl f) d = absurd (d (cc))
mem_less y z (x ∷ xs) (inl e) (inr n) d = n
mem_less y z (x ∷ xs) (inr m) (inl f) d = inl f
mem_less y z (x ∷ xs) (inr m) (inr n) d = inr (mem_less y z xs m n d)

-- no member twice, and all of them members of xs: no longer than xs
pub fits_in : (ys xs : List ℕ) → NoDup ys → ((y : ℕ) → Mem y ys → Mem y xs) → length ys ≤ length xs
fits_in [] xs nd sub = zero-le
fits_in (y ∷ ys) xs nd sub =
    let m : Mem y xs = sub y (inl refl) in
    omega (
      arith,
      length_less y xs m,
      fits_in ys (less y xs m) nd.1
          (λ z n. mem_less y z xs m (sub z (inr n)) (λ e. nd.0 (subst (λ (k : ℕ). Mem k ys) e n))),
    )

-- the numbers below n
abbrev upto : ℕ → List ℕ
upto zero = []
upto (suc n) = n ∷ upto n

-- there are n of them
length_upto : (n : ℕ) → length (upto n) ≡ n
length_upto zero = refl
length_upto (suc n) = ap suc (length_upto n)

-- each number below n is one of them
below_mem : (n x : ℕ) → x < n → Mem x (upto n)
below_mem zero x l = omega arith
below_mem (suc n) x l = ⊎_elim (λ e. inl e) (λ h. inr (below_mem n x h)) (eq-or-lt_of_le (le_of_suc-le-suc l))

-- each of them is below n
mem_below : (n x : ℕ) → Mem x (upto n) → x < n
mem_below zero x m = absurd m
mem_below (suc n) x (inl e) = omega arith
mem_below (suc n) x (inr m) = omega (arith, mem_below n x m)

-- none stands twice
nodup_upto : (n : ℕ) → NoDup (upto n)
nodup_upto zero = tt
nodup_upto (suc n) = ((λ m. omega (arith, mem_below n n m)), nodup_upto n)

-- a number stands in a list or not
pub dec_mem : (x : ℕ) (xs : List ℕ) → Dec (Mem x xs)
dec_mem x [] = no (λ m. m)
dec_mem x (y ∷ xs) = go (ℕ_discrete x y) (dec_mem x xs)
  where
    go : Dec (x ≡ y) → Dec (Mem x xs) → Dec (Mem x (y ∷ xs))
    go (yes e) d = yes (inl e)
    go (no n) (yes m) = yes (inr m)
    go (no n) (no k) = no (⊎_elim n k)

module _ (n : ℕ) (xs : List ℕ) where
  -- no member twice, all below n: at most n of them
  pub few : NoDup xs → ((x : ℕ) → Mem x xs → x < n) → length xs ≤ n
  few nd b = omega (arith, length_upto n, fits_in xs (upto n) nd (λ x m. below_mem n x (b x m)))

  -- all numbers below n are there: at least n of them
  pub many : ((x : ℕ) → x < n → Mem x xs) → n ≤ length xs
  many all = omega (arith, length_upto n, fits_in (upto n) xs (nodup_upto n) (λ x m. all x (mem_below n x m)))

-- no member twice, all below n, and n of them: every number below n
pub all_there : (n : ℕ) (xs : List ℕ) → NoDup xs → ((x : ℕ) → Mem x xs → x < n) → length xs ≡ n → (x : ℕ) → x < n → Mem x xs
all_there n xs nd b len x l = go (dec_mem x xs)
  where
    go : Dec (Mem x xs) → Mem x xs
    go (yes m) = m
    go (no k) = absurd (omega (arith, few n (x ∷ xs) (k, nd) (λ z m. ⊎_elim (λ e. subst (λ (j : ℕ). j < n) (sym e) l) (b z) m)))

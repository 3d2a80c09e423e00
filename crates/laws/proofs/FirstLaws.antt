-- Laws of `first`, the first number at which a test passes. Assumes nothing.
use mathlib.Core.Bool.{Bool, true, false, true≢false}
use mathlib.Core.Logic.{◌⊎◌, inl, inr, ⊎_elim}
use mathlib.Core.Path.{◌≡◌, refl}
use Prim.Native.Nat.{ℕ, zero, suc, ◌+◌, ◌≤◌, ◌<◌}
use native.Mathlib.Decide.{dec_lt}
use native.Mathlib.Omega.{arith}
use Rattle.laws.specs.First.{first}

-- A test passes or fails, said as an equation.
pub tested : (b : Bool) → (b ≡ true) ⊎ (b ≡ false)
tested true = inl refl
tested false = inr refl

-- Where the test passes somewhere in the range, it passes at the first number.
pub first_holds : (f : ℕ → Bool) (n k m : ℕ) → k ≤ m → m ≤ k + n → f m ≡ true → f (first f n k) ≡ true
unfolding first
first_holds f zero k m h l t = let e : m ≡ k = omega arith in rw e at t
first_holds f (suc n) k m h l t =
    ⊎_elim
    (λ e. rw e e)
    (λ e. rw e
    (elim (dec_lt k m) [
      | yes y ↦ first_holds f n (suc k) m (omega arith) (omega arith) t
      | no y ↦ let q : k ≡ m = omega arith in let z : true ≡ false = cc in absurd (true≢false z)
    ]))
    (tested (f k))

-- The first number is at most any number of the range at which the test passes.
pub first_le : (f : ℕ → Bool) (n k m : ℕ) → k ≤ m → f m ≡ true → first f n k ≤ m
unfolding first
first_le f zero k m h t = h
first_le f (suc n) k m h t =
    ⊎_elim
    (λ e. rw e h)
    (λ e. rw e
    (elim (dec_lt k m) [
      | yes l ↦ first_le f n (suc k) m (omega arith) t
      | no l ↦ let q : k ≡ m = omega arith in let z : true ≡ false = cc in absurd (true≢false z)
    ]))
    (tested (f k))

-- A number at which the test passes, and before which it fails, is the first.
pub first_is :
    (f : ℕ → Bool) (n k m : ℕ) →
    k ≤ m →
    m ≤ k + n →
    f m ≡ true →
    ((j : ℕ) → k ≤ j → j < m → f j ≡ false) →
    first f n k ≡ m
unfolding first
first_is f zero k m h l t u = omega arith
first_is f (suc n) k m h l t u =
    elim (dec_lt k m) [
      | yes s ↦ rw (u k (omega arith) s) (first_is f n (suc k) m (omega arith) (omega arith) t (λ j a b. u j (omega arith) b))
      | no s ↦ let q : k ≡ m = omega arith in let e : f k ≡ true = cc in rw e q
    ]

-- The test fails at every number of the range before the first.
pub first_before : (f : ℕ → Bool) (n k j : ℕ) → k ≤ j → j < first f n k → f j ≡ false
first_before f n k j h l =
    ⊎_elim (λ t. let z = first_le f n k j h t in absurd (omega arith)) (λ e. e) (tested (f j))

-- The first number is not before the range.
pub first_from : (f : ℕ → Bool) (n k : ℕ) → k ≤ first f n k
unfolding first
first_from f zero k = omega arith
first_from f (suc n) k = ⊎_elim (λ e. rw e (omega arith)) (λ e. rw e (omega (arith, first_from f n (suc k)))) (tested (f k))

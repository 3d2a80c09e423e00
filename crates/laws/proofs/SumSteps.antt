-- Sums as ranges laid one after the other: range m begins at the sum of the lengths before it. Assumes nothing.
use mathlib.Core.Path.{◌≡◌}
use Prim.Native.Nat.{ℕ, zero, suc, ◌+◌, ◌≤◌, ◌<◌}
use native.Mathlib.Decide.{dec_lt}
use native.Mathlib.Numerals.{add-one}
use native.Mathlib.Omega.{arith}
use Rattle.laws.specs.Choice.{sum}

-- One number more adds its value.
pub sum_next : (n : ℕ) (f : ℕ → ℕ) → sum (n + 1) f ≡ sum n f + f n
unfolding sum
sum_next n f = rw add-one

module _ (f : ℕ → ℕ) where
  -- A range ends where the next begins, and so before every later one.
  pub sum_through : (m n : ℕ) → m < n → sum m f + f m ≤ sum n f
  unfolding sum
  sum_through m zero h = absurd (let z : ⊥ = omega arith in z)
  sum_through m (suc n) h =
      elim (dec_lt m n) [
        | yes y ↦ omega (arith, sum_through m n y)
        | no y ↦ let e : m ≡ n = omega arith in rw e (omega arith)
      ]

  -- A sum over more numbers is no smaller.
  pub sum_mono : (m n : ℕ) → m ≤ n → sum m f ≤ sum n f
  sum_mono m n h =
      elim (dec_lt m n) [
        | yes y ↦ omega (arith, sum_through m n y)
        | no y ↦ let e : m ≡ n = omega arith in rw e (omega arith)
      ]

  -- A place that stands in two ranges is one place of one range.
  pub sum_apart : (m n i j : ℕ) → i < f m → j < f n → sum m f + i ≡ sum n f + j → (m ≡ n) × (i ≡ j)
  sum_apart m n i j hi hj e =
      elim (dec_lt m n) [
        | yes y ↦ absurd (let z : ⊥ = omega (arith, sum_through m n y) in z)
        | no y ↦
            elim (dec_lt n m) [
              | yes z ↦ absurd (let w : ⊥ = omega (arith, sum_through n m z) in w)
              | no z ↦ let q : m ≡ n = omega arith in (q, let s : sum n f + i ≡ sum n f + j = rw q at e in omega arith)
            ]
      ]

-- How large a sum over the numbers below a bound can be. Assumes nothing.
use Prim.Native.Nat.{ℕ, zero, suc, ◌*◌, ◌<◌, ◌≤◌}
use native.Mathlib.Nat.{suc-mul}
use native.Mathlib.Omega.{arith}
use Rattle.laws.specs.Choice.{sum}

-- A sum of n terms, none above m, is at most n times m.
pub sum_bound : (n m : ℕ) (f : ℕ → ℕ) → ((k : ℕ) → k < n → f k ≤ m) → sum n f ≤ n * m
unfolding sum
sum_bound zero m f e = omega arith
sum_bound (suc n) m f e = omega (arith, sum_bound n m f (λ k h. e k (omega arith)), e n (omega arith), suc-mul n m)

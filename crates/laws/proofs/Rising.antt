-- A function that rises at each step rises from each number to every later one. Assumes nothing.
use mathlib.Core.Path.{◌≡◌}
use Prim.Native.Nat.{ℕ, zero, suc, ◌+◌, ◌-◌, ◌<◌}
use native.Mathlib.Nat.{add-zero, add-suc}
use native.Mathlib.Omega.{arith}

module _ (f : ℕ → ℕ) (n : ℕ) (step : (k : ℕ) → suc k < n → f k < f (suc k)) where
  -- It rises over any number of steps below the bound.
  rises_by : (j d : ℕ) → suc (j + d) < n → f j < f (suc (j + d))
  rises_by j zero h = rw add-zero (step j (rw add-zero at h))
  rises_by j (suc d) h =
      rw add-suc (let l : suc (suc (j + d)) < n = rw add-suc at h in omega (arith, rises_by j d (omega arith), step (suc (j + d)) l))

  -- It rises from each number to every later one below the bound.
  pub rises_below : (j k : ℕ) → j < k → k < n → f j < f k
  rises_below j k h l = let e : suc (j + (k - suc j)) ≡ k = omega arith in rw e at (rises_by j (k - suc j) (omega arith))

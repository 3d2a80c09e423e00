-- How many numbers, and how many pairs of numbers, pass a test. Assumes nothing.
use Rattle.std.specs.Prelude.{Bool, cond, ℕ}
use Rattle.laws.specs.Choice.{sum}

-- how many numbers below n pass
unfoldable pub passing : ℕ → (ℕ → Bool) → ℕ
passing n f = sum n (λ i. cond (f i) 1 0)

-- how many pairs pass, of a number below n and one below m
unfoldable pub pairs : ℕ → ℕ → (ℕ → ℕ → Bool) → ℕ
pairs n m f = sum n (λ i. sum m (λ j. cond (f i j) 1 0))

-- The first number at which a test passes. Assumes nothing.
use Rattle.std.specs.Prelude.{Bool, cond, ℕ, zero, suc}

-- the first number from k on at which f passes, and k + n where f passes at none before that
unfoldable pub first : (ℕ → Bool) → ℕ → ℕ → ℕ
first f zero k = k
first f (suc n) k = cond (f k) k (first f n (suc k))

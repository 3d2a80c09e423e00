-- The table that a function fills. Assumes nothing.
use Rattle.std.specs.Prelude.{List, [], ◌∷◌, ℕ, zero, suc}

-- n entries, the function's values from k on
abbrev pub tab : (ℕ → ℕ) → ℕ → ℕ → List ℕ
tab f zero k = []
tab f (suc n) k = f k ∷ tab f n (suc k)

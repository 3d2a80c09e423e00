-- Tables and rules by computation: the entries of a table that a function fills, and a decision that computes to yes. Assumes nothing.
use mathlib.Core.Path.{◌≡◌, ◌∙◌}
use Prim.Native.Nat.{ℕ, zero, suc, ◌+◌, ◌<◌}
use native.Mathlib.Nat.{add-zero, zero-add, add-suc, suc-add, le_of_suc-le-suc, not-suc-le-zero}
use lib.Dec.{T}
use lib.ListN.{get_or}
use Rattle.laws.specs.Choice.{is_yes}
use Rattle.laws.specs.Decide.{below}
use Rattle.laws.specs.Table.{tab}

-- Entry i of the table from k on is the function's value at k + i.
tab_from : (f : ℕ → ℕ) (n k i : ℕ) → i < n → get_or (tab f n k) i 0 ≡ f (k + i)
tab_from f zero k i h = absurd (not-suc-le-zero h)
tab_from f (suc n) k zero h = rw add-zero
tab_from f (suc n) k (suc i) h = tab_from f n (suc k) i (le_of_suc-le-suc h) ∙ rw (add-suc, suc-add)

-- Entry i of the table is the function's value at i.
pub tab_at : (f : ℕ → ℕ) (n i : ℕ) → i < n → get_or (tab f n 0) i 0 ≡ f i
tab_at f n i h = tab_from f n 0 i h ∙ rw zero-add

-- What a decision that computes to yes decides.
pub decided : {P : Type 0} (d : Dec P) → T (is_yes d) → P
decided (yes p) t = p
decided (no n) t = absurd t

-- A rule of every number below a bound, by one test that is computed.
pub each_below : {P : ℕ → Type 0} (d : (k : ℕ) → Dec (P k)) (n : ℕ) → T (is_yes (below d n)) → (k : ℕ) → k < n → P k
each_below d n = decided (below d n)

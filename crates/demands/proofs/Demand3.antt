-- Demand 3: "Chance never decides acceptance." Two runs of one list of calls from fresh tables, whose words differ and are as many at each call, meet the same
-- numbers, and after each call each heap and class has equally many cached blocks, blocks out and spans. Assumes nothing.
use mathlib.Core.Path.{◌≡◌}
use mathlib.Core.Bool.{true}
use mathlib.Core.List.{List}
use Prim.Native.Nat.{ℕ}
use lib.ListN.{length}
use Rattle.tables.specs.Shape.{base_shape}
use Rattle.tables.specs.Cells.{Tables, as_stated, fresh_tables}
use Rattle.calls.specs.Batch.{batch}
use Rattle.chance.specs.Chance.{Request, begin, SameWords, Ruled, Alike}
use Rattle.chance.specs.ChanceBatch.{words_of, Records, SameBatch}
use Rattle.chance.proofs.ChanceLaws.{chance}
use Rattle.chance.proofs.BatchLaws.{chance_batch}

module _ (heaps spans : ℕ) (t u : Tables) (stated : as_stated (base_shape heaps spans) t ≡ true) (other : as_stated (base_shape heaps spans) u ≡ true) (calls : List Request) where
  -- "each call meets the same acceptance or the same refusal number, and after it each heap and class has equally many cached blocks, blocks out and spans":
  -- call i is lent the words v i in one run and w i in the other; the rule of frees is asked of the first run alone
  pub chance_never_decides :
      (v w : ℕ → List ℕ) → SameWords calls v w → Ruled (base_shape heaps spans) (begin t) calls v →
      Alike (base_shape heaps spans) (begin t) (begin u) calls v w
  chance_never_decides v w = chance heaps spans t u stated other calls v w

  -- and so do two batches of the same records but for the seeds
  pub seeds_never_decide :
      (a b : ℕ → ℕ) (x y k l : List ℕ) → Records (base_shape heaps spans) (begin t) calls a x k → Records (base_shape heaps spans) (begin u) calls b y l →
      Ruled (base_shape heaps spans) (begin t) calls (words_of a) →
      SameBatch (base_shape heaps spans) (length calls) (batch (base_shape heaps spans) (fresh_tables t) x k) (batch (base_shape heaps spans) (fresh_tables u) y l)
  seeds_never_decide a b x y k l = chance_batch heaps spans t u stated other calls a b x y k l

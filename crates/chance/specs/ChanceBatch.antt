-- Demand 3 for a batch: two batches of the same records but for the seeds, where each free names the block that the n-th accepted allocation of its own
-- batch gave. Assumes nothing.
use Rattle.std.specs.Prelude.{◌≡◌, List, [], ◌∷◌, ℕ, suc, ◌+◌, ◌*◌, ◌<◌, ◌≤◌, length, get_or}
use Rattle.tables.specs.Shape.{Shape, classes}
use Rattle.calls.specs.Calls.{words_needed}
use Rattle.calls.specs.Batch.{words_from, record_bytes, record_call, answer_cells, Batched}
use Rattle.chance.specs.Chance.{row_in, Request, State, call_of, step}

-- the words that the seed of record i gives
abbrev pub words_of : (ℕ → ℕ) → ℕ → List ℕ
words_of seeds i = words_from words_needed (seeds i)

-- from record i on, and from this state on, each record is the call that its request is when it comes
abbrev pub Written : Shape → State → List Request → (ℕ → List ℕ) → List ℕ → ℕ → Type 0
Written g s [] ws bytes i = Unit
Written g s (r ∷ rs) ws bytes i =
    (record_call bytes (i * record_bytes) ≡ call_of s r (ws 0)) × Written g (step g s r (ws 0)).state rs (λ j. ws (suc j)) bytes (i + 1)

-- the records of a batch are these requests, and its answers have room
pub record Records (g : Shape) (s : State) (rs : List Request) (seeds : ℕ → ℕ) (bytes answers : List ℕ) : Type 0 where
  pub long : length bytes ≡ length rs * record_bytes
  pub room : length rs * answer_cells ≤ length answers
  pub written : Written g s rs (words_of seeds) bytes 0

-- both batches are accepted, each of n records is answered with the same number, and each heap and class has equally many cached blocks, blocks out and spans
pub record SameBatch (g : Shape) (n : ℕ) (a b : Batched) : Type 0 where
  pub first : a.number ≡ 0
  pub second : b.number ≡ 0
  pub numbers : (i : ℕ) → i < n → get_or a.answers (i * answer_cells) 0 ≡ get_or b.answers (i * answer_cells) 0
  pub rows : (h c : ℕ) → h < g.heaps → c < classes g → row_in g a.table h c ≡ row_in g b.table h c

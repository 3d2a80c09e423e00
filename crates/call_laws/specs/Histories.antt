-- Single calls and batches, one after the other: the calls that they make, and the answers that they get. Assumes nothing.
use Rattle.std.specs.Prelude.{cond, List, [], ◌∷◌, ◌++◌, ℕ, zero, suc, ◌/◌, length, get_or, drop}
use Rattle.tables.specs.Shape.{Shape}
use Rattle.tables.specs.Cells.{Tables}
use Rattle.calls.specs.declared.Answer.{Answer}
use Rattle.calls.specs.Run.{Call, perform}
use Rattle.calls.specs.Batch.{record_bytes, answer_cells, whole_records, batch}
use Rattle.call_laws.specs.Batches.{batch_calls}

-- a single call, or a batch with the cells lent for its answers
pub data Step : Type 0 where
  single : (call : Call) → Step
  several : (bytes answers : List ℕ) → Step

-- n answers, read from the cells that a batch wrote: "Answer: number, span, offset."
unfoldable pub answers_in : ℕ → List ℕ → List Answer
answers_in zero cells = []
answers_in (suc n) cells =
    record { number = get_or cells 0 0; span = get_or cells 1 0; offset = get_or cells 2 0; words = 0 } ∷ answers_in n (drop answer_cells cells)

-- the calls of a step on a sound table, its answers, and the table after it; a batch refused with 10 makes no call
abbrev pub calls_of : Step → List Call
calls_of (single call) = call ∷ []
calls_of (several bytes answers) = cond (whole_records bytes answers) (batch_calls bytes) []

abbrev pub answers_of : Shape → Tables → Step → List Answer
answers_of g t (single call) = (perform g t call).answer ∷ []
answers_of g t (several bytes answers) =
    cond (whole_records bytes answers) (answers_in (length bytes / record_bytes) (batch g t bytes answers).answers) []

abbrev pub table_of : Shape → Tables → Step → Tables
table_of g t (single call) = (perform g t call).table
table_of g t (several bytes answers) = (batch g t bytes answers).table

-- the same of steps one after the other
unfoldable pub history_calls : List Step → List Call
history_calls [] = []
history_calls (p ∷ ps) = calls_of p ++ history_calls ps

unfoldable pub history_answers : Shape → Tables → List Step → List Answer
history_answers g t [] = []
history_answers g t (p ∷ ps) = answers_of g t p ++ history_answers g (table_of g t p) ps

unfoldable pub history_table : Shape → Tables → List Step → Tables
history_table g t [] = t
history_table g t (p ∷ ps) = history_table g (table_of g t p) ps

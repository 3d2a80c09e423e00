-- A batch as a list of single calls. Assumes nothing.
use Rattle.std.specs.Prelude.{List, [], ◌∷◌, ℕ, zero, suc, ◌+◌, ◌*◌, ◌/◌, length}
use Rattle.calls.specs.declared.Answer.{Answer}
use Rattle.calls.specs.Run.{Call}
use Rattle.calls.specs.Batch.{record_bytes, record_call}

-- the calls of n records from record i on
unfoldable pub calls_from : ℕ → ℕ → List ℕ → List Call
calls_from zero i bytes = []
calls_from (suc n) i bytes = record_call bytes (i * record_bytes) ∷ calls_from n (i + 1) bytes

-- the calls of a batch
abbrev pub batch_calls : List ℕ → List Call
batch_calls bytes = calls_from (length bytes / record_bytes) 0 bytes

-- "Answer: number, span, offset.", one after the other
unfoldable pub answer_numbers : List Answer → List ℕ
answer_numbers [] = []
answer_numbers (a ∷ rest) = a.number ∷ a.span ∷ a.offset ∷ answer_numbers rest

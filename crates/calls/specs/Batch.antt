-- A batch: records of 28 bytes, answered one after the other. Assumes nothing.
use Rattle.std.specs.Prelude.{Bool, ◌&&◌, cond, List, [], ◌∷◌, ℕ, zero, suc, ◌+◌, ◌*◌, ◌/◌, ◌%◌, ◌^◌, length, get_or, eqb, leb}
use Rattle.std.proofs.lemmas.List.Edits.{sets}
use Rattle.tables.specs.Shape.{Shape}
use Rattle.tables.specs.Cells.{Tables, as_stated}
use Rattle.sound.specs.Decided.{is_sound}
use Rattle.calls.specs.Outcome.{Outcome}
use Rattle.calls.specs.Calls.{words_needed}
use Rattle.calls.specs.Run.{Call, allocation, release, malformed, perform_sound}

-- "The words are the seed, then each the previous plus 0x9E3779B97F4A7C15, wrapping at 2^64."
unfoldable pub word_step : ℕ
word_step = 0x9E3779B97F4A7C15

unfoldable pub words_from : ℕ → ℕ → List ℕ
words_from zero seed = []
words_from (suc n) seed = seed ∷ words_from n ((seed + word_step) % 2 ^ 64)

-- a little-endian number of n bytes
unfoldable pub little_endian : ℕ → List ℕ → ℕ → ℕ
little_endian zero bytes at = 0
little_endian (suc n) bytes at = get_or bytes at 0 + 256 * little_endian n bytes (at + 1)

-- "Batch record, 28 bytes: mark A5 5A, kind, heap, three little-endian 64-bit numbers."
unfoldable pub record_bytes : ℕ
record_bytes = 28

abbrev pub number_at : List ℕ → ℕ → ℕ → ℕ
number_at bytes at i = little_endian 8 bytes (at + 4 + 8 * i)

abbrev pub marked : List ℕ → ℕ → Bool
marked bytes at = eqb (get_or bytes at 0) 0xA5 && eqb (get_or bytes (at + 1) 0) 0x5A

abbrev pub kind_is : ℕ → List ℕ → ℕ → Bool
kind_is kind bytes at = eqb (get_or bytes (at + 2) 0) kind

abbrev pub heap_at : List ℕ → ℕ → ℕ
heap_at bytes at = get_or bytes (at + 3) 0

-- "Kind 1: size, alignment, seed. Kind 2: span, offset, 0. Another mark, kind or last number of a free is 9."
unfoldable pub record_call : List ℕ → ℕ → Call
record_call bytes at =
    cond (marked bytes at && kind_is 1 bytes at)
    (allocation (heap_at bytes at) (number_at bytes at 0) (number_at bytes at 1) (words_from words_needed (number_at bytes at 2)))
    (cond (marked bytes at && kind_is 2 bytes at && eqb (number_at bytes at 2) 0)
    (release (heap_at bytes at) (number_at bytes at 0) (number_at bytes at 1))
    malformed)

pub record Batched : Type 0 where
  pub number : ℕ
  pub answers : List ℕ
  pub table : Tables

abbrev pub batched : ℕ → List ℕ → Tables → Batched
batched number answers t = record { number = number; answers = answers; table = t }

-- "Answer: number, span, offset."
unfoldable pub answer_cells : ℕ
answer_cells = 3

abbrev pub answered : List ℕ → ℕ → Outcome → List ℕ
answered answers i o =
    sets answers (i * answer_cells) (o.answer.number ∷ o.answer.span ∷ o.answer.offset ∷ [])

-- n records from record i on, in order
unfoldable pub batch_from : ℕ → ℕ → Shape → Tables → List ℕ → List ℕ → Batched
batch_from zero i g t bytes answers = batched 0 answers t
batch_from (suc n) i g t bytes answers =
    batch_from n (i + 1) g (perform_sound g t (record_call bytes (i * record_bytes))).table bytes
    (answered answers i (perform_sound g t (record_call bytes (i * record_bytes))))

-- not refused with 10: "batch length not a multiple of 28, or answers shorter than 3 numbers a record"
unfoldable pub whole_records : List ℕ → List ℕ → Bool
whole_records bytes answers =
    eqb (length bytes % record_bytes) 0 && leb (length bytes / record_bytes * answer_cells) (length answers)

-- 1, then 10, then 2: "Refusals 1, 2 and 10 of a batch write no answer cell."
unfoldable pub batch : Shape → Tables → List ℕ → List ℕ → Batched
batch g t bytes answers =
    cond (as_stated g t)
    (cond (whole_records bytes answers)
    (cond (is_sound g t) (batch_from (length bytes / record_bytes) 0 g t bytes answers) (batched 2 answers t))
    (batched 10 answers t))
    (batched 1 answers t)

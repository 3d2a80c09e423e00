-- Demand 2. Its second sentence: "Class choice, bit deposit and slot division are proved against their written definitions."; and of its first what is said
-- over the definitions alone: the words used, and a batch as its single calls. Assumes nothing.
use Rattle.std.specs.Prelude.{Option, Some, None}
use mathlib.Core.Path.{◌≡◌, refl}
use mathlib.Core.Bool.{true}
use mathlib.Core.List.{List, ◌++◌}
use mathlib.Core.Logic.{◌⊎◌}
use Prim.Native.Nat.{ℕ, ◌+◌, ◌-◌, ◌*◌, ◌/◌, ◌^◌, ◌<◌, ◌≤◌}
use lib.ListN.{length, drop}
use Rattle.size_classes.specs.SlotSizes.{rising, groups, slot_sizes, slot_size, last_size}
use Rattle.size_classes.specs.Class.{raised, smallest_class, class_of}
use Rattle.size_classes.specs.Slots.{span_length, by_reciprocal}
use Rattle.size_classes.proofs.SlotSizeLaws.{slot_sizes_admissible}
use Rattle.size_classes.proofs.ClassTheorems.{Answer, answer, answer_is, too_large_exactly}
use Rattle.size_classes.proofs.Reciprocal.{class_division}
use Rattle.bits.specs.Deposit.{lowest, pdep}
use Rattle.bits.proofs.DepositLaws.{lowest_is_pdep}
use Rattle.tables.specs.Shape.{Shape, class_heap}
use Rattle.tables.specs.Cells.{Tables, as_stated}
use Rattle.sound.specs.Sound.{Sound}
use Rattle.calls.specs.Heap.{refill_first}
use Rattle.calls.specs.Calls.{words_needed, allocate}
use Rattle.calls.specs.Run.{run}
use Rattle.calls.specs.Batch.{record_bytes, answer_cells, batched, whole_records, batch}
use Rattle.call_laws.specs.Served.{Served}
use Rattle.call_laws.specs.Batches.{batch_calls, answer_numbers}
use Rattle.call_laws.proofs.SingleLaws.{allocate_accepted}
use Rattle.call_laws.proofs.BatchLaws.{batch_is_singles}

-- 01's list ends in 131072.
pub last_size_lem : last_size slot_sizes ≡ 131072
unfolding rising groups slot_sizes
last_size_lem = refl

-- "The class is the smallest whose slot is at least the size and a multiple of that alignment": the definition gives such an answer to every request,
pub class_choice : (size alignment : ℕ) → Answer slot_sizes size alignment (class_of slot_sizes size alignment)
class_choice size alignment = answer slot_sizes slot_sizes_admissible size alignment

-- and no other answer is one.
pub class_choice_only : (size alignment : ℕ) (r : Option ℕ) → Answer slot_sizes size alignment r → class_of slot_sizes size alignment ≡ r
class_choice_only size alignment r p = answer_is slot_sizes slot_sizes_admissible size alignment r p

-- Refusal 5 stands exactly where "size, or raised alignment, above 131072".
pub five_exactly :
    (size alignment : ℕ) →
    (class_of slot_sizes size alignment ≡ None → (131072 < size) ⊎ (131072 < raised alignment)) ×
    ((131072 < size) ⊎ (131072 < raised alignment) → class_of slot_sizes size alignment ≡ None)
five_exactly size alignment = rw last_size_lem at (too_large_exactly slot_sizes slot_sizes_admissible size alignment)

-- The lowest n set bits of a word, as the code takes them, are Intel's PDEP of n ones.
pub bit_deposit : (n mask : ℕ) → lowest 64 n mask ≡ pdep (2 ^ n - 1) mask
bit_deposit = lowest_is_pdep

-- "the source multiplies by the rounded-up quotient of 2^64 and the slot size, and keeps the part above 2^64. That this equals plain division is proved
-- for each class and every offset inside the span."
pub slot_division :
    (k offset : ℕ) →
    k < length slot_sizes →
    offset < span_length (slot_size slot_sizes k) →
    offset / slot_size slot_sizes k ≡ by_reciprocal (slot_size slot_sizes k) offset
slot_division = class_division slot_sizes slot_sizes_admissible

-- ---- the words used, and batches

module _ {g : Shape} (w : Served g) (t : Tables) where
  -- "Each claim uses one word, in order, and the draw uses the next. The answer reports the number of words used.": one for each claim of the refill, and
  -- one for the draw, and no more than must be lent.
  pub words_used :
      (heap size alignment : ℕ) (words : List ℕ) → (allocate g t heap size alignment words).answer.number ≡ 0 →
      ((allocate g t heap size alignment words).answer.words
      ≡ (refill_first g.spans t (class_heap g heap (smallest_class g.sizes size alignment)) words).words + 1)
      × ((allocate g t heap size alignment words).answer.words ≤ words_needed)
  words_used heap size alignment words z = let a = (allocate_accepted w t heap size alignment words z).1 in (a.used, a.few)

  -- "On a sound table a batch answers and changes cells as its well-formed records would as single calls, in order.", a malformed one as 9; "Cells past the
  -- last answer stay."
  pub batch_as_singles :
      (bytes answers : List ℕ) → as_stated g t ≡ true → Sound g t → whole_records bytes answers ≡ true →
      batch g t bytes answers
      ≡ batched 0 (answer_numbers (run g t (batch_calls bytes)).answers ++ drop (length bytes / record_bytes * answer_cells) answers)
      (run g t (batch_calls bytes)).table
  batch_as_singles = batch_is_singles w t

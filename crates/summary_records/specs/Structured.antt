-- The class summary as structs, one per class: the answer, and the structs as they are filled from flat numbers. Assumes nothing.
use Rattle.std.specs.Prelude.{◌&&◌, cond, List, [], ◌∷◌, ℕ, zero, suc, ◌+◌, ◌*◌, eqb, length, set}
use Rattle.laws.specs.Choice.{sum}
use Rattle.size_classes.specs.SlotSizes.{slot_size}
use Rattle.size_classes.specs.Slots.{slots_per_span}
use Rattle.tables.specs.Shape.{Shape, classes, class_heap}
use Rattle.tables.specs.Cells.{Tables, as_stated, occupied_at, count_at}
use Rattle.sound.specs.Decided.{is_sound}
use Rattle.calls.specs.Summary.{over_spans, pending_slots}
use Rattle.summing.specs.Tally.{spans_cell, slots_cell, used_cell, cached_cell, pending_cell, summary_at}
use Rattle.summary_records.specs.declared.ClassRecord.{ClassRecord}

-- ---- what the structs of a table hold

-- of one class: its spans, their slots, the occupied of them, the cached blocks over all heaps, and the pending slots
abbrev pub class_struct : Shape → Tables → ℕ → ClassRecord
class_struct g t c =
    record {
      spans = over_spans t c (λ s. 1);
      slots = over_spans t c (λ s. 1) * slots_per_span (slot_size g.sizes c);
      used = over_spans t c (occupied_at t);
      cached = sum g.heaps (λ h. count_at t (class_heap g h c));
      pending = over_spans t c (pending_slots t);
    }

-- of n classes from class c on
unfoldable pub class_structs : ℕ → ℕ → Shape → Tables → List ClassRecord
class_structs zero c g t = []
class_structs (suc n) c g t = class_struct g t c ∷ class_structs n (c + 1) g t

pub record Structured : Type 0 where
  pub number : ℕ
  pub records : List ClassRecord

abbrev pub structured : ℕ → List ClassRecord → Structured
structured number records = record { number = number; records = records }

-- "a lent table of 48 records, one per class", refused with 1 or 2; "On a refusal the records stay."
unfoldable pub summary_structs : Shape → Tables → List ClassRecord → Structured
summary_structs g t out =
    cond (as_stated g t && eqb (length out) (classes g))
    (cond (is_sound g t) (structured 0 (class_structs (classes g) 0 g t)) (structured 2 out))
    (structured 1 out)

-- ---- as they are filled from flat numbers

-- the five numbers of class c
abbrev pub record_at : List ℕ → ℕ → ClassRecord
record_at flat c =
    record {
      spans = summary_at flat c spans_cell;
      slots = summary_at flat c slots_cell;
      used = summary_at flat c used_cell;
      cached = summary_at flat c cached_cell;
      pending = summary_at flat c pending_cell;
    }

-- the records of n classes from class c on
unfoldable pub records_from : ℕ → ℕ → List ℕ → List ClassRecord
records_from zero c flat = []
records_from (suc n) c flat = record_at flat c ∷ records_from n (c + 1) flat

-- the first n records are written
abbrev pub filled : List ℕ → List ClassRecord → ℕ → List ClassRecord
filled flat out zero = out
filled flat out (suc n) = set (filled flat out n) n (record_at flat n)

-- The class summary. Assumes nothing.
use Rattle.std.specs.Prelude.{◌&&◌, cond, List, [], ◌∷◌, ◌++◌, ℕ, zero, suc, ◌+◌, ◌*◌, length, eqb}
use Rattle.laws.specs.Choice.{sum}
use Rattle.laws.specs.Word.{popcount}
use Rattle.size_classes.specs.SlotSizes.{slot_size}
use Rattle.size_classes.specs.Slots.{slots_per_span}
use Rattle.tables.specs.Shape.{Shape, classes, class_heap}
use Rattle.tables.specs.Cells.{Tables, as_stated, bitmap_word, remote_word, class_at, occupied_at, count_at}
use Rattle.sound.specs.Decided.{is_sound}

-- the sum of f over the used spans of class c
unfoldable pub over_spans : Tables → ℕ → (ℕ → ℕ) → ℕ
over_spans t c f = sum t.used (λ s. cond (eqb (class_at t s) c) (f s) 0)

-- the pending slots of span s
unfoldable pub pending_slots : Tables → ℕ → ℕ
pending_slots t s = sum 64 (λ i. popcount (bitmap_word t s (remote_word i)))

-- "a lent table of 48 records, one per class: spans, slots, used, cached, pending over all heaps. Used is the sum of the spans' occupied counts."
unfoldable pub class_record : Shape → Tables → ℕ → List ℕ
class_record g t c =
    over_spans t c (λ s. 1) ∷ (over_spans t c (λ s. 1) * slots_per_span (slot_size g.sizes c)) ∷ over_spans t c (occupied_at t) ∷
    sum g.heaps (λ h. count_at t (class_heap g h c)) ∷ over_spans t c (pending_slots t) ∷ []

unfoldable pub summary_cells : ℕ
summary_cells = 5

-- the records of n classes from class c on
unfoldable pub class_records : ℕ → ℕ → Shape → Tables → List ℕ
class_records zero c g t = []
class_records (suc n) c g t = class_record g t c ++ class_records n (c + 1) g t

pub record Summed : Type 0 where
  pub number : ℕ
  pub records : List ℕ

abbrev pub summed : ℕ → List ℕ → Summed
summed number records = record { number = number; records = records }

-- "the summary with 1 or 2 .. On a refusal the records stay."; the records' length is a lent table's length
unfoldable pub summary : Shape → Tables → List ℕ → Summed
summary g t records =
    cond (as_stated g t && eqb (length records) (classes g * summary_cells))
    (cond (is_sound g t) (summed 0 (class_records (classes g) 0 g t)) (summed 2 records))
    (summed 1 records)

-- Lengths, rows and ranges of 01's shapes and of the smallest one. Assumes nothing.
use mathlib.Core.Path.{◌≡◌, refl}
use mathlib.Core.Bool.{true, false}
use Prim.Native.Nat.{ℕ}
use lib.ListN.{replicate}
use Rattle.laws.specs.Choice.{sum}
use Rattle.size_classes.specs.SlotSizes.{rising, groups, slot_sizes, largest_slot}
use Rattle.size_classes.specs.Slots.{most_slots, fewest_slots, slots_per_span}
use Rattle.magazine_layout.specs.Layout.{magazine_bytes, least_capacity, most_capacity, capacity_for, low_water_for, magazine_offset, entries_per_heap}
use Rattle.tables.specs.Shape.{base_shape, most_heaps, most_spans, bitmap_cells, record_cells, head_cells, row_of, base_of, class_heap}
use Rattle.tables.specs.Cells.{Tables, tables, right_shape, right_lengths, as_stated, fresh_tables, entry_of, entry_span, entry_slot}
use Rattle.tables.proofs.Tiny.{tiny, one, blank}

abbrev lent : ℕ → ℕ → ℕ → ℕ → Tables
lent bits spans entries heads = tables (replicate bits 7) (replicate spans 7) (replicate entries 7) (replicate heads 7) 7

pub record WorkedTables : Type 0 where
  -- two heaps and three spans: 130 words and one record a span; 792 entries and 240 heads, reserves and counts a heap
  pub stated : as_stated (base_shape 2 3) (lent 390 15 1584 480) ≡ true
  pub one_short : as_stated (base_shape 2 3) (lent 389 15 1584 480) ≡ false
  pub one_more : as_stated (base_shape 2 3) (lent 390 15 1584 481) ≡ false
  -- "Heaps: 1 to 16. Spans: 1 to 1024."
  pub no_heap : right_shape (base_shape 0 1) ≡ false
  pub no_span : right_shape (base_shape 1 0) ≡ false
  pub most : right_shape (base_shape 16 1024) ≡ true
  pub many_heaps : right_shape (base_shape 17 1) ≡ false
  pub many_spans : right_shape (base_shape 1 1025) ≡ false
  -- class 47 of heap 1
  pub row : row_of (base_shape 2 3) 1 47 ≡ 95
  pub base : base_of (base_shape 2 3) 1 47 ≡ 1576
  pub numbers : class_heap (tiny 3) 0 0 ≡ one
  -- made anew whatever stood there
  pub fresh : fresh_tables (lent 390 15 8 5) ≡ blank 3
  -- an entry is a span and a slot of it
  pub entry : (entry_span (entry_of 5 4095) ≡ 5) × (entry_slot (entry_of 5 4095) ≡ 4095)

pub worked : WorkedTables
unfolding sum rising groups slot_sizes largest_slot most_slots fewest_slots slots_per_span magazine_bytes least_capacity most_capacity capacity_for low_water_for magazine_offset entries_per_heap most_heaps most_spans bitmap_cells record_cells head_cells row_of base_of class_heap right_shape right_lengths as_stated fresh_tables entry_of entry_span entry_slot
worked =
    record {
      stated = refl;
      one_short = refl;
      one_more = refl;
      no_heap = refl;
      no_span = refl;
      most = refl;
      many_heaps = refl;
      many_spans = refl;
      row = refl;
      base = refl;
      numbers = refl;
      fresh = refl;
      entry = (refl, refl);
    }

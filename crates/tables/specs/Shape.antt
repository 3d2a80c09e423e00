-- What a table is made for: slot sizes, heaps and spans; and the lengths that follow. Assumes nothing.
use Rattle.std.specs.Prelude.{List, ℕ, ◌+◌, ◌*◌, length}
use Rattle.size_classes.specs.SlotSizes.{slot_sizes, slot_size}
use Rattle.size_classes.specs.Slots.{slots_per_span}
use Rattle.magazine_layout.specs.Layout.{capacity_for, low_water_for, magazine_offset, entries_per_heap}
use Rattle.tables.specs.declared.ClassHeap.{ClassHeap}

-- the slot sizes of the classes, the most spans that any table may have, and this table's heaps and spans
pub record Shape : Type 0 where
  pub sizes : List ℕ
  pub most : ℕ
  pub heaps : ℕ
  pub spans : ℕ

abbrev pub shape : List ℕ → ℕ → ℕ → ℕ → Shape
shape sizes most heaps spans = record { sizes = sizes; most = most; heaps = heaps; spans = spans }

-- "Heaps: 1 to 16. Spans: 1 to 1024."
unfoldable pub most_heaps : ℕ
most_heaps = 16

unfoldable pub most_spans : ℕ
most_spans = 1024

-- a shape over 01's list and limit
abbrev pub base_shape : ℕ → ℕ → Shape
base_shape heaps spans = shape slot_sizes most_spans heaps spans

abbrev pub classes : Shape → ℕ
classes g = length g.sizes

-- "Lent: 130 bitmap words": local summary, 64 local words, remote summary, 64 remote words
unfoldable pub bitmap_cells : ℕ
bitmap_cells = 130

-- "and one span record per span": class, owner, occupied, previous, next
unfoldable pub record_cells : ℕ
record_cells = 5

-- "240 list heads, reserves and counts" per heap: for each class partial, full, empty, reserve, count
unfoldable pub head_cells : ℕ
head_cells = 5

-- where class c of heap h has its row of heads, and its magazine
unfoldable pub row_of : Shape → ℕ → ℕ → ℕ
row_of g h c = h * classes g + c

unfoldable pub base_of : Shape → ℕ → ℕ → ℕ
base_of g h c = h * entries_per_heap g.sizes + magazine_offset g.sizes c

-- class c of heap h, with its row of heads and the base of its magazine at hand
unfoldable pub class_placed : List ℕ → ℕ → ℕ → ℕ → ℕ → ClassHeap
class_placed sizes h c row base =
    record {
      class = c;
      owner = h;
      slot = slot_size sizes c;
      slots = slots_per_span (slot_size sizes c);
      capacity = capacity_for (slot_size sizes c);
      low = low_water_for (capacity_for (slot_size sizes c));
      row = row;
      base = base;
    }

-- class c of heap h: its numbers and its places
unfoldable pub class_heap : Shape → ℕ → ℕ → ClassHeap
class_heap g h c =
    record {
      class = c;
      owner = h;
      slot = slot_size g.sizes c;
      slots = slots_per_span (slot_size g.sizes c);
      capacity = capacity_for (slot_size g.sizes c);
      low = low_water_for (capacity_for (slot_size g.sizes c));
      row = row_of g h c;
      base = base_of g h c;
    }

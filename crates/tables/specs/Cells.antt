-- The lent table as one value, the names of its cells, and the fresh table. A link is 0 for none, and s + 1 for span s. Assumes nothing.
use Rattle.std.specs.Prelude.{Bool, ◌&&◌, List, ℕ, ◌+◌, ◌*◌, ◌/◌, ◌%◌, length, get_or, set, replicate, eqb, leb}
use Rattle.size_classes.specs.Slots.{most_slots}
use Rattle.magazine_layout.specs.Layout.{entries_per_heap}
use Rattle.tables.specs.declared.ClassHeap.{ClassHeap}
use Rattle.tables.specs.Shape.{Shape, most_heaps, classes, bitmap_cells, record_cells, head_cells}

pub record Tables : Type 0 where
  pub bits : List ℕ
  pub spans : List ℕ
  pub entries : List ℕ
  pub heads : List ℕ
  pub used : ℕ

abbrev pub tables : List ℕ → List ℕ → List ℕ → List ℕ → ℕ → Tables
tables b s e h u = record { bits = b; spans = s; entries = e; heads = h; used = u }

-- not refused with 1: "heaps, spans or a lent table's length is not as stated here"
unfoldable pub right_shape : Shape → Bool
right_shape g = leb 1 g.heaps && leb g.heaps most_heaps && leb 1 g.spans && leb g.spans g.most

unfoldable pub right_lengths : Shape → Tables → Bool
right_lengths g t =
    eqb (length t.bits) (g.spans * bitmap_cells) && eqb (length t.spans) (g.spans * record_cells) &&
    eqb (length t.entries) (g.heaps * entries_per_heap g.sizes) &&
    eqb (length t.heads) (g.heaps * classes g * head_cells)

unfoldable pub as_stated : Shape → Tables → Bool
as_stated g t = right_shape g && right_lengths g t

-- "A fresh table has no spans, empty lists, zero counts, and 0 in every other cell."
unfoldable pub fresh_tables : Tables → Tables
fresh_tables t =
    tables (replicate (length t.bits) 0) (replicate (length t.spans) 0) (replicate (length t.entries) 0)
    (replicate (length t.heads) 0) 0

-- ---- the 130 words of a span

unfoldable pub bitmap_cell : ℕ → ℕ → ℕ
bitmap_cell s i = s * bitmap_cells + i

abbrev pub bitmap_word : Tables → ℕ → ℕ → ℕ
bitmap_word t s i = get_or t.bits (bitmap_cell s i) 0

abbrev pub set_bits : Tables → List ℕ → Tables
set_bits t b = tables b t.spans t.entries t.heads t.used

-- which of them are the summaries, and the words that the summaries speak of
abbrev pub local_summary : ℕ
local_summary = 0

abbrev pub local_word : ℕ → ℕ
local_word i = 1 + i

abbrev pub remote_summary : ℕ
remote_summary = 65

abbrev pub remote_word : ℕ → ℕ
remote_word i = 66 + i

-- ---- the record of a span

unfoldable pub span_cell : ℕ → ℕ → ℕ
span_cell s f = s * record_cells + f

abbrev pub span_field : Tables → ℕ → ℕ → ℕ
span_field t s f = get_or t.spans (span_cell s f) 0

abbrev pub set_spans : Tables → List ℕ → Tables
set_spans t sp = tables t.bits sp t.entries t.heads t.used

abbrev pub class_field : ℕ
class_field = 0

abbrev pub owner_field : ℕ
owner_field = 1

abbrev pub occupied_field : ℕ
occupied_field = 2

abbrev pub previous_field : ℕ
previous_field = 3

abbrev pub next_field : ℕ
next_field = 4

abbrev pub class_at : Tables → ℕ → ℕ
class_at t s = span_field t s class_field

abbrev pub owner_at : Tables → ℕ → ℕ
owner_at t s = span_field t s owner_field

abbrev pub occupied_at : Tables → ℕ → ℕ
occupied_at t s = span_field t s occupied_field

abbrev pub previous_at : Tables → ℕ → ℕ
previous_at t s = span_field t s previous_field

abbrev pub next_at : Tables → ℕ → ℕ
next_at t s = span_field t s next_field

-- ---- the heads of one class of one heap

unfoldable pub head_cell : ℕ → ℕ → ℕ
head_cell row f = row * head_cells + f

abbrev pub head_at : Tables → ClassHeap → ℕ → ℕ
head_at t k f = get_or t.heads (head_cell k.row f) 0

abbrev pub set_head : Tables → ClassHeap → ℕ → ℕ → Tables
set_head t k f v = tables t.bits t.spans t.entries (set t.heads (head_cell k.row f) v) t.used

abbrev pub partial_list : ℕ
partial_list = 0

abbrev pub full_list : ℕ
full_list = 1

abbrev pub empty_list : ℕ
empty_list = 2

abbrev pub reserve : ℕ
reserve = 3

abbrev pub counter : ℕ
counter = 4

abbrev pub count_at : Tables → ClassHeap → ℕ
count_at t k = head_at t k counter

-- ---- the magazine of one class of one heap: an entry is span * 4096 + slot

abbrev pub entry_at : Tables → ClassHeap → ℕ → ℕ
entry_at t k i = get_or t.entries (k.base + i) 0

abbrev pub set_entry : Tables → ClassHeap → ℕ → ℕ → Tables
set_entry t k i v = tables t.bits t.spans (set t.entries (k.base + i) v) t.heads t.used

unfoldable pub entry_of : ℕ → ℕ → ℕ
entry_of s q = s * most_slots + q

unfoldable pub entry_span : ℕ → ℕ
entry_span e = e / most_slots

unfoldable pub entry_slot : ℕ → ℕ
entry_slot e = e % most_slots

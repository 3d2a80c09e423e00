-- Where cells stand: each is in its table, and no two of them meet. Users of cells cite these laws and never a stride. Assumes nothing.
use mathlib.Core.Path.{◌≡◌, sym, ◌∙◌, ap}
use Prim.Native.Nat.{ℕ, ◌+◌, ◌*◌, ◌/◌, ◌%◌, ◌<◌, ◌≤◌}
use native.Mathlib.Omega.{arith}
use lib.Arith.{digits_lt, digits_div, digits_mod}
use Rattle.size_classes.specs.Slots.{most_slots}
use Rattle.tables.specs.Shape.{Shape, classes, bitmap_cells, record_cells, head_cells, row_of}
use Rattle.tables.specs.Cells.{bitmap_cell, span_cell, head_cell, local_word, remote_word, remote_summary, next_field, counter, entry_of, entry_span, entry_slot}

-- two rows of n cells each: a cell that stands in both is the same cell of the same row
pub row_same : (n s t i j : ℕ) → i < n → j < n → s * n + i ≡ t * n + j → (s ≡ t) × (i ≡ j)
row_same n s t i j hi hj e =
    (sym (digits_div s hi) ∙ ap (λ (x : ℕ). x / n) e ∙ digits_div t hj, sym (digits_mod s hi) ∙ ap (λ (x : ℕ). x % n) e ∙ digits_mod t hj)

-- ---- bitmap words

-- a word of one of n spans is among their words
pub bitmap_in : {s n i : ℕ} → s < n → i < bitmap_cells → bitmap_cell s i < n * bitmap_cells
unfolding bitmap_cell
bitmap_in hs hi = digits_lt hs hi

-- words of two spans, or two words of one, stand apart
pub bitmap_same : (s t : ℕ) {i j : ℕ} → i < bitmap_cells → j < bitmap_cells → bitmap_cell s i ≡ bitmap_cell t j → (s ≡ t) × (i ≡ j)
unfolding bitmap_cell
bitmap_same s t {i} {j} hi hj e = row_same bitmap_cells s t i j hi hj e

-- the words of a span stand one after the other
pub bitmap_next : (s i j : ℕ) → bitmap_cell s (i + j) ≡ bitmap_cell s i + j
unfolding bitmap_cell
bitmap_next s i j = omega arith

-- both summaries and all 64 words of each side are among a span's words
pub local_in : {i : ℕ} → i < 64 → local_word i < bitmap_cells
unfolding bitmap_cells
local_in h = omega arith

pub remote_in : {i : ℕ} → i < 64 → remote_word i < bitmap_cells
unfolding bitmap_cells
remote_in h = omega arith

pub summaries_in : {i : ℕ} → i ≤ remote_summary → i < bitmap_cells
unfolding bitmap_cells
summaries_in h = omega arith

-- ---- records

pub span_in : {s n f : ℕ} → s < n → f < record_cells → span_cell s f < n * record_cells
unfolding span_cell
span_in hs hf = digits_lt hs hf

pub span_same : (s t : ℕ) {f h : ℕ} → f < record_cells → h < record_cells → span_cell s f ≡ span_cell t h → (s ≡ t) × (f ≡ h)
unfolding span_cell
span_same s t {f} {h} hf hh e = row_same record_cells s t f h hf hh e

pub span_next : (s f j : ℕ) → span_cell s (f + j) ≡ span_cell s f + j
unfolding span_cell
span_next s f j = omega arith

-- a record has a cell for each span before it
pub span_least : (s f : ℕ) → s ≤ span_cell s f
unfolding span_cell record_cells
span_least s f = omega arith

-- class, owner, occupied, previous and next are fields of a record
pub field_in : {f : ℕ} → f ≤ next_field → f < record_cells
unfolding record_cells
field_in h = omega arith

-- ---- heads

pub head_in : {r n f : ℕ} → r < n → f < head_cells → head_cell r f < n * head_cells
unfolding head_cell
head_in hr hf = digits_lt hr hf

pub head_same : (r s : ℕ) {f h : ℕ} → f < head_cells → h < head_cells → head_cell r f ≡ head_cell s h → (r ≡ s) × (f ≡ h)
unfolding head_cell
head_same r s {f} {h} hf hh e = row_same head_cells r s f h hf hh e

-- the lists' fronts, the reserve and the count are heads of a row
pub list_in : {f : ℕ} → f ≤ counter → f < head_cells
unfolding head_cells
list_in h = omega arith

-- class c of heap h has a row, and no other class or heap has it
pub row_in : (g : Shape) {h c : ℕ} → h < g.heaps → c < classes g → row_of g h c < g.heaps * classes g
unfolding row_of
row_in g hh hc = digits_lt hh hc

pub rows_same : (g : Shape) (h i c d : ℕ) → c < classes g → d < classes g → row_of g h c ≡ row_of g i d → (h ≡ i) × (c ≡ d)
unfolding row_of
rows_same g h i c d hc hd e = row_same (classes g) h i c d hc hd e

-- ---- entries

-- an entry names its span and its slot
pub entry_span_lem : (s : ℕ) {q : ℕ} → q < most_slots → entry_span (entry_of s q) ≡ s
unfolding entry_of entry_span
entry_span_lem s h = digits_div s h

pub entry_slot_lem : (s : ℕ) {q : ℕ} → q < most_slots → entry_slot (entry_of s q) ≡ q
unfolding entry_of entry_slot
entry_slot_lem s h = digits_mod s h

-- The class summary as it is counted: the records as columns of cells, what is added for one span and written for one class, and what makes that fit.
-- Assumes nothing.
use Rattle.std.specs.Prelude.{◌≡◌, cond, List, ℕ, ◌+◌, ◌*◌, ◌^◌, ◌<◌, ◌≤◌, eqb, length, get_or, set}
use Rattle.laws.specs.Choice.{sum}
use Rattle.laws.specs.Word.{popcount}
use Rattle.size_classes.specs.SlotSizes.{slot_size}
use Rattle.size_classes.specs.Slots.{most_slots, slots_per_span}
use Rattle.magazine_layout.specs.Layout.{most_capacity}
use Rattle.tables.specs.Shape.{Shape, most_heaps, classes, head_cells, class_heap}
use Rattle.tables.specs.Cells.{Tables, bitmap_cell, remote_word, class_at, occupied_at, count_at}
use Rattle.span.specs.Room.{WordCells, FieldCells}
use Rattle.sound_spans.specs.WordSound.{UsedCells}
use Rattle.calls.specs.Summary.{summary_cells}

-- ---- the cells of a class's record

abbrev pub spans_cell : ℕ
spans_cell = 0

abbrev pub slots_cell : ℕ
slots_cell = 1

abbrev pub used_cell : ℕ
used_cell = 2

abbrev pub cached_cell : ℕ
cached_cell = 3

abbrev pub pending_cell : ℕ
pending_cell = 4

-- where cell f of the record of class c stands
unfoldable pub summary_cell : ℕ → ℕ → ℕ
summary_cell c f = c * summary_cells + f

abbrev pub summary_at : List ℕ → ℕ → ℕ → ℕ
summary_at out c f = get_or out (summary_cell c f) 0

-- cell f of the records of the first n classes holds g
pub record Column (n : ℕ) (out : List ℕ) (f : ℕ) (g : ℕ → ℕ) : Type 0 where
  pub at : (c : ℕ) → c < n → summary_at out c f ≡ g c

-- ---- what is counted

-- the set bits of the first n remote words of span s
unfoldable pub pending_in : List ℕ → ℕ → ℕ → ℕ
pending_in bits s n = sum n (λ i. popcount (get_or bits (bitmap_cell s (remote_word i)) 0))

-- the sum of f over those of the first n spans that are of class c
unfoldable pub tally : Tables → ℕ → (ℕ → ℕ) → ℕ → ℕ
tally t n f c = sum n (λ s. cond (eqb (class_at t s) c) (f s) 0)

-- the sum of the counts of class c over the first n heaps
unfoldable pub cached_in : Shape → Tables → ℕ → ℕ → ℕ
cached_in g t n c = sum n (λ h. count_at t (class_heap g h c))

-- ---- the steps

-- v is added to cell f of the record of class c
unfoldable pub added : List ℕ → ℕ → ℕ → ℕ → List ℕ
added out c f v = set out (summary_cell c f) (summary_at out c f + v)

-- span s is counted
unfoldable pub span_added : Tables → ℕ → List ℕ → List ℕ
span_added t s out =
    added (added (added out (class_at t s) spans_cell 1) (class_at t s) used_cell (occupied_at t s)) (class_at t s) pending_cell
    (pending_in t.bits s 64)

-- the slots and the cached blocks of class c are written
unfoldable pub class_written : Shape → Tables → ℕ → List ℕ → List ℕ
class_written g t c out =
    set (set out (summary_cell c slots_cell) (summary_at out c spans_cell * slots_per_span (slot_size g.sizes c))) (summary_cell c cached_cell)
    (cached_in g t g.heaps c)

-- ---- what makes the steps fit

-- the cells of span s are there, and so is the record of its class, with room for what is added
pub record SpanFits (t : Tables) (s : ℕ) (out : List ℕ) : Type 0 where
  pub words : WordCells t.bits s
  pub fields : FieldCells t.spans s
  pub there : (f : ℕ) → f < summary_cells → summary_cell (class_at t s) f < length out
  pub spans_fit : summary_at out (class_at t s) spans_cell + 1 < 2 ^ 64
  pub used_fit : summary_at out (class_at t s) used_cell + occupied_at t s < 2 ^ 64
  pub pending_fit : summary_at out (class_at t s) pending_cell + pending_in t.bits s 64 < 2 ^ 64

-- the used spans: few enough, each of a class, with no more occupied slots than a span can have
pub record SpansCount (g : Shape) (t : Tables) : Type 0 where
  pub cells : UsedCells t.bits t.spans t.used
  pub few : t.used ≤ 2 ^ 32
  pub class : (s : ℕ) → s < t.used → class_at t s < classes g
  pub occupied : (s : ℕ) → s < t.used → occupied_at t s ≤ most_slots

-- the magazines: few enough heaps, and no count above what a magazine can have
pub record HeadsCount (g : Shape) (t : Tables) : Type 0 where
  pub few : g.heaps ≤ most_heaps
  pub long : length t.heads ≡ g.heaps * classes g * head_cells
  pub counts : (h : ℕ) → h < g.heaps → (c : ℕ) → c < classes g → count_at t (class_heap g h c) ≤ most_capacity

-- the record of class c is there, and its spans are few; and so of every class
pub record ClassFits (g : Shape) (t : Tables) (c : ℕ) (out : List ℕ) : Type 0 where
  pub counts : HeadsCount g t
  pub class : c < classes g
  pub long : length out ≡ classes g * summary_cells
  pub few : summary_at out c spans_cell ≤ 2 ^ 32

pub record ClassesFit (g : Shape) (t : Tables) (out : List ℕ) : Type 0 where
  pub counts : HeadsCount g t
  pub long : length out ≡ classes g * summary_cells
  pub few : (c : ℕ) → c < classes g → summary_at out c spans_cell ≤ 2 ^ 32

-- all that is counted, and as many cells as classes ask for
pub record Countable (g : Shape) (t : Tables) (out : List ℕ) : Type 0 where
  pub of_spans : SpansCount g t
  pub of_heads : HeadsCount g t
  pub long : length out ≡ classes g * summary_cells

-- ---- how far the count has come

-- the first n spans are counted
pub record Tallied (g : Shape) (t : Tables) (n : ℕ) (out : List ℕ) : Type 0 where
  pub long : length out ≡ classes g * summary_cells
  pub of_spans : Column (classes g) out spans_cell (tally t n (λ s. 1))
  pub of_used : Column (classes g) out used_cell (tally t n (occupied_at t))
  pub of_pending : Column (classes g) out pending_cell (tally t n (λ s. pending_in t.bits s 64))

-- the slots and the cached blocks of the first n classes are written, over the records as they were
pub record Written (g : Shape) (t : Tables) (before : List ℕ) (n : ℕ) (out : List ℕ) : Type 0 where
  pub long : length out ≡ classes g * summary_cells
  pub of_spans : Column (classes g) out spans_cell (λ c. summary_at before c spans_cell)
  pub of_slots : Column n out slots_cell (λ c. summary_at before c spans_cell * slots_per_span (slot_size g.sizes c))
  pub of_used : Column (classes g) out used_cell (λ c. summary_at before c used_cell)
  pub of_cached : Column n out cached_cell (cached_in g t g.heaps)
  pub of_pending : Column (classes g) out pending_cell (λ c. summary_at before c pending_cell)

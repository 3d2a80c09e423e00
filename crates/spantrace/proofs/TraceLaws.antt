-- Laws of the lines: one entry more, the cells of a class, one part of a line after another. Assumes nothing.
use Rattle.std.proofs.Common.{◌≡◌, ℕ, ◌+◌, ◌*◌, ◌<◌, ◌≤◌, List, ◌++◌, length, get_or, sym, refl, ap, ◌∙◌, subst, ap₂, arith, eq-eqb}
use Rattle.laws.specs.Choice.{sum}
use Rattle.laws.proofs.SumSteps.{sum_next}
use Rattle.size_classes.specs.SlotSizes.{rising, groups, slot_sizes, slot_size, Admissible}
use Rattle.size_classes.proofs.SlotSizeLaws.{slot_sizes_admissible}
use Rattle.magazine_layout.specs.Layout.{capacity_for, entries_per_heap}
use Rattle.magazine_layout.proofs.Worked.{worked}
use Rattle.tables.specs.declared.ClassHeap.{ClassHeap}
use Rattle.tables.specs.Shape.{shape, most_heaps, most_spans, base_shape, head_cells, row_of, base_of, class_heap}
use Rattle.tables.specs.Cells.{head_cell}
use Rattle.tables.proofs.MagazineCells.{base_within}
use Rattle.trace_text.specs.Wrote.{Wrote}
use Rattle.trace_text.proofs.Writing.{wrote_then}
use Rattle.spantrace.specs.Trace.{place_of, naming, named_in}

-- A span with no slot occupied, to which the reserve of its class and heap is a link, is the reserve.
pub place_reserve : (slots occupied kept s : ℕ) → occupied ≡ 0 → kept ≡ s + 1 → 0x52 ≡ place_of slots occupied kept s
unfolding place_of
place_reserve slots occupied kept s e k = rw (eq-eqb occupied 0 e, eq-eqb kept (s + 1) k)

-- No entry, and one more.
pub named_none : (entries : List ℕ) (base s : ℕ) → 0 ≡ named_in entries base s 0
unfolding named_in sum
named_none entries base s = refl

pub named_more :
    (entries : List ℕ) (base s i : ℕ) {total e k : ℕ} → total ≡ named_in entries base s i → e ≡ get_or entries (base + i) 0 → k ≡ naming e s →
    total + k ≡ named_in entries base s (i + 1)
unfolding named_in
named_more entries base s i t e k =
    ap₂ ◌+◌ t (k ∙ ap (λ (z : ℕ). naming z s) e) ∙ sym (sum_next i (λ j. naming (get_or entries (base + j) 0) s))

-- One class of one of 4 heaps: its row of heads and its magazine are within their tables.
pub record Home (k : ClassHeap) : Type 0 where
  pub row : k.row < 192
  pub magazine : k.base + k.capacity ≤ 3168

-- 01's list has 48 classes.
pub classes_all : length slot_sizes ≡ 48
unfolding slot_sizes rising groups
classes_all = refl

pub sizes_admissible : {sizes : List ℕ} → sizes ≡ slot_sizes → Admissible sizes
sizes_admissible e = rw e slot_sizes_admissible

pub heap_named : {owner : ℕ} → owner < 4 → owner < most_heaps
unfolding most_heaps
heap_named o = omega (arith, o)

pub class_named : (sizes : List ℕ) {class : ℕ} → sizes ≡ slot_sizes → class < 48 → class < length sizes
class_named sizes e c = omega (arith, c, ap (λ (l : List ℕ). length l) e, classes_all)

home : (owner class : ℕ) → owner < 4 → class < 48 → Home (class_heap (base_shape 4 32) owner class)
unfolding class_heap row_of
home owner class o c =
    let w : base_of (base_shape 4 32) owner class + capacity_for (slot_size slot_sizes class) ≤ 4 * entries_per_heap slot_sizes = base_within (base_shape 4 32) o (class_named slot_sizes refl c) in
    record { row = rw classes_all (omega (arith, o, c)); magazine = omega (arith, w, worked.total) }

pub home_here :
    (k : ClassHeap) (sizes : List ℕ) (owner class : ℕ) →
    sizes ≡ slot_sizes →
    ((most heaps spans : ℕ) → k ≡ class_heap (shape sizes most heaps spans) owner class) →
    owner < 4 →
    class < 48 →
    Home k
home_here k sizes owner class e r o c =
    subst Home (sym (r most_spans 4 32 ∙ ap (λ (l : List ℕ). class_heap (shape l most_spans 4 32) owner class) e)) (home owner class o c)

-- A head of that row, and the entries below a count within its capacity, are within their tables.
pub head_here : {k : ClassHeap} {f n : ℕ} → Home k → f < 5 → 960 ≤ n → head_cell k.row f < n
unfolding head_cell head_cells
head_here h f n = omega (arith, h.row, f, n)

-- A part of a line was written.
pub record Written (room : ℕ) (l s m : List ℕ) : Type 0 where
  pub wrote : Wrote room l s m

pub written_then : {room : ℕ} {l m n s : List ℕ} (t : List ℕ) → Written room l s m → Wrote room m t n → Written room l (s ++ t) n
written_then {room} {l} {m} {n} {s} t w more = record { wrote = wrote_then room l m n s t w.wrote more }

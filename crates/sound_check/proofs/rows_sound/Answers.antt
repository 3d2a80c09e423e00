-- `sound_check::rows_sound` meets its contract: the rows passed are right, and the spans met in them are counted. Assumes nothing.
use mathlib.Core.Path.{◌≡◌, sym, ap, ap₂, subst, ◌∙◌}
use mathlib.Core.List.{List}
use Prim.Native.Nat.{ℕ, ◌+◌, ◌*◌, ◌%◌, ◌^◌, ◌<◌, ◌≤◌}
use native.Mathlib.Omega.{arith}
use lib.ListN.{length}
use Rattle.size_classes.specs.SlotSizes.{Admissible, most_classes, slot_size}
use Rattle.magazine_layout.specs.Layout.{most_capacity, capacity_for, entries_per_heap}
use Rattle.tables.specs.declared.ClassHeap.{ClassHeap}
use Rattle.tables.specs.Shape.{Shape, most_heaps, classes}
use Rattle.tables.specs.Cells.{Tables}
use Rattle.tables.proofs.MagazineCells.{rows_small, bases_small, base_within}
use Rattle.magazine.specs.Room.{Counted}
use Rattle.sound.specs.Sound.{MagazineSound}
use Rattle.sound_spans.proofs.TestLaws.{granted, refuted, says_eqb}
use Rattle.sound_lists.specs.Walked.{ClassLists, spans_in, ClassCells}
use Rattle.sound_lists.proofs.WalkLaws.{used_small}
use Rattle.sound_check.specs.Joined.{Passed}
use Rattle.sound_check.proofs.BaseTurns.{base_at, base_first, base_next, Row, row_here, row_capacity}
use Rattle.sound_check.proofs.RowTurns.{fields_used, heads_there, entries_there, passed_none, passed_few, passed_more, all_rows, rows_all}
use Rattle.sound_check.proofs.rows_sound.Goals as goal

-- There are at most 768 rows.
few_rows : {sizes : List ℕ} {heaps : ℕ} → Admissible sizes → heaps ≤ most_heaps → heaps * length sizes ≤ 768
unfolding most_heaps most_classes
few_rows {sizes} a h = rows_small sizes a h

-- A magazine ends below 2 ^ 64.
few_entries : {sizes : List ℕ} {heaps : ℕ} → Admissible sizes → heaps ≤ most_heaps → heaps * entries_per_heap sizes ≤ 49152
unfolding most_heaps most_classes most_capacity
few_entries {sizes} a h = bases_small sizes a h

base_fits : {g : Shape} {r b : ℕ} {k : ClassHeap} → g.heaps ≤ most_heaps → Row g r k → b ≡ base_at g r → b + k.capacity < 2 ^ 64
base_fits {g} {r} few w eb =
    let e : base_at g r + capacity_for (slot_size g.sizes (r % classes g)) ≤ g.heaps * entries_per_heap g.sizes =
    base_within g w.heap w.class in
    omega (arith, eb, row_capacity w, few_entries w.sizes few)

-- A row whose lists and magazine are right is passed.
row_passed :
    {g : Shape} {t : Tables} {r total met : ℕ} {k : ClassHeap} → Row g r k → Passed g t r total → ClassLists t k × (met ≡ spans_in t k) →
    MagazineSound t k → Passed g t (r + 1) (total + met)
row_passed {t = t} {met = met} w p l m =
    passed_more _ _ p (subst (λ (k : ClassHeap). ClassLists t k × (met ≡ spans_in t k)) w.here l) (subst (MagazineSound t) w.here m)

pub overflow_mul-rows : goal.overflow_mul-rows
overflow_mul-rows c =
    let s = c.classes-classes.ensures in
    let o = rw (← c.shape.view_is) at c.requires.few in
    rw s.count (omega (arith, few_rows s.admissible o))

pub loop-r-init : goal.loop-r-init
loop-r-init c =
    let a : Admissible c.args.shape.now.sizes = rw (← c.shape.view_is) c.classes-classes.ensures.admissible in
    record { begins = base_first _ a.some; passed = passed_none _ _ }

pub class_met-requires-clause-class_cells : goal.class_met-requires-clause-class_cells
class_met-requires-clause-class_cells c =
    let s = c.classes-classes.ensures in
    let row = row_here c.shape.view_is s.count s.admissible c.loop-r.invariant.begins c.loop-r-test.true c.class_at-k.ensures.home in
    subst (ClassCells c.args.view.now.heads) (sym row.here) (heads_there c.requires row.heap row.class)

pub returns-in_default-clause-rows : goal.returns-in_default-clause-rows
returns-in_default-clause-rows c w =
    let s = c.classes-classes.ensures in
    let row = row_here c.shape.view_is s.count s.admissible c.loop-r.invariant.begins c.loop-r-test.true c.class_at-k.ensures.home in
    c.in_default.ensures (subst (ClassLists c.args.view.now) (sym row.here) (w.each c.loop-r.r row.below).lists)

pub magazine_sound-requires-clause-counted : goal.magazine_sound-requires-clause-counted
magazine_sound-requires-clause-counted c =
    let s = c.classes-classes.ensures in
    let row = row_here c.shape.view_is s.count s.admissible c.loop-r.invariant.begins c.loop-r-test.true c.class_at-k.ensures.home in
    subst (Counted c.args.view.now.heads) (sym row.here) ((heads_there c.requires row.heap row.class).rows _ (omega arith))

pub magazine_sound-requires-clause-capacity_in_bounds : goal.magazine_sound-requires-clause-capacity_in_bounds
magazine_sound-requires-clause-capacity_in_bounds c =
    let s = c.classes-classes.ensures in
    let row = row_here c.shape.view_is s.count s.admissible c.loop-r.invariant.begins c.loop-r-test.true c.class_at-k.ensures.home in
    subst (λ (k : ClassHeap). k.base + k.capacity ≤ length c.args.view.now.entries) (sym row.here) (entries_there c.requires row.heap row.class)

pub returns-then-not-magazine_sound-clause-rows : goal.returns-then-not-magazine_sound-clause-rows
returns-then-not-magazine_sound-clause-rows c w =
    let s = c.classes-classes.ensures in
    let row = row_here c.shape.view_is s.count s.admissible c.loop-r.invariant.begins c.loop-r-test.true c.class_at-k.ensures.home in
    refuted c.magazine_sound.result c.magazine_sound.ensures c.if-not-magazine_sound.true
    (subst (MagazineSound c.args.view.now) (sym row.here) (w.each c.loop-r.r row.below).magazine)

pub overflow_add-total : goal.overflow_add-total
overflow_add-total c =
    let s = c.classes-classes.ensures in
    let row = row_here c.shape.view_is s.count s.admissible c.loop-r.invariant.begins c.loop-r-test.true c.class_at-k.ensures.home in
    omega (
      arith,
      passed_few _ _ (row_passed row c.loop-r.invariant.passed c.in-Some.ensures (granted c.magazine_sound.result c.magazine_sound.ensures c.if-not-magazine_sound.false)),
      ap (λ (z : Tables). z.used) c.view.view_is,
      rw (← c.view.view_is) at (used_small (fields_used c.requires)),
    )

pub overflow_add-base : goal.overflow_add-base
overflow_add-base c =
    let s = c.classes-classes.ensures in
    let row = row_here c.shape.view_is s.count s.admissible c.loop-r.invariant.begins c.loop-r-test.true c.class_at-k.ensures.home in
    record { fits = base_fits c.requires.few row c.loop-r.invariant.begins }

pub loop-r-preserved : goal.loop-r-preserved
loop-r-preserved c =
    let s = c.classes-classes.ensures in
    let row = row_here c.shape.view_is s.count s.admissible c.loop-r.invariant.begins c.loop-r-test.true c.class_at-k.ensures.home in
    record {
      begins = ap₂ ◌+◌ c.loop-r.invariant.begins (row_capacity row) ∙ base_next c.args.shape.now row.sizes.some c.loop-r.r;
      passed = row_passed row c.loop-r.invariant.passed c.in-Some.ensures (granted c.magazine_sound.result c.magazine_sound.ensures c.if-not-magazine_sound.false);
    }

pub returns-clause-rows : goal.returns-clause-rows
returns-clause-rows c =
    let g = c.args.shape.now in
    let t = c.args.view.now in
    let last : c.loop-r.r ≡ c.shape.inside.heaps * c.classes-classes.result = omega (arith, c.loop-r-test.false) in
    let e : c.loop-r.r ≡ g.heaps * classes g = rw (← c.shape.view_is) (rw c.classes-classes.ensures.count at last) in
    let used = ap (λ (z : Tables). z.used) c.view.view_is in
    let p = c.loop-r.invariant.passed in
    says_eqb _ _ (λ q. all_rows g t e p (q ∙ used)) (λ w. rows_all g t e p w ∙ sym used)

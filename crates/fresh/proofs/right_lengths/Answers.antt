-- `fresh::right_lengths` meets its contract: the products fit. Assumes nothing.
use native.Mathlib.Omega.{arith}
use Rattle.size_classes.specs.SlotSizes.{most_classes}
use Rattle.magazine_layout.specs.Layout.{most_capacity}
use Rattle.tables.specs.Shape.{most_heaps}
use Rattle.tables.proofs.MagazineCells.{rows_small, bases_small}
use Rattle.fresh.proofs.right_lengths.Goals as goal

pub overflow_mul-heaps : goal.overflow_mul-heaps
unfolding most_heaps most_classes most_capacity
overflow_mul-heaps c =
    let few = rw (← c.shape.view_is) at c.requires in
    let e = c.entries_per_heap.ensures in
    rw e.entries (omega (arith, bases_small _ e.admissible few.0))

pub overflow_mul-result : goal.overflow_mul-result
unfolding most_heaps most_classes
overflow_mul-result c =
    let few = rw (← c.shape.view_is) at c.requires in
    let e = c.classes.ensures in
    rw e.count (omega (arith, rows_small _ e.admissible few.0))

pub overflow_mul-result-then-view-heaps : goal.overflow_mul-result-then-view-heaps
unfolding most_heaps most_classes
overflow_mul-result-then-view-heaps c =
    let few = rw (← c.shape.view_is) at c.requires in
    let e = c.classes.ensures in
    rw e.count (omega (arith, rows_small _ e.admissible few.0))

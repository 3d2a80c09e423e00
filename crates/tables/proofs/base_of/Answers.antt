-- `tables::base_of` meets its contract. Assumes nothing.
use native.Mathlib.Omega.{arith}
use Rattle.size_classes.specs.SlotSizes.{most_classes}
use Rattle.magazine_layout.specs.Layout.{most_capacity}
use Rattle.magazine_layout.proofs.LayoutLaws.{offset_small}
use Rattle.tables.specs.Shape.{most_heaps, base_of}
use Rattle.tables.proofs.MagazineCells.{bases_small}
use Rattle.tables.proofs.base_of.Goals as goal

pub overflow_mul-result : goal.overflow_mul-result
unfolding most_heaps most_classes most_capacity
overflow_mul-result c =
    let most = bases_small _ {heaps = c.args.heap} c.entries_per_heap.ensures.admissible (omega (arith, c.requires)) in
    rw c.entries_per_heap.ensures.entries (omega (arith, most))

pub overflow_add-result : goal.overflow_add-result
unfolding most_heaps most_classes most_capacity
overflow_add-result c =
    let most = bases_small _ {heaps = c.args.heap} c.entries_per_heap.ensures.admissible (omega (arith, c.requires)) in
    let last = offset_small _ c.entries_per_heap.ensures.admissible c.args.class (omega (arith, c.requires)) in
    rw (c.entries_per_heap.ensures.entries, c.magazine_offset.ensures) (omega (arith, most, last))

pub returns : goal.returns
unfolding base_of
returns c most heaps spans = rw (c.entries_per_heap.ensures.entries, c.magazine_offset.ensures)

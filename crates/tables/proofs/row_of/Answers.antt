-- `tables::row_of` meets its contract. Assumes nothing.
use native.Mathlib.Omega.{arith}
use Rattle.size_classes.specs.SlotSizes.{most_classes}
use Rattle.tables.specs.Shape.{most_heaps, row_of}
use Rattle.tables.proofs.MagazineCells.{rows_small}
use Rattle.tables.proofs.row_of.Goals as goal

pub overflow_mul-result : goal.overflow_mul-result
unfolding most_heaps most_classes
overflow_mul-result c = rw c.classes.ensures.count (omega (arith, rows_small _ {heaps = c.args.heap} c.classes.ensures.admissible (omega (arith, c.requires))))

pub overflow_add-result : goal.overflow_add-result
unfolding most_heaps most_classes
overflow_add-result c = rw c.classes.ensures.count (omega (arith, rows_small _ {heaps = c.args.heap} c.classes.ensures.admissible (omega (arith, c.requires)), c.classes.ensures.admissible.few))

pub returns : goal.returns
unfolding row_of
returns c most heaps spans = rw c.classes.ensures.count

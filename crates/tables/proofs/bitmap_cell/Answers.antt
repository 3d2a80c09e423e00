-- `tables::bitmap_cell` meets its contract. Assumes nothing.
use native.Mathlib.Omega.{arith}
use Rattle.tables.specs.Shape.{bitmap_cells}
use Rattle.tables.specs.Cells.{bitmap_cell}
use Rattle.tables.proofs.bitmap_cell.Goals as goal

pub overflow_mul-result : goal.overflow_mul-result
unfolding bitmap_cell bitmap_cells
overflow_mul-result c = omega (arith, c.requires)

pub overflow_add-result : goal.overflow_add-result
unfolding bitmap_cell bitmap_cells
overflow_add-result c = omega (arith, c.requires)

pub returns : goal.returns
unfolding bitmap_cell bitmap_cells
returns c = omega arith

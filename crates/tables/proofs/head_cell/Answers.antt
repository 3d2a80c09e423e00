-- `tables::head_cell` meets its contract. Assumes nothing.
use native.Mathlib.Omega.{arith}
use Rattle.tables.specs.Shape.{head_cells}
use Rattle.tables.specs.Cells.{head_cell}
use Rattle.tables.proofs.head_cell.Goals as goal

pub overflow_mul-result : goal.overflow_mul-result
unfolding head_cell head_cells
overflow_mul-result c = omega (arith, c.requires)

pub overflow_add-result : goal.overflow_add-result
unfolding head_cell head_cells
overflow_add-result c = omega (arith, c.requires)

pub returns : goal.returns
unfolding head_cell head_cells
returns c = omega arith

-- `tables::span_cell` meets its contract. Assumes nothing.
use native.Mathlib.Omega.{arith}
use Rattle.tables.specs.Shape.{record_cells}
use Rattle.tables.specs.Cells.{span_cell}
use Rattle.tables.proofs.span_cell.Goals as goal

pub overflow_mul-result : goal.overflow_mul-result
unfolding span_cell record_cells
overflow_mul-result c = omega (arith, c.requires)

pub overflow_add-result : goal.overflow_add-result
unfolding span_cell record_cells
overflow_add-result c = omega (arith, c.requires)

pub returns : goal.returns
unfolding span_cell record_cells
returns c = omega arith

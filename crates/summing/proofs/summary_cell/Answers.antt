-- `summing::summary_cell` meets its contract. Assumes nothing.
use native.Mathlib.Omega.{arith}
use Rattle.calls.specs.Summary.{summary_cells}
use Rattle.summing.specs.Tally.{summary_cell}
use Rattle.summing.proofs.summary_cell.Goals as goal

pub overflow_mul-result : goal.overflow_mul-result
unfolding summary_cell summary_cells
overflow_mul-result c = omega (arith, c.requires)

pub overflow_add-result : goal.overflow_add-result
unfolding summary_cell summary_cells
overflow_add-result c = omega (arith, c.requires)

pub returns : goal.returns
unfolding summary_cell summary_cells
returns c = omega arith

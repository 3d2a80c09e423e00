-- `tables::entry_of` meets its contract. Assumes nothing.
use native.Mathlib.Omega.{arith}
use Rattle.size_classes.specs.Slots.{most_slots}
use Rattle.tables.specs.Cells.{entry_of}
use Rattle.tables.proofs.entry_of.Goals as goal

pub overflow_mul-result : goal.overflow_mul-result
unfolding entry_of most_slots
overflow_mul-result c = omega (arith, c.requires)

pub overflow_add-result : goal.overflow_add-result
unfolding entry_of most_slots
overflow_add-result c = omega (arith, c.requires)

pub returns : goal.returns
unfolding entry_of most_slots
returns c = omega arith

-- `tables::entry_slot` meets its contract. Assumes nothing.
use mathlib.Core.Path.{refl}
use Rattle.size_classes.specs.Slots.{most_slots}
use Rattle.tables.specs.Cells.{entry_slot}
use Rattle.tables.proofs.entry_slot.Goals as goal

pub returns : goal.returns
unfolding entry_slot most_slots
returns c = refl

-- `tables::entry_span` meets its contract. Assumes nothing.
use mathlib.Core.Path.{refl}
use Rattle.size_classes.specs.Slots.{most_slots}
use Rattle.tables.specs.Cells.{entry_span}
use Rattle.tables.proofs.entry_span.Goals as goal

pub returns : goal.returns
unfolding entry_span most_slots
returns c = refl

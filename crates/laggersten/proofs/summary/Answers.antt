-- `laggersten::summary` meets its contract: the summary over 01's list and limit. Assumes nothing.
use Rattle.size_classes.proofs.SlotSizeLaws.{slot_sizes_admissible}
use Rattle.tables.specs.Shape.{most_spans}
use Rattle.laggersten.proofs.summary.Goals as goal

pub new-sizes-requires : goal.new-sizes-requires
new-sizes-requires c = rw c.slot_sizes-list.ensures slot_sizes_admissible

pub returns : goal.returns
unfolding most_spans
returns c = rw (c.new-sizes.ensures, c.slot_sizes-list.ensures) at c.summary.ensures

-- `laggersten::fresh` meets its contract: the maker over 01's list and limit. Assumes nothing.
use Rattle.size_classes.proofs.SlotSizeLaws.{slot_sizes_admissible}
use Rattle.tables.specs.Shape.{most_spans}
use Rattle.laggersten.proofs.fresh.Goals as goal

pub new-sizes-requires : goal.new-sizes-requires
new-sizes-requires c = rw c.slot_sizes-list.ensures slot_sizes_admissible

pub returns-clause-numbered : goal.returns-clause-numbered
unfolding most_spans
returns-clause-numbered c = rw (c.new-sizes.ensures, c.slot_sizes-list.ensures) at c.fresh.ensures.numbered

-- `class_choice::from_layout` meets its contract. Assumes nothing.
use Rattle.size_classes.proofs.SlotSizeLaws.{slot_sizes_admissible}
use Rattle.class_lookup.proofs.LookupLaws.{class_tables}
use Rattle.class_choice.proofs.from_layout.Goals as goal

pub new-sizes-requires : goal.new-sizes-requires
new-sizes-requires c = rw c.slot_sizes-list.ensures slot_sizes_admissible

pub new-requires : goal.new-requires
new-requires c = rw (c.new-sizes.ensures, c.slot_sizes-list.ensures, c.made-lookup.ensures) class_tables.right

-- `leaves::laggersten_leaf_slot` meets its contract. Assumes nothing.
use mathlib.Core.Path.{sym, ap, ◌∙◌}
use Rattle.leaves.specs.Numbers.{slot_number}
use Rattle.leaves.proofs.laggersten_leaf_slot.Goals as goal

pub returns-in-Some : goal.returns-in-Some
returns-in-Some c = ap slot_number (sym c.in-Some.is ∙ c.slot_at-found.ensures)

pub returns-in-None : goal.returns-in-None
returns-in-None c = ap slot_number (sym c.in-None.is ∙ c.slot_at-found.ensures)

-- `leaves::laggersten_leaf_class` meets its contract. Assumes nothing.
use mathlib.Core.Path.{sym, ap, ◌∙◌}
use Rattle.leaves.specs.Numbers.{class_number}
use Rattle.leaves.proofs.laggersten_leaf_class.Goals as goal

pub returns-in-Some : goal.returns-in-Some
returns-in-Some c = ap class_number (sym c.in-Some.is ∙ c.from_layout-found.ensures)

pub returns-in-None : goal.returns-in-None
returns-in-None c = ap class_number (sym c.in-None.is ∙ c.from_layout-found.ensures)

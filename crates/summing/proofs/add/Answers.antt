-- `summing::add` meets its contract. Assumes nothing.
use mathlib.Core.Path.{◌∙◌}
use Rattle.summing.specs.Tally.{added}
use Rattle.summing.proofs.add.Goals as goal

pub returns : goal.returns
unfolding added
returns c = c.put_cell.ensures ∙ rw c.cell.ensures

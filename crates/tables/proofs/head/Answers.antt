-- `tables::head` meets its contract: the cell read is the one named. Assumes nothing.
use Rattle.tables.proofs.head.Goals as goal

pub returns : goal.returns
returns c = rw c.head_cell-at.ensures

-- `tables::put_head` meets its contract: the cell stored to is the one named. Assumes nothing.
use Rattle.tables.proofs.put_head.Goals as goal

pub returns : goal.returns
returns c = rw c.head_cell-at.ensures

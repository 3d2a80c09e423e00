-- `tables::put_word` meets its contract: the cell stored to is the one named. Assumes nothing.
use Rattle.tables.proofs.put_word.Goals as goal

pub returns : goal.returns
returns c = rw c.bitmap_cell-at.ensures

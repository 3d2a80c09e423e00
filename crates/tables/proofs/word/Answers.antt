-- `tables::word` meets its contract: the cell read is the one named. Assumes nothing.
use Rattle.tables.proofs.word.Goals as goal

pub returns : goal.returns
returns c = rw c.bitmap_cell-at.ensures

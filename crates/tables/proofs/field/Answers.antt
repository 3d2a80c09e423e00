-- `tables::field` meets its contract: the cell read is the one named. Assumes nothing.
use Rattle.tables.proofs.field.Goals as goal

pub returns : goal.returns
returns c = rw c.span_cell-at.ensures

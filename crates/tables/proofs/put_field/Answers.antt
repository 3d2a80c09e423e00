-- `tables::put_field` meets its contract: the cell stored to is the one named. Assumes nothing.
use Rattle.tables.proofs.put_field.Goals as goal

pub returns : goal.returns
returns c = rw c.span_cell-at.ensures

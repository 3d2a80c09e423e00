-- `span::clear_pending` meets its contract. Assumes nothing.
use native.Mathlib.Omega.{arith}
use Rattle.span.proofs.CellsThere.{pending_there}
use Rattle.span.proofs.clear_pending.Goals as goal

pub bitmap_cell-from-requires : goal.bitmap_cell-from-requires
bitmap_cell-from-requires c = omega (arith, pending_there _ _ c.requires)

pub put_cells-requires : goal.put_cells-requires
put_cells-requires c = omega (arith, pending_there _ _ c.requires, c.bitmap_cell-from.ensures)

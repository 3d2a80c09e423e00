-- `span::is_empty` meets its contract. Assumes nothing.
use native.Mathlib.Omega.{arith}
use Rattle.span.proofs.CellsThere.{field_there}
use Rattle.span.proofs.is_empty.Goals as goal

pub field-requires : goal.field-requires
field-requires c = field_there _ _ c.requires 2 (omega arith)

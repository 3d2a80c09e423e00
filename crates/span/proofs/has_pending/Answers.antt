-- `span::has_pending` meets its contract. Assumes nothing.
use native.Mathlib.Omega.{arith}
use Rattle.span.proofs.CellsThere.{summary_there}
use Rattle.span.proofs.has_pending.Goals as goal

pub word-requires : goal.word-requires
word-requires c = summary_there _ _ c.requires 65 (omega arith)

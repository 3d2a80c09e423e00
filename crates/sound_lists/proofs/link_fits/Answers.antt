-- `sound_lists::link_fits` meets its contract: each test decides one clause. Assumes nothing.
use native.Mathlib.Omega.{arith}
use Rattle.span.proofs.CellsThere.{field_there}
use Rattle.sound_lists.proofs.WalkLaws.{record_there}
use Rattle.sound_lists.proofs.link_fits.Goals as goal

pub field-requires : goal.field-requires
field-requires c = field_there _ _ (record_there (rw (← c.view.view_is) at c.requires) c.if-s-view.false) _ (omega arith)

pub field-requires-then-field-p : goal.field-requires-then-field-p
field-requires-then-field-p c = field_there _ _ (record_there (rw (← c.view.view_is) at c.requires) c.if-s-view.false) _ (omega arith)

pub field-requires-then-field-k : goal.field-requires-then-field-k
field-requires-then-field-k c = field_there _ _ (record_there (rw (← c.view.view_is) at c.requires) c.if-s-view.false) _ (omega arith)

pub field-requires-then-field-k-2 : goal.field-requires-then-field-k-2
field-requires-then-field-k-2 c = field_there _ _ (record_there (rw (← c.view.view_is) at c.requires) c.if-s-view.false) _ (omega arith)

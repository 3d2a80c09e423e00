-- `heap::refill_first` meets its contract: the refill, by its test. Assumes nothing.
use mathlib.Core.Path.{sym, ◌∙◌}
use Rattle.placing.proofs.PlacingKept.{working_room}
use Rattle.heap.proofs.HeapLaws.{first_made, first_not}
use Rattle.heap.proofs.refill_first.Goals as goal

pub needs_refill-requires : goal.needs_refill-requires
needs_refill-requires c = rw c.heads.ensures (working_room c.requires.working).row

pub returns-then-needs_refill-clause-refilled : goal.returns-then-needs_refill-clause-refilled
returns-then-needs_refill-clause-refilled c =
    let t = c.args.tables.now in
    let low = rw c.heads.ensures at (c.needs_refill.ensures t.bits.now t.spans.now t.entries.now t.used.now) in
    first_made _ _ _ _ _ _ (sym low ∙ c.if-needs_refill.true) c.refill.ensures.refilled

pub returns-clause-refilled : goal.returns-clause-refilled
returns-clause-refilled c =
    let t = c.args.tables.now in
    let low = rw c.heads.ensures at (c.needs_refill.ensures t.bits.now t.spans.now t.entries.now t.used.now) in
    first_not _ _ _ _ (sym low ∙ c.if-needs_refill.false)

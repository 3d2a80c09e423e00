-- `reclaiming::reclaim` meets its contract: what is left of the walk falls by the span passed. Assumes nothing.
use mathlib.Core.Path.{sym, ◌∙◌}
use native.Mathlib.Omega.{arith}
use Rattle.linked_list.proofs.ReachLaws.{head_here, field_here}
use Rattle.placing.proofs.PlacingKept.{working_links}
use Rattle.reclaiming.proofs.ReclaimingLaws.{reclaim_end, reclaim_out, walk_start, walk_turn}
use Rattle.reclaiming.proofs.reclaim.Goals as goal

pub front-at-requires : goal.front-at-requires
front-at-requires c = head_here (working_links c.requires.2) (omega arith)

pub loop-turn-init : goal.loop-turn-init
loop-turn-init c = walk_start _ _ _ _ _ _ _ _ _ c.requires.2 c.front-at.ensures (omega arith)

pub field-at-requires : goal.field-at-requires
field-at-requires c = field_here (working_links c.loop-turn.invariant.working) (omega (arith, c.if-at-eq0.false, c.loop-turn.invariant.here)) (omega arith)

pub reclaim_one-requires : goal.reclaim_one-requires
reclaim_one-requires c =
    let w = c.loop-turn.invariant in
    (w.limit, w.entries, _, w.working, omega (arith, c.if-at-eq0.false, w.here))

pub loop-turn-preserved : goal.loop-turn-preserved
loop-turn-preserved c =
    let k = c.reclaim_one.auto in
    walk_turn _ _ _ _ _ _ _ _ _ _ _ _ _ _ _ c.loop-turn.invariant (omega arith) c.if-at-eq0.false c.field-at.ensures k.bits k.spans k.heads
    c.reclaim_one.ensures

pub returns-after-loop-turn : goal.returns-after-loop-turn
returns-after-loop-turn c = λ e u. sym (reclaim_out _ _ _ _ (omega arith)) ∙ c.loop-turn.invariant.same e u

pub returns-then-at-eq0 : goal.returns-then-at-eq0
returns-then-at-eq0 c = λ e u. sym (reclaim_end _ _ _ _ c.if-at-eq0.true) ∙ c.loop-turn.invariant.same e u

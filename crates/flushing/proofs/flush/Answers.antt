-- `flushing::flush` meets its contract: what is left to flush falls by the entry given back. Assumes nothing.
use mathlib.Core.Path.{sym, ◌∙◌}
use native.Mathlib.Omega.{arith}
use Rattle.placing.proofs.PlacingKept.{working_room}
use Rattle.flushing.proofs.FlushingLaws.{flush_low, flush_out, flush_start, flush_again}
use Rattle.flushing.proofs.flush.Goals as goal

pub loop-turn-init : goal.loop-turn-init
loop-turn-init c = flush_start c.requires.2 (omega arith)

pub count-requires : goal.count-requires
count-requires c = (working_room c.loop-turn.invariant.working).row

pub flush_one-requires : goal.flush_one-requires
flush_one-requires c = let w = c.loop-turn.invariant in
    record {
      by_index = (w.limit, w.used, w.working);
      k_nonzero = omega (arith, c.if-count-k.false, c.count.ensures);
    }

pub loop-turn-preserved : goal.loop-turn-preserved
loop-turn-preserved c =
    let k = c.flush_one.auto in
    flush_again c.loop-turn.invariant (omega arith) (omega (arith, c.if-count-k.false, c.count.ensures)) k.bits k.spans k.heads c.flush_one.ensures

pub returns-after-loop-turn : goal.returns-after-loop-turn
returns-after-loop-turn c = λ u. sym (flush_out _ _ _ (omega arith)) ∙ c.loop-turn.invariant.same u

pub returns-then-count-k : goal.returns-then-count-k
returns-then-count-k c = λ u. sym (flush_low _ _ _ (omega (arith, c.if-count-k.true, c.count.ensures))) ∙ c.loop-turn.invariant.same u

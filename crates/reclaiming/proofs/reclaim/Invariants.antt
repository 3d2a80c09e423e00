-- `reclaiming::reclaim` meets its contract: what is left of the walk falls by the span passed. Assumes nothing.
use Prim.Native.Nat.{◌-◌}
use Rattle.reclaiming.proofs.ReclaimingLaws.{Walking}
use Rattle.reclaiming.proofs.reclaim.Given as goal

abbrev pub invariant-loop-turn : goal.invariant-loop-turn
invariant-loop-turn l = Walking l.used l.k l.initial.bits l.initial.spans l.initial.heads l.bits l.spans l.heads l.at (l.used - l._turn)

-- `span_steps::push_claimed` meets its contract: what is left to push falls by the entry pushed. Assumes nothing.
use Rattle.span_steps.proofs.PushingLaws.{Pushing}
use Rattle.span_steps.proofs.push_claimed.Given as goal

abbrev pub invariant-loop-b : goal.invariant-loop-b
invariant-loop-b l = Pushing l.k l.initial.entries l.initial.heads l.first l.mask l.entries l.heads l.b

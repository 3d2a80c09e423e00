-- `summing::add_spans` meets its contract: the spans passed are counted. Assumes nothing.
use Rattle.summing.specs.Tally.{Tallied}
use Rattle.summing.proofs.add_spans.Given as goal

abbrev pub invariant-loop-s : goal.invariant-loop-s
invariant-loop-s l = Tallied l.shape l.view l.s l.out

-- `summing::write_classes` meets its contract: the classes passed are written. Assumes nothing.
use Rattle.summing.specs.Tally.{Written}
use Rattle.summing.proofs.write_classes.Given as goal

abbrev pub invariant-loop-c : goal.invariant-loop-c
invariant-loop-c l = Written l.shape l.view l.initial.out l.c l.out

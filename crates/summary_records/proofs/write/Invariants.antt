-- The loop of `write`: the first i records are written. Assumes nothing.
use Rattle.std.proofs.Common.{◌≡◌}
use Rattle.summary_records.specs.Structured.{filled}
use Rattle.summary_records.proofs.write.Given as goal

abbrev pub invariant-loop-i : goal.invariant-loop-i
invariant-loop-i l = l.out ≡ filled l.cells l.initial.out l.i

-- `spantrace::cached` meets its contract: the entries passed that name the span are counted. Assumes nothing.
use Rattle.std.proofs.Common.{◌≡◌, ◌≤◌}
use Rattle.spantrace.specs.Trace.{named_in}
use Rattle.spantrace.proofs.cached.Given as goal

abbrev pub invariant-loop-i : goal.invariant-loop-i
invariant-loop-i l = (l.total ≤ l.i) × (l.total ≡ named_in l.entries l.base l.s l.i)

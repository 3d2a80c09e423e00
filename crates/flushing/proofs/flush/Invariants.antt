-- `flushing::flush` meets its contract: what is left to flush falls by the entry given back. Assumes nothing.
use Prim.Native.Nat.{◌-◌}
use Rattle.flushing.proofs.FlushingLaws.{Flushing}
use Rattle.flushing.proofs.flush.Given as goal

abbrev pub invariant-loop-turn : goal.invariant-loop-turn
invariant-loop-turn l = Flushing l.k l.initial.bits l.initial.spans l.entries l.initial.heads l.bits l.spans l.heads (l.k.capacity - l._turn)

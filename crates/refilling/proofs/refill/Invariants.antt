-- `refilling::refill` meets its contract: what is left to refill falls by the claim. Assumes nothing.
use Prim.Native.Nat.{◌-◌}
use Rattle.tables.specs.Lent.{cells, SameLent}
use Rattle.refilling.proofs.RefillingLaws.{Refilling}
use Rattle.refilling.proofs.refill.Given as goal

abbrev pub invariant-loop-i : goal.invariant-loop-i
invariant-loop-i l = record {
  lent : SameLent l.initial.tables l.tables;
  refill : Refilling l.limit l.k l.words (cells l.initial.tables) (cells l.tables) l.i (l.k.capacity - l.i);
}

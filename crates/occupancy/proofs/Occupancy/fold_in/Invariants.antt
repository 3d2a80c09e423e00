-- `Occupancy::fold_in` meets its contract: the fold of the words still to come is the fold of all. Assumes nothing.
use mathlib.Core.Path.{◌≡◌}
use Prim.Native.Nat.{ℕ, ◌-◌}
use Rattle.occupancy.specs.Occupied.{fold_from, fold_in}
use Rattle.occupancy.specs.Right.{Right, Pending}
use Rattle.occupancy.proofs.Occupancy.fold_in.Given as goal

abbrev pub invariant-loop-i : goal.invariant-loop-i
invariant-loop-i l = ((slots : ℕ) × (Right slots l.o × Pending slots l.o l.i l.pending)) × (fold_from (64 - l.i) l.i l.pending l.o ≡ fold_in l.initial.o l.pending)

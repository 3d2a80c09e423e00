-- `summing::pending` meets its contract: the set bits of the remote words passed are counted. Assumes nothing.
use mathlib.Core.Path.{◌≡◌}
use mathlib.Core.List.{List}
use Prim.Native.Nat.{ℕ, ◌*◌, ◌≤◌}
use Rattle.summing.specs.Tally.{pending_in}
use Rattle.summing.proofs.pending.Given as goal

-- the words before i are counted
pub record Counted (bits : List ℕ) (s i total : ℕ) : Type 0 where
  pub most : total ≤ 64 * i
  pub is : total ≡ pending_in bits s i

abbrev pub invariant-loop-i : goal.invariant-loop-i
invariant-loop-i l = Counted l.bits l.s l.i l.total

-- `sound_lists::list_met` meets its contract: the list is right exactly where what the walk has not yet met of it is. Assumes nothing.
use Rattle.tables.specs.ListPlace.{place}
use Prim.Native.Nat.{◌-◌}
use Rattle.sound_lists.proofs.WalkLaws.{Reach}
use Rattle.sound_lists.proofs.list_met.Given as goal

-- the walk is at the link x, after p
abbrev pub invariant-loop-x : goal.invariant-loop-x
invariant-loop-x l = Reach l.view l.k (place l.fn.list) l.low l.high l.met l.p l.x

abbrev pub decreases-loop-x : goal.decreases-loop-x
decreases-loop-x l = l.view.used - l.met

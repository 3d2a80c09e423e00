-- `heap::alloc_small` meets its contract: a refill where the count is low, then a draw. Assumes nothing.
use native.Mathlib.Omega.{arith}
use Rattle.tables.proofs.LentLaws.{lent_on}
use Rattle.heap.proofs.HeapLaws.{first_used, first_room_lem, alloc_made, working_slot, working_capacity}
use Rattle.heap.proofs.alloc_small.Goals as goal

pub refill_first-i-requires : goal.refill_first-i-requires
refill_first-i-requires c = let p = c.requires in
    record {
      working = p.working;
      fronts = p.fronts;
      capacity_in_bounds = omega (arith, p.capacity_in_bounds);
    }

pub draw-requires : goal.draw-requires
draw-requires c =
    let p = c.requires in
    let e = c.refill_first-i.ensures.refilled in
    let few = first_used _ p.working e in
    record {
      room = first_room_lem _ p.working e p.fronts;
      i_in_bounds = (omega (arith, few, p.capacity_in_bounds), omega (arith, few, working_capacity p.working));
      slot_le_largest_slot = working_slot p.working;
    }

pub returns-clause-lent : goal.returns-clause-lent
returns-clause-lent c = lent_on c.refill_first-i.ensures.lent c.draw.ensures.lent

pub returns-clause-ended : goal.returns-clause-ended
returns-clause-ended c = alloc_made _ c.requires.working c.refill_first-i.ensures.refilled _ c.draw.ensures.ended

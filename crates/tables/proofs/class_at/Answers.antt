-- `tables::class_at` meets its contract. Assumes nothing.
use Rattle.tables.specs.Shape.{class_placed, class_heap}
use Rattle.tables.proofs.class_at.Goals as goal

pub capacity_for-capacity-requires : goal.capacity_for-capacity-requires
capacity_for-capacity-requires c = let s = c.slot-slot.ensures in rw s.size (s.admissible.positive _ c.requires)

pub slots_per_span-requires : goal.slots_per_span-requires
slots_per_span-requires c = let s = c.slot-slot.ensures in rw s.size (s.admissible.positive _ c.requires)

pub returns-clause-placed : goal.returns-clause-placed
unfolding class_placed
returns-clause-placed c =
    rw (c.low_water_for.ensures, c.capacity_for-capacity.ensures, c.slots_per_span.ensures, c.slot-slot.ensures.size)

pub returns-clause-home : goal.returns-clause-home
unfolding class_heap
returns-clause-home c most heaps n er eb =
    rw (c.low_water_for.ensures, c.capacity_for-capacity.ensures, c.slots_per_span.ensures, c.slot-slot.ensures.size, er, eb)

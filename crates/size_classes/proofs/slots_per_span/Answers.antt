-- `size_classes::slots_per_span` meets its contract. Assumes nothing.
use native.Mathlib.Omega.{arith}
use Rattle.size_classes.specs.SlotSizes.{largest_slot}
use Rattle.size_classes.specs.Slots.{most_slots, fewest_slots, slots_per_span}
use Rattle.size_classes.proofs.slots_per_span.Goals as goal

pub returns : goal.returns
unfolding slots_per_span most_slots fewest_slots largest_slot
returns c = omega arith

-- Which shapes the calls serve. Assumes nothing.
use Rattle.std.specs.Prelude.{◌≡◌, true, ◌*◌, ◌^◌, ◌≤◌}
use Rattle.size_classes.specs.SlotSizes.{Admissible}
use Rattle.size_classes.specs.Slots.{most_slots}
use Rattle.tables.specs.Shape.{Shape}
use Rattle.tables.specs.Cells.{right_shape}

-- the slot sizes are admissible, and each block of a table as stated has an entry that is a number of 64 bits
pub record Served (g : Shape) : Type 0 where
  pub sizes : Admissible g.sizes
  pub few : right_shape g ≡ true → g.spans * most_slots ≤ 2 ^ 64

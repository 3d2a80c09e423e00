-- What the steps of one class of one heap ask of a table, and keep: the table is filled, k is a class of one of its heaps, and no more spans
-- than `limit` are taken of it, if it has so many. Assumes nothing.
use Rattle.std.specs.Prelude.{◌≡◌, ℕ, ◌*◌, ◌^◌, ◌<◌, ◌≤◌}
use Rattle.size_classes.specs.Slots.{most_slots}
use Rattle.tables.specs.declared.ClassHeap.{ClassHeap}
use Rattle.tables.specs.Shape.{Shape, classes, class_heap}
use Rattle.tables.specs.Cells.{Tables}
use Rattle.sound.specs.Filled.{Filled}

pub record Working (limit : ℕ) (k : ClassHeap) (t : Tables) : Type 0 where
  pub shape : Shape
  pub heap : ℕ
  pub class : ℕ
  pub in_heaps : heap < shape.heaps
  pub in_classes : class < classes shape
  pub named : k ≡ class_heap shape heap class
  pub limited : limit ≤ shape.spans
  -- each block has an entry that is a number of 64 bits
  pub few : shape.spans * most_slots ≤ 2 ^ 64
  pub filled : Filled shape t

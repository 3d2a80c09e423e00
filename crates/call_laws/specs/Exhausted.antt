-- When refusal 6 is given. Assumes nothing.
use Rattle.std.specs.Prelude.{ℕ, ◌<◌, ◌≤◌}
use Rattle.tables.specs.Shape.{Shape, class_heap}
use Rattle.tables.specs.Cells.{Tables}
use Rattle.sound.specs.Sound.{Belongs}
use Rattle.outs.specs.Outs.{IsOut}

pub record Exhausted (g : Shape) (t : Tables) (heap class : ℕ) : Type 0 where
  -- "every slot of this heap's spans in the class is out"
  pub out : (s q : ℕ) → Belongs t (class_heap g heap class) s → q < (class_heap g heap class).slots → IsOut g t s q
  -- "and no span is unused"
  pub used : g.spans ≤ t.used

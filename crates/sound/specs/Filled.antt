-- What of soundness speaks of cells and not of lists. Every small step keeps it, in the middle of a call too, and it is what code needs for its places
-- and subtractions. Assumes nothing.
use Rattle.std.specs.Prelude.{◌≡◌, true, ℕ, ◌<◌, ◌≤◌}
use Rattle.size_classes.specs.SlotSizes.{Admissible}
use Rattle.tables.specs.Shape.{Shape, classes, class_heap}
use Rattle.tables.specs.Cells.{Tables, as_stated, previous_at, next_at, head_at, reserve}
use Rattle.sound.specs.Sound.{SpanFilled, MagazineSound}

pub record Filled (g : Shape) (t : Tables) : Type 0 where
  pub sizes : Admissible g.sizes
  pub stated : as_stated g t ≡ true
  pub within : t.used ≤ g.spans
  pub spans : (s : ℕ) → s < t.used → SpanFilled g t s
  -- every link is none or a used span
  pub previous : (s : ℕ) → s < t.used → previous_at t s ≤ t.used
  pub next : (s : ℕ) → s < t.used → next_at t s ≤ t.used
  pub fronts : (h : ℕ) → h < g.heaps → (c : ℕ) → c < classes g → (f : ℕ) → f ≤ reserve → head_at t (class_heap g h c) f ≤ t.used
  pub magazines : (h : ℕ) → h < g.heaps → (c : ℕ) → c < classes g → MagazineSound t (class_heap g h c)

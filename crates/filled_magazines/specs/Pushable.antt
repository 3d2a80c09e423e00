-- Entries that may be pushed on a magazine. Assumes nothing.
use Rattle.std.specs.Prelude.{◌≡◌, List, ℕ, ◌+◌, ◌<◌, ◌≤◌, length, get_or}
use Rattle.tables.specs.declared.ClassHeap.{ClassHeap}
use Rattle.tables.specs.Shape.{Shape}
use Rattle.tables.specs.Cells.{Tables, count_at, entry_span, entry_slot}
use Rattle.span.specs.declared.BlockState.TheVariants.{Out}
use Rattle.span.specs.State.{state_of}
use Rattle.sound.specs.Sound.{Belongs}

-- an entry that names a block that is out, of a used span of that class and heap
pub record OutEntry (g : Shape) (t : Tables) (k : ClassHeap) (e : ℕ) : Type 0 where
  pub belongs : Belongs t k (entry_span e)
  pub in_range : entry_slot e < k.slots
  pub out : state_of g t (entry_span e) (entry_slot e) ≡ Out

-- entries that may be pushed one after the other: each names such a block, no two are equal, and there is room for all
pub record Pushable (g : Shape) (t : Tables) (k : ClassHeap) (es : List ℕ) : Type 0 where
  pub each : (j : ℕ) → j < length es → OutEntry g t k (get_or es j 0)
  pub distinct : (j : ℕ) → j < length es → (i : ℕ) → i < j → get_or es i 0 ≡ get_or es j 0 → ⊥
  pub fits : count_at t k + length es ≤ k.capacity

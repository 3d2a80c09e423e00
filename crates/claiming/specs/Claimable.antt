-- A claim's answer that may enter the magazine: the table is a working one, and the slots taken are out and fit in. Assumes nothing.
use Rattle.std.specs.Prelude.{◌≡◌, ℕ, ◌-◌, ◌<◌}
use Rattle.occupancy.specs.declared.Claimed.{Claimed}
use Rattle.occupancy.specs.declared.Claimed.TheVariants.{Taken}
use Rattle.tables.specs.declared.ClassHeap.{ClassHeap}
use Rattle.tables.specs.Cells.{Tables, head_at, partial_list}
use Rattle.span.specs.Span.{claimed_entries}
use Rattle.sound.specs.Sound.{Belongs}
use Rattle.filled_magazines.specs.Pushable.{Pushable}
use Rattle.placing.specs.Working.{Working}

pub record Claimable (limit : ℕ) (k : ClassHeap) (t : Tables) (s : ℕ) (answer : Claimed) : Type 0 where
  pub working : Working limit k t
  pub used : s < t.used
  pub place : (i mask : ℕ) → answer ≡ Taken i mask → i < 64
  pub pushable : (i mask : ℕ) → answer ≡ Taken i mask → Pushable working.shape t k (claimed_entries s i mask)

-- Span s of a working table is of that class and heap.
pub record Own (limit : ℕ) (k : ClassHeap) (t : Tables) (s : ℕ) : Type 0 where
  pub working : Working limit k t
  pub belongs : Belongs t k s

-- A working table whose partial list has a front, of that class and heap.
pub record Fronted (limit : ℕ) (k : ClassHeap) (t : Tables) : Type 0 where
  pub some : 0 < head_at t k partial_list
  pub own : Own limit k t (head_at t k partial_list - 1)

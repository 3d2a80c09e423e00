-- A block that its owner may free: the table is a working one, and the block is one of the class and heap, and is out. Assumes nothing.
use Rattle.std.specs.Prelude.{◌≡◌, ℕ, ◌<◌}
use Rattle.tables.specs.declared.ClassHeap.{ClassHeap}
use Rattle.tables.specs.Cells.{Tables}
use Rattle.span.specs.declared.BlockState.TheVariants.{Out}
use Rattle.span.specs.State.{state_of}
use Rattle.sound.specs.Sound.{Belongs}
use Rattle.placing.specs.Working.{Working}

pub record Freeable (limit : ℕ) (k : ClassHeap) (t : Tables) (s q : ℕ) : Type 0 where
  pub working : Working limit k t
  pub belongs : Belongs t k s
  pub inside : q < k.slots
  pub out : state_of working.shape t s q ≡ Out

-- A slot that may go back to its span: the table is a working one, and the block is out. Assumes nothing.
use Rattle.std.specs.Prelude.{◌≡◌, ℕ, ◌<◌}
use Rattle.tables.specs.declared.ClassHeap.{ClassHeap}
use Rattle.tables.specs.Cells.{Tables}
use Rattle.span.specs.declared.BlockState.TheVariants.{Out}
use Rattle.span.specs.State.{state_of}
use Rattle.sound.specs.Sound.{home_of}
use Rattle.placing.specs.Working.{Working}

pub record Returnable (limit : ℕ) (k : ClassHeap) (t : Tables) (s q : ℕ) : Type 0 where
  pub working : Working limit k t
  pub used : s < t.used
  pub inside : q < (home_of working.shape t s).slots
  pub out : state_of working.shape t s q ≡ Out

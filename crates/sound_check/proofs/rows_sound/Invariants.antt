-- `sound_check::rows_sound` meets its contract: the rows passed are right, and the spans met in them are counted. Assumes nothing.
use mathlib.Core.Path.{◌≡◌}
use Prim.Native.Nat.{ℕ}
use Rattle.tables.specs.Shape.{Shape}
use Rattle.tables.specs.Cells.{Tables}
use Rattle.sound_check.specs.Joined.{Passed}
use Rattle.sound_check.proofs.BaseTurns.{base_at}
use Rattle.sound_check.proofs.rows_sound.Given as goal

-- the check has come to row r
pub record Rows (g : Shape) (t : Tables) (r base total : ℕ) : Type 0 where
  pub begins : base ≡ base_at g r
  pub passed : Passed g t r total

abbrev pub invariant-loop-r : goal.invariant-loop-r
invariant-loop-r l = Rows l.shape l.view l.r l.base l.total

-- What every call but the fresh-table maker tests first. Assumes nothing.
use Rattle.std.specs.Prelude.{cond, ℕ}
use Rattle.tables.specs.Shape.{Shape}
use Rattle.tables.specs.Cells.{Tables, as_stated}
use Rattle.sound.specs.Decided.{is_sound}

-- 1 "heaps, spans or a lent table's length is not as stated here", 2 "the table is unsound"
unfoldable pub sound_number : Shape → Tables → ℕ
sound_number g t = cond (as_stated g t) (cond (is_sound g t) 0 2) 1

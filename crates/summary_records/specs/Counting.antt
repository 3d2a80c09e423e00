-- How the summary of a table is counted: the flat numbers of all classes, or a refusal. Assumes nothing.
use Rattle.std.specs.Prelude.{◌&&◌, cond, List, ℕ, Result, Ok, Err, eqb}
use Rattle.refusals.specs.declared.Refusal.{Refusal}
use Rattle.refusals.specs.declared.Refusal.TheVariants.{NotAsStated, Unsound}
use Rattle.tables.specs.Shape.{Shape, classes}
use Rattle.tables.specs.Cells.{Tables, as_stated}
use Rattle.sound.specs.Decided.{is_sound}
use Rattle.calls.specs.Summary.{class_records}

-- "48 records, one per class"
abbrev pub base_classes : ℕ
base_classes = 48

-- the flat numbers, where so many records are lent
unfoldable pub counted_of : Shape → Tables → ℕ → Result (List ℕ) Refusal
counted_of g t lent =
    cond (as_stated g t && eqb lent base_classes) (cond (is_sound g t) (Ok (class_records (classes g) 0 g t)) (Err Unsound)) (Err NotAsStated)

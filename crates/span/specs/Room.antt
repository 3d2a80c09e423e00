-- The cells of a span are there, and its occupancy is right: what the steps of a span ask. Assumes nothing.
use Rattle.std.specs.Prelude.{List, [], ℕ, suc, ◌*◌, ◌≤◌, length}
use Rattle.occupancy.specs.declared.Occupancy.{Occupancy}
use Rattle.occupancy.specs.Right.{Right, Pending}
use Rattle.tables.specs.Shape.{bitmap_cells, record_cells}
use Rattle.tables.specs.Cells.{tables}
use Rattle.span.specs.Span.{loaded, pending_words}

-- the words of span s, and of every span before it, are within their table; and so are the records
pub record WordCells (bits : List ℕ) (s : ℕ) : Type 0 where
  pub there : suc s * bitmap_cells ≤ length bits

pub record FieldCells (spans : List ℕ) (s : ℕ) : Type 0 where
  pub there : suc s * record_cells ≤ length spans

pub record SpanCells (bits spans : List ℕ) (s : ℕ) : Type 0 where
  pub words : WordCells bits s
  pub fields : FieldCells spans s

-- the occupancy of span s, and its pending words, as they stand in the two tables that hold them
abbrev pub occupancy_in : List ℕ → List ℕ → ℕ → Occupancy
occupancy_in bits spans s = loaded (tables bits spans [] [] 0) s

abbrev pub pending_in : List ℕ → ℕ → List ℕ
pending_in bits s = pending_words (tables bits [] [] [] 0) s

-- a span of so many slots whose pending slots are taken
pub record Foldable (slots : ℕ) (bits spans : List ℕ) (s : ℕ) : Type 0 where
  pub right : Right slots (occupancy_in bits spans s)
  pub pending : Pending slots (occupancy_in bits spans s) 0 (pending_in bits s)

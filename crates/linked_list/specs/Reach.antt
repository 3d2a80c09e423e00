-- What a list's code has to know of two lent tables: each link that it follows names a span whose cells are there. Assumes nothing.
use Rattle.std.specs.Prelude.{List, ℕ, ◌*◌, ◌<◌, ◌≤◌, length, get_or}
use Rattle.tables.specs.Shape.{record_cells}
use Rattle.tables.specs.Cells.{span_cell, previous_field, next_field, head_cell, reserve, counter}

-- the records of n spans are there and link to none past them, and so do the lists of the row
pub record Links (n : ℕ) (spans heads : List ℕ) (row : ℕ) : Type 0 where
  pub room : n * record_cells ≤ length spans
  pub previous : (s : ℕ) → s < n → get_or spans (span_cell s previous_field) 0 ≤ n
  pub next : (s : ℕ) → s < n → get_or spans (span_cell s next_field) 0 ≤ n
  pub rows : (f : ℕ) → f ≤ counter → head_cell row f < length heads
  pub fronts : (f : ℕ) → f ≤ reserve → get_or heads (head_cell row f) 0 ≤ n

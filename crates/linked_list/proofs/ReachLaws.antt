-- What `Links` gives a step of a list: the cells of each span that a link names are there. Assumes nothing.
use mathlib.Core.List.{List}
use Prim.Native.Nat.{ℕ, ◌<◌, ◌≤◌}
use native.Mathlib.Nat.{le-mul_of_pos_right}
use native.Mathlib.Omega.{arith}
use lib.ListN.{length}
use Rattle.tables.specs.Shape.{record_cells}
use Rattle.tables.specs.Cells.{span_cell, next_field, head_cell, reserve}
use Rattle.tables.proofs.CellLaws.{span_in, field_in}
use Rattle.linked_list.specs.Reach.{Links}

module _ {n : ℕ} {spans heads : List ℕ} {row : ℕ} (r : Links n spans heads row) where
  -- each field of a span among the n is there
  pub field_here : {s f : ℕ} → s < n → f ≤ next_field → span_cell s f < length spans
  field_here hs hf = omega (arith, r.room, span_in hs (field_in hf))

  -- and so is each field of the span that a link in range names
  pub linked_here : {s f x : ℕ} → x ≤ n → s < x → f ≤ next_field → span_cell s f < length spans
  linked_here hx hs hf = field_here (omega arith) hf

  -- the head of each list of the row is there
  pub head_here : {f : ℕ} → f ≤ reserve → head_cell row f < length heads
  head_here {f} hf = r.rows f (omega arith)

  -- there are fewer spans than cells, so the link to a span is a number that fits
  pub few_spans_lem : n ≤ length spans
  few_spans_lem = omega (arith, r.room, le-mul_of_pos_right {m = record_cells} n (field_in {f = 0} (omega arith)))

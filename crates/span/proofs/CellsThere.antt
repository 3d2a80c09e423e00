-- What follows where the cells of a span are there: each word and each field is within its table. Assumes nothing.
use mathlib.Core.Path.{◌≡◌, ap₂}
use mathlib.Core.List.{List}
use Prim.Native.Nat.{ℕ, suc, ◌+◌, ◌-◌, ◌<◌, ◌≤◌}
use native.Mathlib.Omega.{arith}
use lib.ListN.{length, take, drop, length-drop}
use lib.Seq.{length-take-le}
use Rattle.tables.specs.Shape.{bitmap_cells}
use Rattle.tables.specs.Cells.{bitmap_cell, span_cell, local_word, remote_word, remote_summary, class_field, next_field}
use Rattle.span.specs.Room.{WordCells, FieldCells}
use Rattle.tables.proofs.CellLaws.{bitmap_in, bitmap_next, local_in, remote_in, summaries_in, span_in, span_next, field_in}

module _ (bits : List ℕ) (s : ℕ) (cells : WordCells bits s) where
  -- A word of the span is within the table.
  pub word_there : {i : ℕ} → i < bitmap_cells → bitmap_cell s i < length bits
  word_there {i} h = omega (arith, bitmap_in {s = s} {n = suc s} {i = i} (omega arith) h, cells.there)

  -- Both summaries, the local words and the remote words are within the table.
  pub summary_there : (i : ℕ) → i ≤ remote_summary → bitmap_cell s i < length bits
  summary_there i h = word_there (summaries_in h)

  pub local_word_there : (i : ℕ) → i < 64 → bitmap_cell s (local_word i) < length bits
  local_word_there i h = word_there (local_in h)

  pub remote_word_there : (i : ℕ) → i < 64 → bitmap_cell s (remote_word i) < length bits
  remote_word_there i h = word_there (remote_in h)

  pub local_there : bitmap_cell s (local_word 0) + 64 ≤ length bits
  local_there = omega (arith, word_there {i = local_word 63} (local_in {i = 63} (omega arith)), bitmap_next s 1 63)

  pub remote_there : bitmap_cell s (remote_word 0) + 64 ≤ length bits
  remote_there = omega (arith, word_there {i = remote_word 63} (remote_in {i = 63} (omega arith)), bitmap_next s 66 63)

  -- The remote summary and the remote words stand together.
  pub pending_there : bitmap_cell s remote_summary + 65 ≤ length bits
  pending_there = omega (arith, remote_there, bitmap_next s 65 1)

-- A field of the span's record is within the table.
pub field_there : (spans : List ℕ) (s : ℕ) → FieldCells spans s → (f : ℕ) → f ≤ next_field → span_cell s f < length spans
field_there spans s cells f h = omega (arith, span_in {s = s} {n = suc s} {f = f} (omega arith) (field_in h), cells.there)

-- All five fields are.
pub record_there : (spans : List ℕ) (s : ℕ) → FieldCells spans s → span_cell s class_field + 5 ≤ length spans
record_there spans s cells = omega (arith, field_there spans s cells 4 (omega arith), span_next s 0 4)

-- A part of 64 cells, its start computed.
pub part_is : (bits : List ℕ) (from at : ℕ) → from ≡ at → take (from + 64 - from) (drop from bits) ≡ take 64 (drop at bits)
part_is bits from at e = let n : from + 64 - from ≡ 64 = omega arith in ap₂ (λ (x y : ℕ). take x (drop y bits)) n e

pub part_long : (bits : List ℕ) (at : ℕ) → at + 64 ≤ length bits → length (take 64 (drop at bits)) ≡ 64
part_long bits at h = length-take-le 64 (drop at bits) (rw length-drop (omega arith))

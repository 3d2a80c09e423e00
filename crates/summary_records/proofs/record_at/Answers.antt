-- `summary_records::record_at` meets its contract: each field is the cell of its name. Assumes nothing.
use native.Mathlib.Omega.{arith}
use Prim.Native.Nat.{ℕ, ◌<◌, ◌≤◌}
use Rattle.summing.specs.Tally.{summary_cell, pending_cell}
use Rattle.summary_records.proofs.record_at.Goals as goal

-- A cell of a record stands before the last.
before_last : (c f : ℕ) {n : ℕ} → f ≤ pending_cell → summary_cell c pending_cell < n → summary_cell c f < n
unfolding summary_cell
before_last c f h l = omega arith

pub cell-requires : goal.cell-requires
cell-requires c = before_last _ _ (omega arith) c.requires

pub cell-requires-2 : goal.cell-requires-2
cell-requires-2 c = before_last _ _ (omega arith) c.requires

pub cell-requires-3 : goal.cell-requires-3
cell-requires-3 c = before_last _ _ (omega arith) c.requires

pub cell-requires-4 : goal.cell-requires-4
cell-requires-4 c = before_last _ _ (omega arith) c.requires

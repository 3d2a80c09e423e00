-- `span_steps::less_pending` meets its contract. Assumes nothing.
use borrow.Author.Rules.{rules}
use mathlib.Core.Path.{ap₂, ◌∙◌}
use mathlib.Core.List.{List, []}
use Prim.Native.Nat.{ℕ}
use native.Mathlib.Omega.{arith}
use Rattle.occupancy.specs.declared.Occupancy.{Occupancy}
use Rattle.occupancy.specs.Occupied.{fold_in}
use Rattle.span.proofs.CellsThere.{remote_there, part_is}
use Rattle.span_steps.proofs.less_pending.Goals as goal

pub bitmap_cell-from-requires : goal.bitmap_cell-from-requires
bitmap_cell-from-requires c = omega (arith, remote_there _ _ c.requires.span_cells.words)

pub overflow_add-from : goal.overflow_add-from
overflow_add-from c = search (rules, remote_there _ _ c.requires.span_cells.words, c.bitmap_cell-from.ensures)

pub offset_bounds-bits-from : goal.offset_bounds-bits-from
offset_bounds-bits-from c = search (rules, remote_there _ _ c.requires.span_cells.words, c.bitmap_cell-from.ensures)

pub slice_bounds-fold_in-end : goal.slice_bounds-fold_in-end
slice_bounds-fold_in-end c = search (rules, remote_there _ _ c.requires.span_cells.words, c.bitmap_cell-from.ensures)

pub fold_in-requires-clause-by_index : goal.fold_in-requires-clause-by_index
fold_in-requires-clause-by_index c =
    let p = part_is c.args.bits.now c.bitmap_cell-from.result _ c.bitmap_cell-from.ensures in
    (c.requires.by_index.0, (rw (c.load-o.ensures [] [] 0) c.requires.by_index.1.right, rw (c.load-o.ensures [] [] 0, p) c.requires.by_index.1.pending))

pub returns : goal.returns
returns c =
    c.fold_in.ensures
    ∙ ap₂ (λ (o : Occupancy) (l : List ℕ). fold_in o l) (c.load-o.ensures [] [] 0) (part_is c.args.bits.now c.bitmap_cell-from.result _ c.bitmap_cell-from.ensures)

-- `span::put_local` meets its contract: the words stand after the summary. Assumes nothing.
use borrow.Author.Rules.{rules}
use mathlib.Core.Path.{◌≡◌, ap, ◌∙◌}
use native.Mathlib.Omega.{arith}
use lib.ListN.{length, length-set}
use Rattle.span.proofs.CellsThere.{summary_there, local_there}
use Rattle.span.proofs.SpanSteps.{local_is}
use Rattle.span.proofs.put_local.Goals as goal

pub put_word-requires : goal.put_word-requires
put_word-requires c = summary_there _ _ c.requires 0 (omega arith)

pub bitmap_cell-requires : goal.bitmap_cell-requires
bitmap_cell-requires c = omega (arith, local_there _ _ c.requires)

pub put_cells-requires : goal.put_cells-requires
put_cells-requires c =
    let l : length c.put_word.new.bits ≡ length c.args.bits.now = ap length c.put_word.ensures ∙ simp length-set in
    omega (arith, local_there _ _ c.requires, c.bitmap_cell.ensures)

pub returns : goal.returns
returns c =
    let l : length c.args.o.now.words ≡ 64 = search rules in
    local_is _ _ c.args.o.now _ _ _ (summary_there _ _ c.requires 0 (omega arith)) c.put_word.ensures c.bitmap_cell.ensures
    (rw l at c.put_cells.ensures)

-- `span::blank` meets its contract. Assumes nothing.
use borrow.Author.Rules.{rules}
use mathlib.Core.Path.{◌≡◌, ap, ◌∙◌}
use mathlib.Core.List.{[], ◌∷◌, ◌++◌}
use lib.ListN.{length, replicate}
use lib.Seq.{paste}
use Rattle.occupancy.specs.declared.Occupancy.{Occupancy}
use Rattle.tables.specs.Shape.{bitmap_cells}
use Rattle.tables.specs.Cells.{bitmap_cell, local_summary}
use Rattle.span.proofs.CellsThere.{remote_there}
use Rattle.span.proofs.SpanSteps.{blank_is}
use Rattle.span.proofs.blank.Goals as goal

pub returns : goal.returns
returns c =
    let l : length c.fresh.result.words ≡ 64 = search rules in
    blank_is _ _ c.fresh.result _ _ l (remote_there _ _ c.requires.word_cells) c.put_local.ensures (c.clear_pending.ensures [] [] [] 0)
    ∙ ap (λ (o : Occupancy). paste c.args.bits.now (bitmap_cell c.args.s local_summary) ((o.summary ∷ o.words) ++ replicate 65 0) bitmap_cells)
    c.fresh.ensures

-- `span::new_record` meets its contract: the five fields stand one after the other. Assumes nothing.
use mathlib.Core.Path.{sym, ◌∙◌}
use mathlib.Core.List.{[], ◌∷◌}
use native.Mathlib.Omega.{arith}
use lib.Seq.{sets-eq}
use Rattle.span.proofs.CellsThere.{record_there}
use Rattle.span.proofs.new_record.Goals as goal

pub span_cell-requires : goal.span_cell-requires
span_cell-requires c = omega (arith, record_there _ _ c.requires)

pub put_cells-requires : goal.put_cells-requires
put_cells-requires c = omega (arith, record_there _ _ c.requires, c.span_cell.ensures)

pub returns : goal.returns
returns c =
    c.put_cells.ensures
    ∙ rw c.span_cell.ensures (sym (sets-eq (c.args.class ∷ c.args.owner ∷ 0 ∷ 0 ∷ 0 ∷ []) c.args.spans.now _ (record_there _ _ c.requires)))

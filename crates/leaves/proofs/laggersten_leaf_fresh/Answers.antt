-- `leaves::laggersten_leaf_fresh` meets its contract. Assumes nothing.
use mathlib.Core.Path.{ap, ◌∙◌}
use Rattle.occupancy.specs.declared.Occupancy.{Occupancy}
use Rattle.tables.specs.Cells.{tables}
use Rattle.span.specs.Span.{stored}
use Rattle.leaves.proofs.laggersten_leaf_fresh.Goals as goal

pub returns : goal.returns
returns c =
    λ e h u.
    c.store.ensures e h u
    ∙ ap (λ (o : Occupancy). stored (tables c.args.bits.now c.args.spans.now e h u) c.args.s o) c.fresh-o.ensures

-- `span_steps::reclaim_pending` meets its contract. Assumes nothing.
use mathlib.Core.Path.{ap, ◌∙◌}
use Rattle.occupancy.specs.declared.Occupancy.{Occupancy}
use Rattle.tables.specs.Cells.{Tables, tables}
use Rattle.span.specs.Span.{stored, clear_pending, reclaim_pending}
use Rattle.span_steps.proofs.reclaim_pending.Goals as goal

pub returns : goal.returns
unfolding reclaim_pending
returns c =
    λ e h u.
    c.clear_pending.ensures c.store.new.spans e h u
    ∙ ap (λ (t : Tables). clear_pending t c.args.s)
    (c.store.ensures e h u
    ∙ ap (λ (o : Occupancy). stored (tables c.args.bits.now c.args.spans.now e h u) c.args.s o) c.less_pending-o.ensures)

-- `summing::add_span` meets its contract: three additions to the record of the span's class. Assumes nothing.
use native.Mathlib.Omega.{arith}
use Rattle.span.proofs.CellsThere.{field_there}
use Rattle.summing.proofs.StepLaws.{fits_spans, fits_used, fits_pending, span_is_added}
use Rattle.summing.proofs.add_span.Goals as goal

pub field-c-requires : goal.field-c-requires
field-c-requires c =
    let fits = rw (← c.view.view_is) at c.requires in
    field_there _ _ fits.fields _ (omega arith)

pub field-occupied-requires : goal.field-occupied-requires
field-occupied-requires c =
    let fits = rw (← c.view.view_is) at c.requires in
    field_there _ _ fits.fields _ (omega arith)

pub add-requires : goal.add-requires
add-requires c = fits_spans (rw (← c.view.view_is) at c.requires) c.field-c.ensures

pub add-requires-2 : goal.add-requires-2
add-requires-2 c = fits_used (rw (← c.view.view_is) at c.requires) c.field-c.ensures c.field-occupied.ensures c.add.ensures

pub add-requires-3 : goal.add-requires-3
add-requires-3 c = fits_pending (rw (← c.view.view_is) at c.requires) _ c.field-c.ensures c.pending-pending.ensures c.add.ensures c.add-2.ensures

pub returns : goal.returns
returns c =
    rw (← c.view.view_is)
    (span_is_added _ _ _ c.field-c.ensures c.field-occupied.ensures c.pending-pending.ensures c.add.ensures c.add-2.ensures c.add-3.ensures)

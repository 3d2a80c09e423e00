-- `summary_records::count_all` meets its contract: the flat summary over 01's list and limit, in cells of 0. Assumes nothing.
use Rattle.std.proofs.lemmas.Result.{err_from_is_err_and}
use Rattle.size_classes.proofs.SlotSizeLaws.{slot_sizes_admissible}
use Rattle.tables.specs.Shape.{most_spans}
use Rattle.calls.specs.Summary.{summary_cells}
use Rattle.summary_records.proofs.CountedLaws.{counted_refused, counted_given, counted_not}
use Rattle.summary_records.proofs.count_all.Goals as goal

pub returns-then-lent-ne-CLASSES : goal.returns-then-lent-ne-CLASSES
returns-then-lent-ne-CLASSES c = counted_refused _ _ c.if-lent-ne-CLASSES.true

pub new-sizes-requires : goal.new-sizes-requires
new-sizes-requires c = rw c.slot_sizes-list.ensures slot_sizes_admissible

pub returns-in_err-summary : goal.returns-in_err-summary
unfolding most_spans summary_cells
returns-in_err-summary c =
    let p = err_from_is_err_and c.from_residual.result c.from_residual.ensures.1 in
    rw (p.1, p.2)
    (counted_not _ _ _ c.if-lent-ne-CLASSES.false _ (rw (c.new-sizes.ensures, c.slot_sizes-list.ensures) at c.in_err-summary.ensures))

pub returns : goal.returns
unfolding most_spans summary_cells
returns c = counted_given _ _ _ c.if-lent-ne-CLASSES.false (rw (c.new-sizes.ensures, c.slot_sizes-list.ensures) at c.in_ok-summary.ensures)

-- `laggersten::free` meets its contract: by the table's number, a refusal or the call on a sound table. Assumes nothing.
use Rattle.std.proofs.lemmas.Result.{err_from_is_err_and}
use Rattle.refusals.proofs.NumberLaws.{number_some}
use Rattle.size_classes.proofs.SlotSizeLaws.{slot_sizes_admissible}
use Rattle.tables.specs.Shape.{most_spans}
use Rattle.tables.specs.Lent.{cells}
use Rattle.laggersten.proofs.PublicLaws.{by_view, sound_lent, free_refused, free_passed}
use Rattle.laggersten.proofs.free.Goals as goal

pub new-sizes-requires : goal.new-sizes-requires
new-sizes-requires c = rw c.slot_sizes-list.ensures slot_sizes_admissible

pub returns-in_err-check-clause-ended : goal.returns-in_err-check-clause-ended
returns-in_err-check-clause-ended c =
    let a = c.args in
    let p = err_from_is_err_and c.from_residual.result c.from_residual.ensures.1 in
    let n = by_view a.heaps a.spans (cells a.tables.now) _ c.slot_sizes-list.ensures c.new-sizes.ensures c.view.ensures c.in_err-check.ensures in
    rw (p.1, p.2) (free_refused a.heaps a.spans (cells a.tables.now) _ n a.heap a.span a.offset (number_some _))

pub free_sound-requires : goal.free_sound-requires
unfolding most_spans
free_sound-requires c =
    let a = c.args in
    let n = by_view a.heaps a.spans (cells a.tables.now) _ c.slot_sizes-list.ensures c.new-sizes.ensures c.view.ensures c.in_ok-check.ensures in
    rw (c.new-sizes.ensures, c.slot_sizes-list.ensures) (sound_lent a.heaps a.spans (cells a.tables.now) n)

pub returns-clause-ended : goal.returns-clause-ended
unfolding most_spans
returns-clause-ended c =
    let a = c.args in
    let n = by_view a.heaps a.spans (cells a.tables.now) _ c.slot_sizes-list.ensures c.new-sizes.ensures c.view.ensures c.in_ok-check.ensures in
    free_passed a.heaps a.spans (cells a.tables.now) a.heap a.span a.offset _ n (rw (c.new-sizes.ensures, c.slot_sizes-list.ensures) at c.free_sound.ensures.ended)

-- `laggersten::batch` meets its contract: 1, 10 and 2 in order, or the records on a sound table. Assumes nothing.
use mathlib.Core.Path.{sym, ◌∙◌}
use Rattle.std.proofs.lemmas.Result.{err_from_is_err_and}
use Rattle.refusals.proofs.NumberLaws.{number_some}
use Rattle.size_classes.proofs.SlotSizeLaws.{slot_sizes_admissible}
use Rattle.class_lookup.proofs.LookupLaws.{class_tables}
use Rattle.tables.specs.Shape.{most_spans}
use Rattle.tables.specs.Lent.{cells}
use Rattle.laggersten.proofs.PublicLaws.{by_view, stated_by, sound_lent, batch_one_lem, batch_ten_lem, batch_two_lem, batch_passed, whole_fits}
use Rattle.laggersten.proofs.batch.Goals as goal

pub new-sizes-requires : goal.new-sizes-requires
new-sizes-requires c = rw c.slot_sizes-list.ensures slot_sizes_admissible

pub returns-then-not-as_stated-clause-batched : goal.returns-then-not-as_stated-clause-batched
returns-then-not-as_stated-clause-batched c =
    let a = c.args in
    let s = stated_by a.heaps a.spans (cells a.tables.now) _ c.slot_sizes-list.ensures c.new-sizes.ensures c.view-view.ensures c.as_stated.ensures in
    batch_one_lem a.heaps a.spans (cells a.tables.now) a.bytes.now a.answers.now (sym s ∙ c.if-not-as_stated.true)

pub returns-then-not-whole_records-clause-batched : goal.returns-then-not-whole_records-clause-batched
returns-then-not-whole_records-clause-batched c =
    let a = c.args in
    let s = stated_by a.heaps a.spans (cells a.tables.now) _ c.slot_sizes-list.ensures c.new-sizes.ensures c.view-view.ensures c.as_stated.ensures in
    batch_ten_lem a.heaps a.spans (cells a.tables.now) a.bytes.now a.answers.now (sym s ∙ c.if-not-as_stated.false) (sym c.whole_records.ensures ∙ c.if-not-whole_records.true)

pub returns-in_err-check-clause-batched : goal.returns-in_err-check-clause-batched
returns-in_err-check-clause-batched c =
    let a = c.args in
    let p = err_from_is_err_and c.from_residual.result c.from_residual.ensures.1 in
    let s = stated_by a.heaps a.spans (cells a.tables.now) _ c.slot_sizes-list.ensures c.new-sizes.ensures c.view-view.ensures c.as_stated.ensures in
    let n = by_view a.heaps a.spans (cells a.tables.now) _ c.slot_sizes-list.ensures c.new-sizes.ensures c.view-view.ensures c.in_err-check.ensures in
    rw (p.1, p.2)
    (batch_two_lem a.heaps a.spans (cells a.tables.now) a.bytes.now a.answers.now (sym s ∙ c.if-not-as_stated.false) (sym c.whole_records.ensures ∙ c.if-not-whole_records.false) _ n (number_some _))

pub new-classes-requires : goal.new-classes-requires
new-classes-requires c = rw (c.new-sizes.ensures, c.slot_sizes-list.ensures, c.made-lookup.ensures) class_tables.right

pub batch_sound-requires : goal.batch_sound-requires
unfolding most_spans
batch_sound-requires c =
    let a = c.args in
    let n = by_view a.heaps a.spans (cells a.tables.now) _ c.slot_sizes-list.ensures c.new-sizes.ensures c.view-view.ensures c.in_ok-check.ensures in
    record {
      sizes = c.new-classes.ensures;
      lent = rw (c.new-sizes.ensures, c.slot_sizes-list.ensures) (sound_lent a.heaps a.spans (cells a.tables.now) n);
      answer_cells_in_bounds = whole_fits a.bytes.now a.answers.now (sym c.whole_records.ensures ∙ c.if-not-whole_records.false);
    }

pub returns-clause-batched : goal.returns-clause-batched
unfolding most_spans
returns-clause-batched c =
    let a = c.args in
    let s = stated_by a.heaps a.spans (cells a.tables.now) _ c.slot_sizes-list.ensures c.new-sizes.ensures c.view-view.ensures c.as_stated.ensures in
    let n = by_view a.heaps a.spans (cells a.tables.now) _ c.slot_sizes-list.ensures c.new-sizes.ensures c.view-view.ensures c.in_ok-check.ensures in
    batch_passed a.heaps a.spans (cells a.tables.now) a.bytes.now a.answers.now (sym s ∙ c.if-not-as_stated.false) (sym c.whole_records.ensures ∙ c.if-not-whole_records.false) n _
    (rw (c.new-sizes.ensures, c.slot_sizes-list.ensures) at c.batch_sound.ensures.batched)

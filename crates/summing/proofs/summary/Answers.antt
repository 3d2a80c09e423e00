-- `summing::summary` meets its contract: each test is one of the definition's. Assumes nothing.
use mathlib.Core.Path.{sym, ◌∙◌}
use native.Mathlib.Omega.{arith}
use Rattle.size_classes.specs.SlotSizes.{most_classes}
use Rattle.tables.proofs.StatedLaws.{stated_passed}
use Rattle.calls.specs.Summary.{summary_cells}
use Rattle.summing.proofs.SummaryLaws.{summary_refused, summary_other_length, summary_unsound, summary_made, sound_countable}
use Rattle.summing.proofs.summary.Goals as goal

pub returns-then-not-as_stated : goal.returns-then-not-as_stated
returns-then-not-as_stated c = summary_refused _ _ _ _ c.as_stated.ensures c.if-not-as_stated.true

pub overflow_mul-classes : goal.overflow_mul-classes
unfolding most_classes
overflow_mul-classes c = rw c.classes.ensures.count (omega (arith, c.classes.ensures.admissible.few))

pub returns-then-out-classes : goal.returns-then-out-classes
unfolding summary_cells
returns-then-out-classes c =
    rw (← c.shape.view_is) (summary_other_length _ _ _ (rw c.classes.ensures.count at c.if-out-classes.true))

pub is_sound-requires : goal.is_sound-requires
is_sound-requires c =
    let stated = stated_passed _ _ (sym c.as_stated.ensures ∙ c.if-not-as_stated.false) in
    record { heaps_le_most_heaps = stated.shape.few_heaps; right_lengths = stated.lengths }

pub returns-then-not-is_sound : goal.returns-then-not-is_sound
unfolding summary_cells
returns-then-not-is_sound c =
    rw (← c.shape.view_is)
    (summary_unsound _ _ _ _ (rw (← c.shape.view_is) at c.as_stated.ensures) c.if-not-as_stated.false (rw c.classes.ensures.count at c.if-out-classes.false)
    _ (rw (← c.shape.view_is) at c.is_sound.ensures) c.if-not-is_sound.true)

pub class_records-requires : goal.class_records-requires
unfolding summary_cells
class_records-requires c =
    rw (← c.shape.view_is)
    (sound_countable _ _ _ _ _ (rw (← c.shape.view_is) at c.requires) (rw (← c.shape.view_is) at c.as_stated.ensures) c.if-not-as_stated.false
    (rw (← c.shape.view_is) at c.is_sound.ensures) c.if-not-is_sound.false (rw c.classes.ensures.count at c.if-out-classes.false))

pub returns : goal.returns
unfolding summary_cells
returns c =
    rw (← c.shape.view_is)
    (summary_made _ _ _ _ (rw (← c.shape.view_is) at c.as_stated.ensures) c.if-not-as_stated.false (rw c.classes.ensures.count at c.if-out-classes.false)
    _ (rw (← c.shape.view_is) at c.is_sound.ensures) c.if-not-is_sound.false (rw (← c.shape.view_is) at c.class_records.ensures))

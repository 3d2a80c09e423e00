-- `guard::check` meets its contract, by its two tests. Assumes nothing.
use mathlib.Core.Path.{sym, ◌∙◌}
use Rattle.tables.proofs.StatedLaws.{stated_passed}
use Rattle.guard.proofs.GuardLaws.{not_stated_lem, found_sound, found_unsound}
use Rattle.guard.proofs.check.Goals as goal

pub returns-then-not-as_stated : goal.returns-then-not-as_stated
returns-then-not-as_stated c = not_stated_lem _ _ (sym c.as_stated.ensures ∙ c.if-not-as_stated.true)

pub is_sound-requires : goal.is_sound-requires
is_sound-requires c =
    let o = stated_passed _ _ (sym c.as_stated.ensures ∙ c.if-not-as_stated.false) in
    record { heaps_le_most_heaps = o.shape.few_heaps; right_lengths = o.lengths }

pub returns-then-not-is_sound : goal.returns-then-not-is_sound
returns-then-not-is_sound c =
    found_unsound _ _ (sym c.as_stated.ensures ∙ c.if-not-as_stated.false) (sym c.is_sound.ensures ∙ c.if-not-is_sound.true)

pub returns : goal.returns
returns c = found_sound _ _ (sym c.as_stated.ensures ∙ c.if-not-as_stated.false) (sym c.is_sound.ensures ∙ c.if-not-is_sound.false)

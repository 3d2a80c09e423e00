-- `placing::place` meets its contract: its two tests in turn. Assumes nothing.
use mathlib.Core.Path.{sym, ◌∙◌}
use Rattle.placing.proofs.PlacingMade.{place_empty, place_full, place_partial}
use Rattle.placing.proofs.place.Goals as goal

pub returns-then-is_empty : goal.returns-then-is_empty
returns-then-is_empty c = λ b e u. place_empty _ _ _ _ (sym (c.is_empty.ensures b e c.args.heads.now u) ∙ c.if-is_empty.true) (c.release_empty.ensures b e u)

pub returns-then-is_full : goal.returns-then-is_full
returns-then-is_full c =
    λ b e u.
    place_full _ _ _ _ (sym (c.is_empty.ensures b e c.args.heads.now u) ∙ c.if-is_empty.false)
    (sym (c.is_full.ensures b e c.args.heads.now u) ∙ c.if-is_full.true) (c.push.ensures b e u)

pub returns : goal.returns
returns c =
    λ b e u.
    place_partial _ _ _ _ (sym (c.is_empty.ensures b e c.args.heads.now u) ∙ c.if-is_empty.false)
    (sym (c.is_full.ensures b e c.args.heads.now u) ∙ c.if-is_full.false) (c.push-2.ensures b e u)

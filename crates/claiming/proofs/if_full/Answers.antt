-- `claiming::if_full` meets its contract: a remove and a push, or nothing. Assumes nothing.
use mathlib.Core.Path.{sym, ◌∙◌}
use mathlib.Core.List.{[]}
use Rattle.placing.proofs.PlacingMade.{cells_here, removed_links}
use Rattle.claiming.proofs.ClaimingLaws.{if_full_made, if_full_not}
use Rattle.claiming.proofs.if_full.Goals as goal

pub is_full-requires : goal.is_full-requires
is_full-requires c = cells_here c.requires.1 c.requires.2

pub push-requires : goal.push-requires
push-requires c =
    let p = c.requires in
    (p.0, removed_links _ _ _ _ _ (c.remove.ensures [] [] 0) p.1 p.2, p.2)

pub returns-then-is_full : goal.returns-then-is_full
returns-then-is_full c =
    λ b e u.
    if_full_made _ _ _ _ _ (sym (c.is_full.ensures b e c.args.heads.now u) ∙ c.if-is_full.true) (c.remove.ensures b e u) (c.push.ensures b e u)

pub returns-else-is_full : goal.returns-else-is_full
returns-else-is_full c = λ b e u. if_full_not _ _ _ (sym (c.is_full.ensures b e c.args.heads.now u) ∙ c.if-is_full.false)

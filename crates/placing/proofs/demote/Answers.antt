-- `placing::demote` meets its contract: a push, or nothing. Assumes nothing.
use Rattle.placing.proofs.PlacingMade.{demote_none, demote_some}
use Rattle.placing.proofs.demote.Goals as goal

pub returns-then-link-ne0 : goal.returns-then-link-ne0
returns-then-link-ne0 c = λ b e u. demote_some _ _ _ _ c.if-link-ne0.true (c.push.ensures b e u)

pub returns-else-link-ne0 : goal.returns-else-link-ne0
returns-else-link-ne0 c = λ b e u. demote_none _ _ _ c.if-link-ne0.false

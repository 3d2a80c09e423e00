-- `replenishing::replenish` meets its contract: the walk over full spans, and what else can be had. Assumes nothing.
use mathlib.Core.Path.{sym, ◌∙◌}
use native.Mathlib.Omega.{arith}
use Rattle.linked_list.proofs.ReachLaws.{head_here}
use Rattle.placing.proofs.PlacingKept.{working_as, working_links}
use Rattle.replenishing.proofs.ReplenishingLaws.{reclaimed_working, replenish_none, replenish_made}
use Rattle.replenishing.proofs.replenish.Goals as goal

pub front-requires : goal.front-requires
front-requires c = head_here (working_links c.requires.1) (omega arith)

pub returns-then-front-ne0 : goal.returns-then-front-ne0
returns-then-front-ne0 c = λ e. replenish_none _ _ _ (λ z. c.if-front-ne0.true (c.front.ensures ∙ z))

pub reclaim-requires : goal.reclaim-requires
reclaim-requires c = (_, c.requires.0, c.requires.1)

pub supply-requires : goal.supply-requires
supply-requires c = let p = c.requires in (p.0, working_as (c.reclaim.ensures p.0 c.args.used.now) (reclaimed_working p.1))

pub returns : goal.returns
returns c =
    λ e. replenish_made _ _ _ _ _ (sym c.front.ensures ∙ c.if-front-ne0.false) (c.reclaim.ensures e c.args.used.now) (c.supply.ensures e)

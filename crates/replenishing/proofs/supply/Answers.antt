-- `replenishing::supply` meets its contract: its three tests in turn. Assumes nothing.
use mathlib.Core.Path.{sym, ◌∙◌}
use native.Mathlib.Omega.{arith}
use Rattle.tables.specs.Cells.{tables}
use Rattle.linked_list.proofs.ReachLaws.{head_here}
use Rattle.placing.proofs.PlacingKept.{working_links}
use Rattle.replenishing.proofs.ReplenishingLaws.{some_empty, supply_none, supply_empty, supply_new, supply_out}
use Rattle.replenishing.proofs.supply.Goals as goal

pub front-requires : goal.front-requires
front-requires c = head_here (working_links c.requires.1) (omega arith)

pub returns-then-front-ne0 : goal.returns-then-front-ne0
returns-then-front-ne0 c = λ e. supply_none _ _ _ (λ z. c.if-front-ne0.true (c.front.ensures ∙ z))

pub none_empty-requires : goal.none_empty-requires
none_empty-requires c = let r = working_links c.requires.1 in (head_here r (omega arith), head_here r (omega arith))

pub reactivate-requires : goal.reactivate-requires
reactivate-requires c =
    record {
      by_index = (_, working_links c.requires.1);
      nonzero = some_empty (tables c.args.bits.now c.args.spans.now c.requires.0 c.args.heads.now c.args.used.now) c.args.k (sym (c.none_empty.ensures c.args.bits.now c.args.spans.now c.requires.0 c.args.used.now) ∙ c.if-not-none_empty.true);
    }

pub returns-then-not-none_empty : goal.returns-then-not-none_empty
returns-then-not-none_empty c =
    λ e.
    supply_empty _ _ _ _ (sym c.front.ensures ∙ c.if-front-ne0.false)
    (sym (c.none_empty.ensures c.args.bits.now c.args.spans.now e c.args.used.now) ∙ c.if-not-none_empty.true)
    (c.reactivate.ensures c.args.bits.now e c.args.used.now)

pub create-requires : goal.create-requires
create-requires c = (_, c.requires.0, c.requires.1, c.if-used-limit.true)

pub returns-then-used-limit : goal.returns-then-used-limit
returns-then-used-limit c =
    λ e.
    supply_new _ _ _ _ (sym c.front.ensures ∙ c.if-front-ne0.false)
    (sym (c.none_empty.ensures c.args.bits.now c.args.spans.now e c.args.used.now) ∙ c.if-not-none_empty.false) c.if-used-limit.true
    (c.create.ensures e)

pub returns-else-used-limit : goal.returns-else-used-limit
returns-else-used-limit c =
    λ e.
    supply_out _ _ _ (sym c.front.ensures ∙ c.if-front-ne0.false)
    (sym (c.none_empty.ensures c.args.bits.now c.args.spans.now e c.args.used.now) ∙ c.if-not-none_empty.false) c.if-used-limit.false

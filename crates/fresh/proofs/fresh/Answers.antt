-- `fresh::fresh` meets its contract. Assumes nothing.
use Rattle.fresh.proofs.FreshLaws.{fresh_refused, fresh_made}
use Rattle.fresh.proofs.fresh.Goals as goal

pub returns-then-not-as_stated-clause-numbered : goal.returns-then-not-as_stated-clause-numbered
returns-then-not-as_stated-clause-numbered c = fresh_refused _ _ _ (rw c.view.ensures at c.as_stated.ensures) c.if-not-as_stated.true

pub returns-clause-numbered : goal.returns-clause-numbered
returns-clause-numbered c =
    fresh_made _ _ _ _ _ _ _ _ _ _ _ (rw c.view.ensures at c.as_stated.ensures) c.if-not-as_stated.false c.zero.ensures
    c.zero-2.ensures c.zero-3.ensures c.zero-4.ensures

-- `leaves::laggersten_leaf_claim` meets its contract. Assumes nothing.
use mathlib.Core.Path.{sym, ap, ◌∙◌}
use Rattle.leaves.specs.Numbers.{claim_numbers}
use Rattle.leaves.proofs.laggersten_leaf_claim.Goals as goal

pub returns-in-Nothing : goal.returns-in-Nothing
returns-in-Nothing c =
    record {
      answer = ap claim_numbers (sym c.in-Nothing.is ∙ c.claim-claimed.ensures.answer);
      cells = c.claim-claimed.ensures.cells;
    }

pub returns-in-Taken : goal.returns-in-Taken
returns-in-Taken c =
    record {
      answer = ap claim_numbers (sym c.in-Taken.is ∙ c.claim-claimed.ensures.answer);
      cells = c.claim-claimed.ensures.cells;
    }

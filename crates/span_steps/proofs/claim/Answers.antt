-- `span_steps::claim` meets its contract. Assumes nothing.
use mathlib.Core.Path.{ap, ◌∙◌}
use mathlib.Core.List.{[]}
use Rattle.occupancy.specs.declared.Occupancy.{Occupancy}
use Rattle.occupancy.specs.declared.Claim.{Claim}
use Rattle.occupancy.specs.Occupied.{claim}
use Rattle.tables.specs.Cells.{tables}
use Rattle.span.specs.Span.{stored}
use Rattle.span_steps.proofs.claim.Goals as goal

pub claim_up_to-c-requires : goal.claim_up_to-c-requires
claim_up_to-c-requires c = (c.requires.by_index.0, rw (c.load-o.ensures [] [] 0) c.requires.by_index.1)

pub returns : goal.returns
returns c =
    let e = c.claim_up_to-c.ensures ∙ ap (λ (o : Occupancy). claim o c.args.max c.args.random) (c.load-o.ensures [] [] 0) in
    record {
      answer = ap (λ (r : Claim). r.answer) e;
      cells = λ x h u.
          c.store.ensures x h u
          ∙ ap (λ (r : Claim). stored (tables c.args.bits.now c.args.spans.now x h u) c.args.s r.occupancy) e;
    }

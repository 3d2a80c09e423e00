-- `replenishing::create` meets its contract: a new span, and a push. Assumes nothing.
use mathlib.Core.Path.{refl, ap, ◌∙◌}
use native.Mathlib.Omega.{arith}
use Rattle.tables.specs.Cells.{Tables}
use Rattle.placing.proofs.PlacingKept.{working_as, working_links}
use Rattle.replenishing.proofs.ReplenishingLaws.{unused_cells, few_slots, new_used, new_working, create_made}
use Rattle.replenishing.proofs.create.Goals as goal

pub new_span-requires : goal.new_span-requires
new_span-requires c =
    record {
      span_cells = unused_cells c.requires.2 c.requires.3;
      slots_bound = few_slots c.requires.2 c.requires.3;
    }

pub push-requires : goal.push-requires
push-requires c =
    let p = c.requires in
    let q = c.new_span.ensures p.1 c.args.heads.now in
    let d = ap (λ (t : Tables). t.used) q ∙ new_used _ _ in
    (_, working_links (working_as q (new_working p.2 p.3)), omega (arith, d))

pub returns : goal.returns
returns c = λ e. create_made _ _ _ _ _ refl (c.new_span.ensures e c.args.heads.now) (c.push.ensures _ e _)

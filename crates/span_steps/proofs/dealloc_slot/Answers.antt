-- `span_steps::dealloc_slot` meets its contract. Assumes nothing.
use mathlib.Core.Path.{ap, ◌∙◌}
use mathlib.Core.List.{[]}
use native.Mathlib.Omega.{arith}
use Rattle.size_classes.specs.Slots.{most_slots}
use Rattle.occupancy.specs.declared.Occupancy.{Occupancy}
use Rattle.occupancy.specs.Occupied.{release_slot}
use Rattle.tables.specs.Cells.{tables}
use Rattle.span.specs.Span.{stored, dealloc_slot}
use Rattle.span_steps.proofs.dealloc_slot.Goals as goal

pub release_slot-next-requires : goal.release_slot-next-requires
unfolding most_slots
release_slot-next-requires c =
    let n = ap (λ (o : Occupancy). o.count) (c.load-o.ensures [] [] 0) in
    (c.requires.q_lt_most_slots.0, omega (arith, c.requires.q_lt_most_slots.1, n))

pub returns : goal.returns
unfolding dealloc_slot
returns c =
    λ e h u.
    c.store.ensures e h u
    ∙ ap (λ (o : Occupancy). stored (tables c.args.bits.now c.args.spans.now e h u) c.args.s o)
    (c.release_slot-next.ensures ∙ ap (λ (o : Occupancy). release_slot o c.args.q) (c.load-o.ensures e h u))

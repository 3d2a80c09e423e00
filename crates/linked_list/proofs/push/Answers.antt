-- `linked_list::push` meets its contract: its stores are those of the definition. Assumes nothing.
use native.Mathlib.Omega.{arith}
use Rattle.tables.proofs.PlaceLaws.{place_le}
use Rattle.linked_list.proofs.ReachLaws.{field_here, linked_here, few_spans_lem}
use Rattle.linked_list.proofs.NumberLaws.{number_place}
use Rattle.linked_list.proofs.StoreLaws.{push_made}
use Rattle.linked_list.proofs.push.Goals as goal

pub put_links-requires : goal.put_links-requires
put_links-requires c =
    let p = c.requires in
    record {
      previous_field_in_bounds = omega (arith, field_here p.1 {f = 3} p.2 (omega arith));
      next_field_in_bounds = omega (arith, field_here p.1 {f = 4} p.2 (omega arith));
    }

pub overflow_add-s : goal.overflow_add-s
overflow_add-s c =
    let p = c.requires in
    omega (arith, few_spans_lem p.1, p.2)

pub put_linked-requires : goal.put_linked-requires
put_linked-requires c =
    let p = c.requires in
    let front = rw (number_place c.args.list) at c.front-old.ensures in
    λ s h. omega (arith, linked_here p.1 {s = s} {f = 3} (p.1.fronts _ (place_le c.args.list)) (omega (arith, front)) (omega arith))

pub overflow_add-s-2 : goal.overflow_add-s-2
overflow_add-s-2 c =
    let p = c.requires in
    omega (arith, few_spans_lem p.1, p.2)

pub returns : goal.returns
returns c b e u =
    push_made b e _ _ _ _ _ u _ _ _ _
    (rw (number_place c.args.list) at c.front-old.ensures)
    c.put_links.ensures
    c.put_linked.ensures
    c.set_front.ensures

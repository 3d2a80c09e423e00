-- `linked_list::remove` meets its contract: its stores are those of the definition. Assumes nothing.
use native.Mathlib.Omega.{arith}
use Rattle.linked_list.proofs.ReachLaws.{field_here, linked_here}
use Rattle.linked_list.proofs.StoreLaws.{remove_made}
use Rattle.linked_list.proofs.remove.Goals as goal

pub field-previous-requires : goal.field-previous-requires
field-previous-requires c = let p = c.requires in field_here p.1 p.2 (omega arith)

pub field-next-requires : goal.field-next-requires
field-next-requires c = let p = c.requires in field_here p.1 p.2 (omega arith)

pub put_linked-requires : goal.put_linked-requires
put_linked-requires c =
    let p = c.requires in
    λ s h. linked_here p.1 (p.1.previous _ p.2) (omega (arith, c.field-previous.ensures)) (omega arith)

pub put_linked-requires-2 : goal.put_linked-requires-2
put_linked-requires-2 c =
    let p = c.requires in
    λ s h. omega (arith, linked_here p.1 {s = s} {f = 3} (p.1.next _ p.2) (omega (arith, c.field-next.ensures)) (omega arith))

pub put_links-requires : goal.put_links-requires
put_links-requires c =
    let p = c.requires in
    record {
      previous_field_in_bounds = omega (arith, field_here p.1 {f = 3} p.2 (omega arith));
      next_field_in_bounds = omega (arith, field_here p.1 {f = 4} p.2 (omega arith));
    }

pub returns : goal.returns
returns c b e u =
    remove_made b e _ _ _ _ _ _ u _ _ _ _ _
    c.field-previous.ensures
    c.field-next.ensures
    c.put_front.ensures
    c.put_linked.ensures
    c.put_linked-2.ensures
    c.put_links.ensures

-- `placing::reactivate` meets its contract: the reserve, or the front of the empty list. Assumes nothing.
use mathlib.Core.List.{[]}
use Prim.Native.Nat.{◌<◌}
use native.Mathlib.Omega.{arith}
use lib.ListN.{get_or}
use Rattle.tables.specs.Cells.{head_cell}
use Rattle.linked_list.proofs.LinksKept.{pop_links}
use Rattle.placing.proofs.PlacingMade.{links_as, reactivate_reserve, reactivate_empty}
use Rattle.placing.proofs.reactivate.Goals as goal

pub returns-then-kept-ne0 : goal.returns-then-kept-ne0
returns-then-kept-ne0 c = λ b e u. reactivate_reserve b _ e _ _ u _ _ _ c.front-kept.ensures c.if-kept-ne0.true c.put_head.ensures (c.push.ensures b e u)

pub push-requires-2 : goal.push-requires-2
push-requires-2 c =
    let p = c.requires in
    let some : 0 < get_or c.args.heads.now (head_cell c.args.k.row 2) 0 = omega (arith, p.nonzero, c.if-kept-ne0.false, c.front-kept.ensures) in (
      p.by_index.0,
      links_as (c.pop-s.ensures.by_index_2 [] [] 0) (pop_links _ _ 2 p.by_index.1 (p.by_index.1.fronts 2 (omega arith)) some),
      omega (arith, c.pop-s.ensures.value, some, p.by_index.1.fronts 2 (omega arith)),
    )

pub returns : goal.returns
returns c = λ b e u. reactivate_empty _ _ _ _ _ _ c.front-kept.ensures c.if-kept-ne0.false c.pop-s.ensures.value (c.pop-s.ensures.by_index_2 b e u) (c.push-2.ensures b e u)

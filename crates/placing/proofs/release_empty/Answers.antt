-- `placing::release_empty` meets its contract: the reserve read, stored and handed on. Assumes nothing.
use native.Mathlib.Omega.{arith}
use Rattle.linked_list.proofs.ReachLaws.{few_spans_lem}
use Rattle.placing.proofs.PlacingMade.{release_made}
use Rattle.placing.proofs.release_empty.Goals as goal

pub overflow_add-s : goal.overflow_add-s
overflow_add-s c = let p = c.requires in omega (arith, few_spans_lem p.1, p.2)

pub returns : goal.returns
returns c = λ b e u. release_made b _ e _ _ u _ _ _ _ c.front-old.ensures c.put_head.ensures (c.demote.ensures b e u)

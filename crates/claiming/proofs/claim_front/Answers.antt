-- `claiming::claim_front` meets its contract: the front folded, and one claim of it. Assumes nothing.
use native.Mathlib.Omega.{arith}
use Rattle.linked_list.proofs.ReachLaws.{head_here}
use Rattle.placing.proofs.PlacingKept.{working_links}
use Rattle.claiming.proofs.ClaimingLaws.{front_cells, front_foldable, fronted_fold, front_made}
use Rattle.claiming.proofs.claim_front.Goals as goal

pub front-s-requires : goal.front-s-requires
front-s-requires c = head_here (working_links c.requires.2.own.working) (omega arith)

pub overflow_sub-s : goal.overflow_sub-s
overflow_sub-s c = omega (arith, c.requires.2.some, c.front-s.ensures)

pub fold-requires : goal.fold-requires
fold-requires c = let x = c.requires.2 in
    record {
      span_cells = front_cells x _ c.front-s.ensures;
      by_index = front_foldable x _ c.front-s.ensures;
    }

pub claim_from-requires : goal.claim_from-requires
claim_from-requires c =
    let p = c.requires in
    (p.0, p.1, fronted_fold p.2 _ _ c.front-s.ensures (c.fold.ensures c.args.entries.now c.args.heads.now p.1))

pub returns : goal.returns
returns c =
    λ u.
    front_made _ _ _ _ _ _ c.front-s.ensures (c.fold.ensures c.args.entries.now c.args.heads.now u) (c.claim_from.ensures u)

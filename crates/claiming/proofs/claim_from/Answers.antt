-- `claiming::claim_from` meets its contract: a claim, and its answer taken apart. Assumes nothing.
use native.Mathlib.Omega.{arith}
use Rattle.placing.proofs.PlacingKept.{working_room}
use Rattle.reclaiming.proofs.ReclaimingLaws.{working_cells}
use Rattle.claiming.proofs.ClaimingLaws.{own_right, own_count, claimable_as, claim_made}
use Rattle.claiming.proofs.claim_from.Goals as goal

pub count-requires : goal.count-requires
count-requires c = (working_room c.requires.2.working).row

pub overflow_sub-max : goal.overflow_sub-max
overflow_sub-max c = omega (arith, own_count c.requires.2, c.count.ensures)

pub claim-answer-requires : goal.claim-answer-requires
claim-answer-requires c = let x = c.requires.2 in
    record {
      span_cells = working_cells x.working x.belongs.used;
      by_index = own_right x;
    }

pub take-requires : goal.take-requires
take-requires c =
    let p = c.requires in (
      p.0,
      c.claim-answer.new.bits,
      p.1,
      claimable_as p.2 _ _ _ _ c.count.ensures c.claim-answer.ensures.answer (c.claim-answer.ensures.cells c.args.entries.now c.args.heads.now p.1),
    )

pub returns : goal.returns
returns c =
    λ u.
    claim_made _ _ _ _ _ _ _ _ c.count.ensures c.claim-answer.ensures.answer (c.claim-answer.ensures.cells c.args.entries.now c.args.heads.now u)
    (c.take.ensures _ u)

-- `refilling::refill` meets its contract: what is left to refill falls by the claim. Assumes nothing.
use mathlib.Core.Path.{refl, sym, ◌∙◌}
use native.Mathlib.Omega.{arith}
use Rattle.linked_list.proofs.ReachLaws.{head_here}
use Rattle.tables.proofs.LentLaws.{lent_same}
use Rattle.placing.proofs.PlacingKept.{working_links, working_room}
use Rattle.refilling.proofs.RefillingLaws.{refill_full, refill_start, replenished_working, refill_ends, refill_fronted, refill_again, refill_done}
use Rattle.refilling.proofs.refill.Goals as goal

pub loop-i-init : goal.loop-i-init
loop-i-init c = let p = c.requires in
    record {
      lent = lent_same;
      refill = refill_start _ _ _ _ _ p.working p.fronts p.capacity_in_bounds (omega arith);
    }

pub count-requires : goal.count-requires
count-requires c = rw c.heads.ensures (working_room c.loop-i.invariant.refill.working).row

pub returns-then-count-k-clause-lent : goal.returns-then-count-k-clause-lent
returns-then-count-k-clause-lent c = c.loop-i.invariant.lent

pub returns-then-count-k-clause-refilled : goal.returns-then-count-k-clause-refilled
returns-then-count-k-clause-refilled c =
    let count = rw c.heads.ensures at c.count.ensures in
    sym (refill_full _ _ _ _ _ _ (omega (arith, c.if-count-k.true, count))) ∙ c.loop-i.invariant.refill.same

pub replenish-requires : goal.replenish-requires
replenish-requires c = (_, c.loop-i.invariant.refill.working)

pub front-requires : goal.front-requires
front-requires c =
    let r = c.loop-i.invariant.refill in
    let count = rw c.heads.ensures at c.count.ensures in
    rw c.heads-in-loop-i.ensures
    (head_here
    (working_links
    (replenished_working _ _ _ _ _ _ _ r (omega arith) (omega (arith, c.if-count-k.false, count)) _ (c.replenish.ensures _)))
    (omega arith))

pub returns-then-front-eq0-clause-refilled : goal.returns-then-front-eq0-clause-refilled
returns-then-front-eq0-clause-refilled c =
    let r = c.loop-i.invariant.refill in
    let count = rw c.heads.ensures at c.count.ensures in
    let front = rw c.heads-in-loop-i.ensures at c.front.ensures in
    refill_ends _ _ _ _ _ _ _ r (omega arith) (omega (arith, c.if-count-k.false, count)) _ (c.replenish.ensures _)
    (sym front ∙ c.if-front-eq0.true)

pub bounds-words-i : goal.bounds-words-i
bounds-words-i c = let r = c.loop-i.invariant.refill in omega (arith, r.long)

pub claim_front-requires : goal.claim_front-requires
claim_front-requires c =
    let r = c.loop-i.invariant.refill in
    let count = rw c.heads.ensures at c.count.ensures in
    let front = rw c.heads-in-loop-i.ensures at c.front.ensures in (
      _,
      _,
      refill_fronted _ _ _ _ _ _ _ r (omega arith) (omega (arith, c.if-count-k.false, count)) _ (c.replenish.ensures _)
          (λ z. c.if-front-eq0.false (front ∙ z)),
    )

pub loop-i-preserved : goal.loop-i-preserved
loop-i-preserved c =
    let l = c.loop-i.invariant in
    let count = rw c.heads.ensures at c.count.ensures in
    let front = rw c.heads-in-loop-i.ensures at c.front.ensures in
    record {
      lent = record { bits = l.lent.bits; spans = l.lent.spans; entries = l.lent.entries; heads = l.lent.heads; used = l.lent.used };
      refill = refill_again _ _ _ _ _ _ _ l.refill (omega arith) (omega (arith, c.if-count-k.false, count)) _
          (c.replenish.ensures _) (λ z. c.if-front-eq0.false (front ∙ z)) _ _ refl (c.claim_front.ensures _) _ (omega arith);
    }

pub returns-clause-lent : goal.returns-clause-lent
returns-clause-lent c = c.loop-i.invariant.lent

pub returns-clause-refilled : goal.returns-clause-refilled
returns-clause-refilled c = refill_done _ _ _ _ _ _ _ c.loop-i.invariant.refill (omega arith)

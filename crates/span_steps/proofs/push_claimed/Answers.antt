-- `span_steps::push_claimed` meets its contract: what is left to push falls by the entry pushed. Assumes nothing.
use mathlib.Core.Path.{◌≡◌, sym, ◌∙◌}
use native.Mathlib.Omega.{arith}
use Rattle.span.specs.Span.{claimed_entries}
use Rattle.span_steps.proofs.PushingLaws.{starts, passes, has_room, pushes, ends}
use Rattle.span_steps.proofs.push_claimed.Goals as goal
use Rattle.span_steps.proofs.push_claimed.Goals.{then-test_bit, else-test_bit}

pub loop-b-init : goal.loop-b-init
unfolding claimed_entries
loop-b-init c = starts _ _ _ _ _ c.requires.room (rw c.entry_of-first.ensures c.requires.mask_bound)

pub push-requires-clause-k_bound : goal.push-requires-clause-k_bound
push-requires-clause-k_bound c =
    has_room _ _ _ _ _ _ _ _ c.loop-b.invariant c.loop-b-test.true (sym c.test_bit.ensures ∙ c.if-test_bit.true)

pub loop-b-preserved : goal.loop-b-preserved
loop-b-preserved c =
    let at = c.loop-b in
    elim c.if-test_bit.branch [
      | then-test_bit w ↦
          pushes _ _ _ _ _ _ _ _ at.invariant c.loop-b-test.true (sym c.test_bit.ensures ∙ w.if-test_bit.true) _ _
          (λ x p u. rw (w.entries-is, w.heads-is) (w.push.ensures x p u))
      | else-test_bit w ↦
          rw (w.entries-is, w.heads-is) (passes _ _ _ _ _ _ _ _ at.invariant c.loop-b-test.true (sym c.test_bit.ensures ∙ w.if-test_bit.false))
    ]

pub returns : goal.returns
unfolding claimed_entries
returns c =
    let at = c.loop-b in
    let n : at.b ≡ 64 = omega arith in
    λ x p u. rw (← c.entry_of-first.ensures) (ends _ _ _ _ _ _ _ _ at.invariant n x p u)

-- `batching::record_at` meets its contract, test by test. Assumes nothing.
use mathlib.Core.Path.{sym, ◌∙◌}
use native.Mathlib.Omega.{arith}
use Rattle.calls.specs.Batch.{record_bytes}
use Rattle.batching.proofs.RecordLaws.{unmarked_record, allocation_record, release_record, other_record, unfree_record}
use Rattle.batching.proofs.record_at.Goals as goal
use Rattle.batching.proofs.record_at.Goals.{else-kind-eq-RELEASE-via-then-kind-eq-RELEASE+else-third-eq0, else-kind-eq-RELEASE-via-else-kind-eq-RELEASE}

pub returns-then-not-marked_at : goal.returns-then-not-marked_at
returns-then-not-marked_at c = unmarked_record _ _ (sym c.marked_at.ensures ∙ c.if-not-marked_at.true)

pub byte_at-kind-requires : goal.byte_at-kind-requires
unfolding record_bytes
byte_at-kind-requires c = omega (arith, c.requires)

pub byte_at-heap-requires : goal.byte_at-heap-requires
unfolding record_bytes
byte_at-heap-requires c = omega (arith, c.requires)

pub number_at-first-requires : goal.number_at-first-requires
unfolding record_bytes
number_at-first-requires c = omega (arith, c.requires)

pub number_at-second-requires : goal.number_at-second-requires
unfolding record_bytes
number_at-second-requires c = omega (arith, c.requires)

pub number_at-third-requires : goal.number_at-third-requires
unfolding record_bytes
number_at-third-requires c = omega (arith, c.requires)

pub returns-then-kind-eq-ALLOCATION : goal.returns-then-kind-eq-ALLOCATION
returns-then-kind-eq-ALLOCATION c =
    allocation_record _ _ _ _ _ _ _ (sym c.marked_at.ensures ∙ c.if-not-marked_at.false) c.byte_at-kind.ensures.0 c.byte_at-heap.ensures.0
    c.number_at-first.ensures c.number_at-second.ensures c.number_at-third.ensures c.if-kind-eq-ALLOCATION.true

pub returns-then-third-eq0 : goal.returns-then-third-eq0
returns-then-third-eq0 c =
    release_record _ _ _ _ _ _ _ (sym c.marked_at.ensures ∙ c.if-not-marked_at.false) c.byte_at-kind.ensures.0 c.byte_at-heap.ensures.0
    c.number_at-first.ensures c.number_at-second.ensures c.number_at-third.ensures c.if-kind-eq-ALLOCATION.false c.if-kind-eq-RELEASE.true c.if-third-eq0.true

pub returns : goal.returns
returns c =
    elim c.else-kind-eq-RELEASE.branch [
      | else-kind-eq-RELEASE-via-then-kind-eq-RELEASE+else-third-eq0 w ↦
          unfree_record _ _ _ _ _ _ _ (sym c.marked_at.ensures ∙ c.if-not-marked_at.false) c.byte_at-kind.ensures.0 c.byte_at-heap.ensures.0
          c.number_at-first.ensures c.number_at-second.ensures c.number_at-third.ensures c.if-kind-eq-ALLOCATION.false w.if-kind-eq-RELEASE.true w.if-third-eq0.false
      | else-kind-eq-RELEASE-via-else-kind-eq-RELEASE w ↦
          other_record _ _ _ _ _ _ _ (sym c.marked_at.ensures ∙ c.if-not-marked_at.false) c.byte_at-kind.ensures.0 c.byte_at-heap.ensures.0
          c.number_at-first.ensures c.number_at-second.ensures c.number_at-third.ensures c.if-kind-eq-ALLOCATION.false w.if-kind-eq-RELEASE.false
    ]

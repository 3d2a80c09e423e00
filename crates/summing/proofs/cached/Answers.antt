-- `summing::cached` meets its contract: the counts of the heaps passed are added. Assumes nothing.
use native.Mathlib.Omega.{arith}
use Rattle.magazine_layout.specs.Layout.{most_capacity}
use Rattle.tables.specs.Shape.{most_heaps}
use Rattle.summing.proofs.TallyLaws.{cached_none, cached_more, row_there, row_below, row_most}
use Rattle.summing.proofs.cached.Goals as goal

pub loop-h-init : goal.loop-h-init
loop-h-init c = record { most = omega arith; is = cached_none _ _ _ }

pub overflow_mul-h : goal.overflow_mul-h
overflow_mul-h c =
    let counts = rw (← c.shape.view_is, ← c.view.view_is) at c.requires.heads_count in
    let below = rw (← c.shape.view_is) at c.requires.c_lt_classes in
    rw c.classes-classes.ensures.count (omega (arith, row_below counts c.loop-h-test.true below))

pub overflow_add-h : goal.overflow_add-h
overflow_add-h c =
    let counts = rw (← c.shape.view_is, ← c.view.view_is) at c.requires.heads_count in
    let below = rw (← c.shape.view_is) at c.requires.c_lt_classes in
    rw c.classes-classes.ensures.count (omega (arith, row_below counts c.loop-h-test.true below))

pub head-total-requires : goal.head-total-requires
head-total-requires c =
    let counts = rw (← c.shape.view_is, ← c.view.view_is) at c.requires.heads_count in
    let below = rw (← c.shape.view_is) at c.requires.c_lt_classes in
    rw c.classes-classes.ensures.count (row_there counts c.loop-h-test.true below)

pub overflow_add-total : goal.overflow_add-total
unfolding most_capacity most_heaps
overflow_add-total c =
    let counts = rw (← c.shape.view_is, ← c.view.view_is) at c.requires.heads_count in
    let below = rw (← c.shape.view_is) at c.requires.c_lt_classes in
    let counted = rw c.classes-classes.ensures.count at c.head-total.ensures in
    omega (arith, counted, row_most counts c.loop-h-test.true below, c.loop-h.invariant.most, c.loop-h-test.true, counts.few)

pub loop-h-preserved : goal.loop-h-preserved
unfolding most_capacity
loop-h-preserved c =
    let counts = rw (← c.shape.view_is, ← c.view.view_is) at c.requires.heads_count in
    let below = rw (← c.shape.view_is) at c.requires.c_lt_classes in
    let counted = rw c.classes-classes.ensures.count at c.head-total.ensures in
    let passed = rw (← c.shape.view_is, ← c.view.view_is) at c.loop-h.invariant in
    rw (← c.shape.view_is, ← c.view.view_is)
    (record {
      most = omega (arith, counted, row_most counts c.loop-h-test.true below, passed.most);
      is = cached_more _ _ _ _ passed.is counted;
    })

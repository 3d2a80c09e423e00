-- `spantrace::Trace::span_line` meets its contract: every cell it reads is within its table. Assumes nothing.
use Rattle.std.proofs.Common.{arith, ◌∙◌}
use Rattle.spantrace.proofs.TraceLaws.{sizes_admissible, heap_named, class_named, home_here, head_here}
use Rattle.spantrace.proofs.Trace.span_line.Goals as goal

pub new-sizes-requires : goal.new-sizes-requires
new-sizes-requires c = sizes_admissible c.slot_sizes-list.ensures

pub class_heap-k-requires : goal.class_heap-k-requires
class_heap-k-requires c =
    let e = c.new-sizes.ensures ∙ c.slot_sizes-list.ensures in
    (heap_named (omega (arith, c.if-owner-ge-HEAPS.false)), class_named _ e (omega (arith, c.if-class-ge-CLASSES.false)))

pub head-count-requires : goal.head-count-requires
head-count-requires c =
    let e = c.new-sizes.ensures ∙ c.slot_sizes-list.ensures in
    head_here (home_here _ _ _ _ e c.class_heap-k.ensures (omega (arith, c.if-owner-ge-HEAPS.false)) (omega (arith, c.if-class-ge-CLASSES.false))) (omega arith) (omega arith)

pub front-kept-requires : goal.front-kept-requires
front-kept-requires c =
    let e = c.new-sizes.ensures ∙ c.slot_sizes-list.ensures in
    head_here (home_here _ _ _ _ e c.class_heap-k.ensures (omega (arith, c.if-owner-ge-HEAPS.false)) (omega (arith, c.if-class-ge-CLASSES.false))) (omega arith) (omega arith)

pub cached-requires : goal.cached-requires
cached-requires c =
    let e = c.new-sizes.ensures ∙ c.slot_sizes-list.ensures in
    omega (arith, (home_here _ _ _ _ e c.class_heap-k.ensures (omega (arith, c.if-owner-ge-HEAPS.false)) (omega (arith, c.if-class-ge-CLASSES.false))).magazine, c.if-count-k.false)

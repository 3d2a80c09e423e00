-- `sound_calls::free_sound` meets its contract, by its tests. Assumes nothing.
use mathlib.Core.Path.{sym}
use native.Mathlib.Omega.{arith}
use Rattle.tables.specs.Shape.{shape}
use Rattle.tables.specs.Lent.{cells}
use Rattle.span.proofs.CellsThere.{field_there}
use Rattle.sound_calls.proofs.LentLaws.{lent_cells, lent_heaps, lent_owner, lent_class, home_slot, lent_block}
use Rattle.sound_calls.proofs.FreeTests.{home_here, no_heap_lem, not_used, no_slot, at_slot}
use Rattle.sound_calls.proofs.free_sound.Goals as goal

pub returns-then-heap-shape-clause-ended : goal.returns-then-heap-shape-clause-ended
returns-then-heap-shape-clause-ended c = rw (← c.shape.view_is) (no_heap_lem _ _ _ _ _ c.if-heap-shape.true)

pub returns-then-span-tables-clause-ended : goal.returns-then-span-tables-clause-ended
returns-then-span-tables-clause-ended c =
    rw (← c.shape.view_is) (not_used _ _ _ _ _ (omega (arith, c.if-heap-shape.false)) c.if-span-tables.true)

pub field-owner-requires : goal.field-owner-requires
field-owner-requires c =
    rw c.spans.ensures (field_there _ _ (lent_cells c.requires (omega (arith, c.if-span-tables.false))).fields _ (omega arith))

pub field-class-requires : goal.field-class-requires
field-class-requires c =
    rw c.spans-2.ensures (field_there _ _ (lent_cells c.requires (omega (arith, c.if-span-tables.false))).fields _ (omega arith))

pub class_heap-k-requires : goal.class_heap-k-requires
class_heap-k-requires c =
    let x = rw (← c.shape.view_is) at c.requires in
    let l = c.if-span-tables.false in
    let owner = rw c.spans.ensures at c.field-owner.ensures in
    let class = rw c.spans-2.ensures at c.field-class.ensures in
    (rw owner (lent_heaps x (lent_owner x (omega (arith, l)))), rw class (lent_class x (omega (arith, l))))

pub slot_at-requires : goal.slot_at-requires
slot_at-requires c =
    let g = c.shape.inside in
    let x = rw (← c.shape.view_is) at c.requires in
    let owner = rw c.spans.ensures at c.field-owner.ensures in
    let class = rw c.spans-2.ensures at c.field-class.ensures in
    home_slot x (omega (arith, c.if-span-tables.false))
    (home_here (shape g.sizes.now g.most g.heaps g.spans) (cells c.args.tables.now) c.args.span (c.class_heap-k.ensures g.most g.heaps g.spans) owner class)

pub returns-in-None-clause-ended : goal.returns-in-None-clause-ended
returns-in-None-clause-ended c =
    let g = c.shape.inside in
    let owner = rw c.spans.ensures at c.field-owner.ensures in
    let class = rw c.spans-2.ensures at c.field-class.ensures in
    rw (← c.shape.view_is)
    (no_slot _ _ _ _ _ (omega (arith, c.if-heap-shape.false)) (omega (arith, c.if-span-tables.false)) _
    (home_here (shape g.sizes.now g.most g.heaps g.spans) (cells c.args.tables.now) c.args.span (c.class_heap-k.ensures g.most g.heaps g.spans) owner class)
    (sym c.in-None.ensures))

pub free_block-requires : goal.free_block-requires
free_block-requires c =
    let g = c.shape.inside in
    let x = rw (← c.shape.view_is) at c.requires in
    let owner = rw c.spans.ensures at c.field-owner.ensures in
    let class = rw c.spans-2.ensures at c.field-class.ensures in
    let k = home_here (shape g.sizes.now g.most g.heaps g.spans) (cells c.args.tables.now) c.args.span (c.class_heap-k.ensures g.most g.heaps g.spans) owner class in
    (_, lent_block x (omega (arith, c.if-span-tables.false)) k _ _ (sym c.in-Some.ensures))

pub returns-in-Some-clause-ended : goal.returns-in-Some-clause-ended
returns-in-Some-clause-ended c =
    let g = c.shape.inside in
    let owner = rw c.spans.ensures at c.field-owner.ensures in
    let class = rw c.spans-2.ensures at c.field-class.ensures in
    rw (← c.shape.view_is)
    (at_slot _ _ _ _ _ (omega (arith, c.if-heap-shape.false)) (omega (arith, c.if-span-tables.false)) _
    (home_here (shape g.sizes.now g.most g.heaps g.spans) (cells c.args.tables.now) c.args.span (c.class_heap-k.ensures g.most g.heaps g.spans) owner class)
    _ _ (sym c.in-Some.ensures) c.free_block.ensures.ended)

-- `heap::draw` meets its contract: no block from an empty magazine, else the entry drawn. Assumes nothing.
use mathlib.Core.Path.{refl, sym, ◌∙◌}
use native.Mathlib.Omega.{arith}
use Rattle.heap.proofs.HeapLaws.{offset_small, draw_empty, draw_some}
use Rattle.heap.proofs.draw.Goals as goal

pub returns-then-count-eq0-clause-ended : goal.returns-then-count-eq0-clause-ended
returns-then-count-eq0-clause-ended c = let count = rw c.heads.ensures at c.count.ensures in draw_empty _ _ _ _ (sym count ∙ c.if-count-eq0.true)

pub overflow_mul-offset : goal.overflow_mul-offset
overflow_mul-offset c = omega (arith, offset_small _ _ _ c.entry_slot.ensures c.requires.slot_le_largest_slot)

pub returns-clause-ended : goal.returns-clause-ended
returns-clause-ended c =
    let t = c.args.tables.now in
    let counted = rw c.heads.ensures at c.count.ensures in
    let drawn = c.draw-e.ensures in
    let slot = c.entry_slot.ensures in
    draw_some _ _ _ _ _ _ _ _ _ (λ z. c.if-count-eq0.false (counted ∙ z)) refl (drawn.by_index t.bits.now t.spans.now t.used.now)
    (drawn.by_index_2 t.bits.now t.spans.now t.used.now) c.entry_span.ensures (rw slot refl)

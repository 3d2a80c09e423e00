-- What an allocation of a class heap does to the blocks that are out: it is refused and changes none, or takes out one of that class and heap.
-- Assumes nothing.
use Rattle.std.specs.Prelude.{◌≡◌, ℕ}
use Rattle.size_classes.specs.Slots.{slot_offset}
use Rattle.tables.specs.declared.ClassHeap.{ClassHeap}
use Rattle.tables.specs.Shape.{Shape}
use Rattle.tables.specs.Cells.{Tables}
use Rattle.sound.specs.Sound.{Belongs}
use Rattle.calls.specs.Outcome.{Outcome}
use Rattle.outs.specs.Outs.{SameOuts, ComesOut}

-- refused with 6, and the same blocks are out
pub record Dry (g : Shape) (t : Tables) (r : Outcome) : Type 0 where
  pub number : r.answer.number ≡ 6
  pub same : SameOuts g t r.table

-- answered with a block, of a span of that class and heap, that came out
pub record Allocated (g : Shape) (t : Tables) (k : ClassHeap) (r : Outcome) : Type 0 where
  pub slot : ℕ
  pub number : r.answer.number ≡ 0
  pub offset : r.answer.offset ≡ slot_offset k.slot slot
  pub belongs : Belongs r.table k r.answer.span
  pub comes : ComesOut g t r.table r.answer.span slot

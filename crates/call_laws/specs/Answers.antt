-- What the answers of the single calls say of the blocks: a refusal, the block that an allocation gives, the block that a free names. Assumes nothing.
use Rattle.std.specs.Prelude.{◌≡◌, true, List, ℕ, ◌+◌, ◌/◌, ◌<◌, ◌≤◌}
use Rattle.size_classes.specs.SlotSizes.{slot_size}
use Rattle.size_classes.specs.Class.{smallest_class}
use Rattle.size_classes.proofs.ClassTheorems.{Smallest}
use Rattle.size_classes.proofs.SlotTheorems.{Starts}
use Rattle.tables.specs.Shape.{Shape, class_heap}
use Rattle.tables.specs.Cells.{Tables}
use Rattle.span.specs.declared.BlockState.TheVariants.{Out}
use Rattle.span.specs.State.{state_of}
use Rattle.sound.specs.Sound.{Belongs}
use Rattle.calls.specs.Outcome.{Outcome, refused}
use Rattle.calls.specs.Heap.{refill_first}
use Rattle.calls.specs.Calls.{words_needed, slot_size_at, names_slot}
use Rattle.outs.specs.Outs.{ComesOut, GoesBack}

-- "A refusal answers its number, span 0, offset 0, words used 0, and changes no cell."
pub record Refusal (t : Tables) (o : Outcome) : Type 0 where
  pub some : 0 < o.answer.number
  pub is : o ≡ refused o.answer.number t

-- what an accepted allocation gives
pub record Given (g : Shape) (t : Tables) (heap size alignment : ℕ) (words : List ℕ) (o : Outcome) : Type 0 where
  pub number : o.answer.number ≡ 0
  pub slot : ℕ
  -- "The class is the smallest whose slot is at least the size and a multiple of that alignment."
  pub smallest : Smallest g.sizes size alignment (smallest_class g.sizes size alignment)
  -- the block answered is of a used span of that heap and class, and starts a slot of it,
  pub belongs : Belongs o.table (class_heap g heap (smallest_class g.sizes size alignment)) o.answer.span
  pub starts : Starts (slot_size g.sizes (smallest_class g.sizes size alignment)) o.answer.offset slot
  -- was not out and is, and every other block is out exactly if it was
  pub comes : ComesOut g t o.table o.answer.span slot
  -- "Each claim uses one word, in order, and the draw uses the next."
  pub used : o.answer.words ≡ (refill_first g.spans t (class_heap g heap (smallest_class g.sizes size alignment)) words).words + 1
  pub few : o.answer.words ≤ words_needed

-- span s is used, a slot of it starts at the offset, and its block is out
pub record NamesOut (g : Shape) (t : Tables) (s offset : ℕ) : Type 0 where
  pub names : names_slot g t s offset ≡ true
  pub out : state_of g t s (offset / slot_size_at g t s) ≡ Out

-- what an accepted free does
pub record Returned (g : Shape) (t : Tables) (s start : ℕ) (o : Outcome) : Type 0 where
  pub number : o.answer.number ≡ 0
  -- "An accepted free answers its own span and offset, words used 0."
  pub span : o.answer.span ≡ s
  pub offset : o.answer.offset ≡ start
  pub used : o.answer.words ≡ 0
  -- the block named was out and is not, and every other block is out exactly if it was
  pub named : NamesOut g t s start
  pub goes : GoesBack g t o.table s (start / slot_size_at g t s)

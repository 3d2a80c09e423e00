-- The single calls, with every refusal in 01's order ("What comes back"). Assumes nothing.
use Rattle.std.specs.Prelude.{Bool, ◌&&◌, cond, List, ℕ, ◌/◌, length, leb, ltb}
use Rattle.size_classes.specs.SlotSizes.{slot_size}
use Rattle.size_classes.specs.Class.{in_range, smallest_class}
use Rattle.size_classes.specs.Slots.{starts_slot}
use Rattle.tables.specs.Shape.{Shape, class_heap}
use Rattle.tables.specs.Cells.{Tables, as_stated, class_at, owner_at}
use Rattle.span.specs.State.{is_out}
use Rattle.sound.specs.Decided.{is_sound}
use Rattle.calls.specs.Outcome.{Outcome, outcome, refused}
use Rattle.calls.specs.Heap.{alloc_small}
use Rattle.calls.specs.Primary.{dealloc_small}

-- 1, "first", then 2, "the table is unsound", then what a sound table answers
unfoldable pub guarded : Shape → Tables → Outcome → Outcome
guarded g t on_sound = cond (as_stated g t) (cond (is_sound g t) on_sound (refused 2 t)) (refused 1 t)

-- "allocation with fewer than 65 words lent"
unfoldable pub words_needed : ℕ
words_needed = 65

-- an allocation on a sound table: 3 "no such heap", 4, 5 "size, or raised alignment, above 131072", and last 6 or a block
unfoldable pub allocate_sound : Shape → Tables → ℕ → ℕ → ℕ → List ℕ → Outcome
allocate_sound g t heap size alignment words =
    cond (ltb heap g.heaps)
    (cond (leb words_needed (length words))
    (cond (in_range g.sizes size alignment)
    (alloc_small g.spans t (class_heap g heap (smallest_class g.sizes size alignment)) words)
    (refused 5 t))
    (refused 4 t))
    (refused 3 t)

unfoldable pub allocate : Shape → Tables → ℕ → ℕ → ℕ → List ℕ → Outcome
allocate g t heap size alignment words = guarded g t (allocate_sound g t heap size alignment words)

-- the slot size of span s
abbrev pub slot_size_at : Shape → Tables → ℕ → ℕ
slot_size_at g t s = slot_size g.sizes (class_at t s)

-- not refused with 7: "span not in use, or offset not the start of a slot"
unfoldable pub names_slot : Shape → Tables → ℕ → ℕ → Bool
names_slot g t s offset = ltb s t.used && starts_slot (slot_size_at g t s) offset

-- "An accepted free answers its own span and offset, words used 0."
unfoldable pub freed : Shape → Tables → ℕ → ℕ → ℕ → Outcome
freed g t heap s offset =
    outcome 0 s offset 0 (dealloc_small t (class_heap g (owner_at t s) (class_at t s)) heap s (offset / slot_size_at g t s))

-- a free on a sound table: 3 "no such heap", 7, and last 8 "the block is not out" or done
unfoldable pub free_sound : Shape → Tables → ℕ → ℕ → ℕ → Outcome
free_sound g t heap s offset =
    cond (ltb heap g.heaps)
    (cond (names_slot g t s offset)
    (cond (is_out g t s (offset / slot_size_at g t s)) (freed g t heap s offset) (refused 8 t))
    (refused 7 t))
    (refused 3 t)

unfoldable pub free : Shape → Tables → ℕ → ℕ → ℕ → Outcome
free g t heap s offset = guarded g t (free_sound g t heap s offset)

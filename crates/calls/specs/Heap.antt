-- Allocate and free in one class of one heap, on a sound table. Assumes nothing.
use Rattle.std.specs.Prelude.{cond, List, ℕ, ◌+◌, get_or, eqb}
use Rattle.size_classes.specs.Slots.{slot_offset}
use Rattle.tables.specs.declared.ClassHeap.{ClassHeap}
use Rattle.tables.specs.Cells.{Tables, count_at, entry_at, entry_of, entry_span, entry_slot}
use Rattle.magazine.specs.Magazine.{needs_refill, is_full, push_entry, drawn_at, draw_entry}
use Rattle.class_heap.specs.Steps.{Refilled, refilled, refill, flush}
use Rattle.calls.specs.Outcome.{Outcome, outcome, refused}

-- the entry that a word draws: "a slot's offset in it its number times slot size"
unfoldable pub granted : Tables → ClassHeap → ℕ → ℕ → Outcome
granted t k word words =
    outcome 0 (entry_span (entry_at t k (drawn_at t k word))) (slot_offset k.slot (entry_slot (entry_at t k (drawn_at t k word)))) words
    (draw_entry t k word)

-- the draw after i words: "Each claim uses one word, in order, and the draw uses the next."; an empty magazine gives 6
unfoldable pub draw : Refilled → ClassHeap → List ℕ → Outcome
draw r k ws =
    cond (eqb (count_at r.table k) 0) (refused 6 r.table) (granted r.table k (get_or ws r.words 0) (r.words + 1))

-- "refill first if the count is at or below low water"
unfoldable pub refill_first : ℕ → Tables → ClassHeap → List ℕ → Refilled
refill_first limit t k ws = cond (needs_refill t k) (refill k.capacity limit t k ws 0) (refilled t 0)

-- "Allocate: refill first ..; then draw."
unfoldable pub alloc_small : ℕ → Tables → ClassHeap → List ℕ → Outcome
alloc_small limit t k ws = draw (refill_first limit t k ws) k ws

-- "If it is full, first pop from the top down to low water"
unfoldable pub flush_first : Tables → ClassHeap → Tables
flush_first t k = cond (is_full t k) (flush k.capacity t k) t

-- "Free by the owner: push on the magazine. If it is full, first .."
unfoldable pub dealloc_local : Tables → ClassHeap → ℕ → ℕ → Tables
dealloc_local t k s q = push_entry (flush_first t k) k (entry_of s q)

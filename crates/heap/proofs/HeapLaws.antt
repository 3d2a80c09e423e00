-- What an allocation and a free by the owner need of the steps before them. Assumes nothing.
use mathlib.Core.Path.{◌≡◌, ap, ◌∙◌}
use mathlib.Core.Bool.{true, false}
use mathlib.Core.List.{List}
use Prim.Native.Nat.{ℕ, suc, ◌+◌, ◌*◌, ◌%◌, ◌^◌, ◌<◌, ◌≤◌}
use native.Mathlib.Nat.{mod-lt, mul-le-mul_left, mul-le-mul_right}
use native.Mathlib.Omega.{arith}
use borrow.Author.Tests.{eq-eqb, ne_eqb, eqb-true, eqb-false}
use lib.ListN.{get_or}
use Rattle.laws.proofs.CondLaws.{cond_both}
use Rattle.magazine_layout.specs.Layout.{most_capacity}
use Rattle.tables.specs.declared.ClassHeap.{ClassHeap}
use Rattle.size_classes.specs.SlotSizes.{Admissible, largest_slot}
use Rattle.size_classes.proofs.SlotSizeLaws.{size_largest}
use Rattle.tables.specs.Shape.{Shape, classes, class_heap}
use Rattle.size_classes.specs.Slots.{most_slots}
use Rattle.tables.specs.Cells.{Tables, count_at, entry_at, entry_of, entry_span, entry_slot}
use Rattle.magazine.specs.Room.{Room}
use Rattle.magazine.specs.Magazine.{needs_refill, is_full, push_entry, drawn_at, draw_entry}
use Rattle.class_heap.specs.Steps.{Refilled, refilled, refill, flush}
use Rattle.filled_magazines.proofs.FilledFacts.{slots_within, capacity_within, low_under, capacity_some}
use Rattle.calls.specs.Outcome.{Outcome, outcome, refused}
use Rattle.calls.specs.Heap.{granted, refill_first, draw, alloc_small, flush_first, dealloc_local}
use Rattle.placing.specs.Working.{Working}
use Rattle.placing.proofs.PlacingKept.{working_room}
use Rattle.refilling.specs.Fronts.{Fronts}
use Rattle.refilling.proofs.RefillingLaws.{refill_working, refill_words}
use Rattle.flushing.proofs.FlushingLaws.{flush_working, flush_makes_room}

-- ---- the refill before a draw

module _ {limit : ℕ} {k : ClassHeap} {t : Tables} (ws : List ℕ) (w : Working limit k t) where
  -- It keeps a working table working.
  pub first_working : Fronts k.capacity limit t k ws 0 → Working limit k (refill_first limit t k ws).table
  unfolding refill_first
  first_working f =
      cond_both (λ (r : Refilled). Working limit k r.table) (needs_refill t k) _ _ (λ e. refill_working k.capacity w ws 0 f) (λ e. w)

-- It uses no more words than the magazine holds entries.
pub first_words : (limit : ℕ) (t : Tables) (k : ClassHeap) (ws : List ℕ) → (refill_first limit t k ws).words ≤ k.capacity
unfolding refill_first
first_words limit t k ws =
    cond_both (λ (r : Refilled). r.words ≤ k.capacity) (needs_refill t k) _ _ (λ e. omega (arith, refill_words k.capacity limit t k ws 0)) (λ e. omega arith)

-- by its test
module _ (limit : ℕ) (t t' : Tables) (k : ClassHeap) (ws : List ℕ) (r : ℕ) where
  pub first_made : needs_refill t k ≡ true → refilled t' r ≡ refill k.capacity limit t k ws 0 → refilled t' r ≡ refill_first limit t k ws
  unfolding refill_first
  first_made h e = rw h e

pub first_not : (limit : ℕ) (t : Tables) (k : ClassHeap) (ws : List ℕ) → needs_refill t k ≡ false → refilled t 0 ≡ refill_first limit t k ws
unfolding refill_first
first_not limit t k ws h = rw h

-- ---- the draw

-- The offset of a slot is a number of 64 bits.
pub offset_small : (slot e q : ℕ) → q ≡ entry_slot e → slot ≤ largest_slot → q * slot < 2 ^ 64
unfolding entry_slot largest_slot most_slots
offset_small slot e q d h = rw d (omega (arith, mod-lt e {m = 4096} (omega arith), mul-le-mul_left (e % 4096) h))

module _ (t : Tables) (k : ClassHeap) (ws : List ℕ) (i : ℕ) where
  pub draw_empty : count_at t k ≡ 0 → refused 6 t ≡ draw (refilled t i) k ws
  unfolding draw
  draw_empty e = rw (eq-eqb (count_at t k) 0 e)

  pub draw_some :
      (t' : Tables) (word e s o : ℕ) → (count_at t k ≡ 0 → ⊥) → word ≡ get_or ws i 0 → e ≡ entry_at t k (drawn_at t k word) → t' ≡ draw_entry t k word →
      s ≡ entry_span e → o ≡ entry_slot e * k.slot → outcome 0 s o (i + 1) t' ≡ draw (refilled t i) k ws
  unfolding draw granted
  draw_some t' word e s o n x y z a b = rw (ne_eqb (count_at t k) 0 n, a, b, y, z, x)

-- ---- an allocation

module _ {limit : ℕ} {k : ClassHeap} {t t' : Tables} {r : ℕ} (ws : List ℕ) (w : Working limit k t) (e : refilled t' r ≡ refill_first limit t k ws) where
  -- The refilled table and the words used.
  first_table : t' ≡ (refill_first limit t k ws).table
  first_table = ap (λ (x : Refilled). x.table) e

  pub first_used : r ≤ k.capacity
  first_used = rw (ap (λ (x : Refilled). x.words) e) (first_words limit t k ws)

  -- The magazine has its cells still.
  pub first_room_lem : Fronts k.capacity limit t k ws 0 → Room t'.entries t'.heads k
  first_room_lem f = let v : Working limit k t' = rw first_table (first_working ws w f) in working_room v

  pub alloc_made : (o : Outcome) → o ≡ draw (refilled t' r) k ws → o ≡ alloc_small limit t k ws
  unfolding alloc_small
  alloc_made o q = q ∙ ap (λ (x : Refilled). draw x k ws) e

class_slot : (g : Shape) (h c : ℕ) → Admissible g.sizes → c < classes g → (class_heap g h c).slot ≤ largest_slot
unfolding class_heap
class_slot g h c a l = size_largest g.sizes a c l

-- A slot of a class is no larger than the largest, and a magazine holds no more than the most.
module _ {limit : ℕ} {k : ClassHeap} {t : Tables} (w : Working limit k t) where
  pub working_slot : k.slot ≤ largest_slot
  working_slot = rw w.named (class_slot w.shape w.heap w.class w.filled.sizes w.in_classes)

  pub working_capacity : k.capacity ≤ most_capacity
  working_capacity = rw w.named (capacity_within w.shape w.heap w.class)

-- ---- the flush before a push

-- by its test
module _ (t t' : Tables) (k : ClassHeap) where
  pub flush_made : is_full t k ≡ true → t' ≡ flush k.capacity t k → t' ≡ flush_first t k
  unfolding flush_first
  flush_made h e = rw h e

pub flush_not : (t : Tables) (k : ClassHeap) → is_full t k ≡ false → t ≡ flush_first t k
unfolding flush_first
flush_not t k h = rw h

module _ {n : ℕ} {k : ClassHeap} {t : Tables} (w : Working n k t) where
  -- It keeps a working table working,
  pub flushed_working : Working n k (flush_first t k)
  unfolding flush_first
  flushed_working = cond_both (Working n k) (is_full t k) _ _ (λ e. flush_working k.capacity w) (λ e. w)

  -- and makes room for an entry.
  pub flushed_room : count_at (flush_first t k) k < k.capacity
  unfolding flush_first
  flushed_room =
      cond_both (λ u. count_at u k < k.capacity) (is_full t k) _ _
      (λ e.
      let z : count_at t k ≡ k.capacity = eqb-true (count_at t k) k.capacity e in
      omega (arith, z, flush_makes_room k.capacity some w (rw z low)))
      (λ e. omega (arith, (working_room w).held, eqb-false (count_at t k) k.capacity e))
    where
      some : 0 < k.capacity
      some = rw w.named (capacity_some w.shape w.heap w.class)

      low : k.low < k.capacity
      low = rw w.named (low_under w.shape w.heap w.class)

-- The same of a table that equals the flushed one.
module _ {n : ℕ} {k : ClassHeap} {t u : Tables} (w : Working n k t) (e : u ≡ flush_first t k) where
  pub flushed_here : Room u.entries u.heads k
  flushed_here = rw e (working_room (flushed_working w))

  pub flushed_room_here : count_at u k < k.capacity
  flushed_room_here = rw e (flushed_room w)

-- A block's slot is one that a span can have, and its entry is a number of 64 bits.
module _ {n : ℕ} {k : ClassHeap} {t : Tables} {s q : ℕ} (w : Working n k t) (used : s < t.used) (inside : q < k.slots) where
  pub block_slot : q < most_slots
  block_slot = omega (arith, inside, slots)
    where
      slots : k.slots ≤ most_slots
      slots = rw w.named (slots_within w.shape w.heap w.class)

  pub block_small : entry_of s q < 2 ^ 64
  unfolding entry_of most_slots
  block_small =
      let few : s < w.shape.spans = omega (arith, used, w.filled.within) in
      omega (arith, w.few, block_slot, mul-le-mul_right {m = suc s} {n = w.shape.spans} 4096 few)

pub dealloc_made :
    (t t₁ t' : Tables) (k : ClassHeap) (s q e : ℕ) → t₁ ≡ flush_first t k → e ≡ entry_of s q → t' ≡ push_entry t₁ k e → t' ≡ dealloc_local t k s q
unfolding dealloc_local
dealloc_made t t₁ t' k s q e p o z = rw (← p, ← o) z

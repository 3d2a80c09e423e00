-- A free on a sound table, by its tests. Assumes nothing.
use Rattle.std.specs.Prelude.{Option, Some, None}
use mathlib.Core.Path.{◌≡◌, refl, sym, ap, ◌∙◌}
use mathlib.Core.Bool.{Bool, true, false, cond, true≢false}
use Prim.Native.Nat.{ℕ, ◌/◌, ◌<◌, ◌≤◌}
use borrow.Author.Tests.{lt-ltb, le-ltb}
use Rattle.size_classes.specs.SlotSizes.{slot_size}
use Rattle.size_classes.specs.Slots.{starts_slot, slot_at}
use Rattle.tables.specs.declared.ClassHeap.{ClassHeap}
use Rattle.tables.specs.Shape.{Shape, class_heap}
use Rattle.tables.specs.Cells.{Tables, class_at, owner_at}
use Rattle.span.specs.declared.BlockState.{BlockState}
use Rattle.span.specs.declared.BlockState.TheVariants.{Free, Cached, Pending, Out}
use Rattle.span.specs.State.{state_in, state_of, out_state}
use Rattle.sound.specs.Sound.{home_of, Belongs}
use Rattle.filled_magazines.proofs.FilledFacts.{span_belongs}
use Rattle.heap.specs.Freeable.{Freeable}
use Rattle.calls.specs.Outcome.{Outcome, refused}
use Rattle.calls.specs.Calls.{names_slot, freed, free_sound}
use Rattle.sound_calls.specs.Lent.{Block, free_block}

-- ---- a block

-- A state is out exactly where its test says so.
pub out_state_lem : (b : BlockState) → out_state b ≡ true → b ≡ Out
out_state_lem Free e = absurd (true≢false (sym e))
out_state_lem Cached e = absurd (true≢false (sym e))
out_state_lem Pending e = absurd (true≢false (sym e))
out_state_lem Out e = refl

module _ {n : ℕ} {k : ClassHeap} {t : Tables} {s q : ℕ} (x : Block n k t s q) where
  -- It belongs to its class and owner,
  pub block_belongs : Belongs t k s
  block_belongs = rw x.home (span_belongs x.working.filled s x.used)

  state_here : state_of x.working.shape t s q ≡ state_in t k s q
  unfolding state_of
  state_here = ap (λ (l : ClassHeap). state_in t l s q) (sym x.home)

  -- and may be freed where it is out.
  pub block_freeable : Out ≡ state_in t k s q → Freeable n k t s q
  block_freeable told = record { working = x.working; belongs = block_belongs; inside = x.inside; out = state_here ∙ sym told }

-- ---- the slot at an offset

abbrev is_slot : Option ℕ → Bool
is_slot (Some q) = true
is_slot None = false

abbrev slot_in : Option ℕ → ℕ
slot_in (Some q) = q
slot_in None = 0

module _ (slot offset : ℕ) where
  slot_test : is_slot (slot_at slot offset) ≡ starts_slot slot offset
  unfolding slot_at
  slot_test = by_test (starts_slot slot offset) (offset / slot)
    where
      by_test : (b : Bool) (q : ℕ) → is_slot (cond b (Some q) None) ≡ b
      by_test true q = refl
      by_test false q = refl

  starts_not : slot_at slot offset ≡ None → starts_slot slot offset ≡ false
  starts_not e = sym slot_test ∙ ap is_slot e

  -- An offset that is answered with a slot starts it, and is its number by division.
  pub starts_at : (q : ℕ) → slot_at slot offset ≡ Some q → (starts_slot slot offset ≡ true) × (offset / slot ≡ q)
  unfolding slot_at
  starts_at q e = let r : starts_slot slot offset ≡ true = sym slot_test ∙ ap is_slot e in (r, ap slot_in (rw r at e))

-- ---- the call

-- The class of a heap that was read from a span's record is its class and owner.
pub home_here : (g : Shape) (t : Tables) (s : ℕ) {owner class : ℕ} {k : ClassHeap} → k ≡ class_heap g owner class → owner ≡ owner_at t s → class ≡ class_at t s → k ≡ home_of g t s
home_here g t s e o c = rw (← o, ← c) e

module _ (g : Shape) (t : Tables) (heap s offset : ℕ) where
  pub no_heap_lem : g.heaps ≤ heap → refused 3 t ≡ free_sound g t heap s offset
  unfolding free_sound
  no_heap_lem l = rw (le-ltb heap g.heaps l)

  module _ (hh : heap < g.heaps) where
    pub not_used : t.used ≤ s → refused 7 t ≡ free_sound g t heap s offset
    unfolding free_sound names_slot
    not_used l = rw (lt-ltb heap g.heaps hh, le-ltb s t.used l)

    module _ (hs : s < t.used) (k : ClassHeap) (home : k ≡ home_of g t s) where
      slot_here : k.slot ≡ slot_size g.sizes (class_at t s)
      unfolding class_heap
      slot_here = ap (λ (l : ClassHeap). l.slot) home

      pub no_slot : slot_at k.slot offset ≡ None → refused 7 t ≡ free_sound g t heap s offset
      unfolding free_sound names_slot
      no_slot z = rw (lt-ltb heap g.heaps hh, lt-ltb s t.used hs, ← slot_here, starts_not k.slot offset z)

      pub at_slot : (q : ℕ) (o : Outcome) → slot_at k.slot offset ≡ Some q → o ≡ free_block t k heap s offset q → o ≡ free_sound g t heap s offset
      unfolding free_sound names_slot freed state_of
      at_slot q o z e =
          let w = starts_at k.slot offset q z in
          rw (lt-ltb heap g.heaps hh, lt-ltb s t.used hs, ← slot_here, w.0, w.1, ← home) e

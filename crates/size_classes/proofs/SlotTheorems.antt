-- The slots of a span: how many there are, how long the span is, and that `slot_at` accepts exactly the starts of slots inside it. Assumes nothing.
use Rattle.std.specs.Prelude.{Option, Some, None}
use mathlib.Core.Bool.{and-false}
use mathlib.Core.Path.{◌≡◌, refl, sym, ◌∙◌, ap}
use Prim.Native.Nat.{ℕ, ◌*◌, ◌/◌, ◌%◌, ◌^◌, ◌≤◌, ◌<◌}
use native.Mathlib.Decide.{dec_lt, ℕ_discrete}
use native.Mathlib.Nat.{div-mul-le_self, div-add-mod', mul-div_cancel, mul-mod_left, mul-le-mul_right}
use native.Mathlib.Omega.{arith}
use lib.Dec.{eqb}
use borrow.Author.Tests.{eq-eqb, ne_eqb, lt-ltb, le-ltb}
use Rattle.size_classes.specs.SlotSizes.{largest_slot}
use Rattle.size_classes.specs.Slots.{most_slots, fewest_slots, slots_per_span, span_length, slot_offset, starts_slot, slot_at}

-- A span has at least the fewest slots.
pub slots_fewest : (slot : ℕ) → fewest_slots ≤ slots_per_span slot
unfolding slots_per_span
slots_fewest slot = omega arith

-- A span has at most the most slots.
pub slots_most : (slot : ℕ) → slots_per_span slot ≤ most_slots
unfolding slots_per_span fewest_slots most_slots
slots_most slot = omega arith

-- No span is longer than 2^20.
pub span_longest : (slot : ℕ) → slot ≤ largest_slot → span_length slot ≤ 2 ^ 20
unfolding span_length slots_per_span fewest_slots largest_slot
span_longest slot h =
    elim (dec_lt fewest_slots (largest_slot / slot)) [
      | yes y ↦
          let l : slots_per_span slot ≤ largest_slot / slot = omega arith in
          omega (arith, div-mul-le_self largest_slot slot, mul-le-mul_right slot l)
      | no y ↦ let e : slots_per_span slot ≡ fewest_slots = omega arith in omega (arith, ap (λ (n : ℕ). n * slot) e)
    ]

module _ (slot offset : ℕ) where
  -- A multiple of the slot whose quotient is below the number of slots is accepted.
  pub slot_found_lem : offset % slot ≡ 0 → offset / slot < slots_per_span slot → slot_at slot offset ≡ Some (offset / slot)
  unfolding slot_at starts_slot
  slot_found_lem m l = rw (eq-eqb (offset % slot) 0 m, lt-ltb (offset / slot) (slots_per_span slot) l)

  -- What is no multiple of the slot is refused.
  pub between_slots : (offset % slot ≡ 0 → ⊥) → slot_at slot offset ≡ None
  unfolding slot_at starts_slot
  between_slots m = rw (ne_eqb (offset % slot) 0 m)

  -- What is past the last slot is refused.
  pub past_slots : slots_per_span slot ≤ offset / slot → slot_at slot offset ≡ None
  unfolding slot_at starts_slot
  past_slots l = rw (le-ltb (offset / slot) (slots_per_span slot) l, and-false (eqb (offset % slot) 0))

-- the offset is the start of slot q, and slot q is inside the span
pub record Starts (slot offset q : ℕ) : Type 0 where
  pub at : offset ≡ slot_offset slot q
  pub inside : q < slots_per_span slot

-- what an answer says: the offset is the start of that slot, or of none
abbrev pub SlotAnswer : ℕ → ℕ → Option ℕ → Type 0
SlotAnswer slot offset (Some q) = Starts slot offset q
SlotAnswer slot offset None = (q : ℕ) → Starts slot offset q → ⊥

module _ (slot offset : ℕ) (pos : 0 < slot) where
  -- A slot's start is a multiple of the slot.
  start_multiple : (q : ℕ) → Starts slot offset q → offset % slot ≡ 0
  start_multiple q h = rw h.at (mul-mod_left q slot)

  -- A slot's start, divided by the slot, is its number.
  start_quotient : (q : ℕ) → Starts slot offset q → offset / slot ≡ q
  start_quotient q h = rw h.at (mul-div_cancel q pos)

  -- The definition gives such an answer, for every offset.
  pub slot_answer : SlotAnswer slot offset (slot_at slot offset)
  slot_answer =
      elim (ℕ_discrete (offset % slot) 0) [
        | no n ↦ rw (between_slots slot offset n) (λ q h. n (start_multiple q h))
        | yes m ↦
            elim (dec_lt (offset / slot) (slots_per_span slot)) [
              | no n ↦ rw (past_slots slot offset (omega arith)) (λ q h. omega (arith, start_quotient q h, h.inside))
              | yes l ↦ rw (slot_found_lem slot offset m l) (record { at = omega (arith, div-add-mod' offset slot); inside = l })
            ]
      ]

  -- No second answer fits an offset.
  pub one_slot : (r t : Option ℕ) → SlotAnswer slot offset r → SlotAnswer slot offset t → r ≡ t
  one_slot (Some p) (Some q) g h = ap Some (sym (start_quotient p g) ∙ start_quotient q h)
  one_slot (Some p) None g h = absurd (h p g)
  one_slot None (Some q) g h = absurd (g q h)
  one_slot None None g h = refl

  -- An offset is answered with slot q exactly where it is the start of slot q, inside the span.
  pub accepts_exactly :
      (q : ℕ) → (slot_at slot offset ≡ Some q → Starts slot offset q) × (Starts slot offset q → slot_at slot offset ≡ Some q)
  accepts_exactly q = (λ e. rw e at slot_answer, one_slot (slot_at slot offset) (Some q) slot_answer)

  -- An offset is refused exactly where no slot inside the span starts at it.
  pub refuses_exactly :
      (slot_at slot offset ≡ None → (q : ℕ) → Starts slot offset q → ⊥) ×
      (((q : ℕ) → Starts slot offset q → ⊥) → slot_at slot offset ≡ None)
  refuses_exactly = (λ e. rw e at slot_answer, one_slot (slot_at slot offset) None slot_answer)

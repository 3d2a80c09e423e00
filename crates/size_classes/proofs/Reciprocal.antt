-- Slot division by the reciprocal: for every slot size that a list can have and every offset inside the span, the part above 2^64 of the
-- product with the rounded-up quotient of 2^64 and the slot size is the plain quotient. Assumes nothing.
use mathlib.Core.List.{List}
use mathlib.Core.Path.{◌≡◌}
use Prim.Native.Nat.{ℕ, ◌+◌, ◌-◌, ◌*◌, ◌/◌, ◌^◌, ◌≤◌, ◌<◌}
use native.Mathlib.Decide.{dec_lt}
use native.Mathlib.Nat.{div-mul-le_self, lt-div-mul-add, mul-le-mul_left}
use native.Mathlib.Omega.{arith}
use lib.ListN.{length}
use Rattle.laws.proofs.Division.{by_multiplying}
use Rattle.size_classes.specs.SlotSizes.{slot_size, largest_slot, Admissible}
use Rattle.size_classes.specs.Slots.{slots_per_span, span_length, reciprocal, by_reciprocal}
use Rattle.size_classes.proofs.SlotSizeLaws.{size_largest}
use Rattle.size_classes.proofs.SlotTheorems.{span_longest}

-- The reciprocal is not below the exact quotient.
reciprocal_over : (slot : ℕ) → 0 < slot → 2 ^ 64 ≤ reciprocal slot * slot
unfolding reciprocal
reciprocal_over slot pos = omega (arith, lt-div-mul-add {a = 2 ^ 64 + slot - 1} pos)

-- The reciprocal is above the exact quotient by less than one slot in 2^64.
reciprocal_error : (slot : ℕ) → 0 < slot → reciprocal slot * slot - 2 ^ 64 < slot
unfolding reciprocal
reciprocal_error slot pos = omega (arith, div-mul-le_self (2 ^ 64 + slot - 1) slot)

-- The reciprocal of no slot is smaller than the largest slot's.
reciprocal_large : (slot : ℕ) → 0 < slot → slot ≤ largest_slot → 2 ^ 47 ≤ reciprocal slot
unfolding largest_slot
reciprocal_large slot pos top =
    elim (dec_lt (reciprocal slot) (2 ^ 47)) [
      | yes y ↦ omega (arith, reciprocal_over slot pos, mul-le-mul_left (reciprocal slot) top)
      | no y ↦ omega arith
    ]

-- The error, taken once for each slot of a span, is below the reciprocal.
error_small : (slot : ℕ) → 0 < slot → slot ≤ largest_slot → slots_per_span slot * (reciprocal slot * slot - 2 ^ 64) < reciprocal slot
unfolding span_length
error_small slot pos top =
    let e : slots_per_span slot * (reciprocal slot * slot - 2 ^ 64) ≤ span_length slot
    = mul-le-mul_left (slots_per_span slot) (omega (arith, reciprocal_error slot pos)) in
    omega (arith, span_longest slot top, reciprocal_large slot pos top)

-- Slot division: plain division and the reciprocal's agree at every offset inside the span.
pub slot_division : (slot offset : ℕ) → 0 < slot → slot ≤ largest_slot → offset < span_length slot → offset / slot ≡ by_reciprocal slot offset
unfolding span_length by_reciprocal
slot_division slot offset pos top inside =
    by_multiplying (2 ^ 64) slot (reciprocal slot) (slots_per_span slot) offset pos (reciprocal_over slot pos) (error_small slot pos top) inside

-- Slot division for each class of every admissible list, and every offset inside its span.
pub class_division :
    (sizes : List ℕ) →
    Admissible sizes →
    (k offset : ℕ) →
    k < length sizes →
    offset < span_length (slot_size sizes k) →
    offset / slot_size sizes k ≡ by_reciprocal (slot_size sizes k) offset
class_division sizes ok k offset h inside = slot_division (slot_size sizes k) offset (ok.positive k h) (size_largest sizes ok k h) inside

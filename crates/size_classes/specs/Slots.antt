-- The slots of a span, and the slot of an offset in it, by the slot size. Assumes nothing.
use Rattle.std.specs.Prelude.{Option, Some, None}
use Rattle.std.specs.Prelude.{Bool, ◌&&◌, cond, ℕ, ◌+◌, ◌-◌, ◌*◌, ◌/◌, ◌%◌, ◌^◌, min, max, eqb, ltb}
use Rattle.size_classes.specs.SlotSizes.{largest_slot}

-- the most slots of a span: 64 words of 64 bits
unfoldable pub most_slots : ℕ
most_slots = 4096

unfoldable pub fewest_slots : ℕ
fewest_slots = 8

-- "Slots per span: 131072 divided by the slot, held to 8..4096."
unfoldable pub slots_per_span : ℕ → ℕ
slots_per_span slot = max fewest_slots (min (largest_slot / slot) most_slots)

-- "Span length is slots times slot size, a slot's offset in it its number times slot size."
unfoldable pub span_length : ℕ → ℕ
span_length slot = slots_per_span slot * slot

abbrev pub slot_offset : ℕ → ℕ → ℕ
slot_offset slot q = q * slot

-- an offset is "the start of a slot", by plain division
unfoldable pub starts_slot : ℕ → ℕ → Bool
starts_slot slot offset = eqb (offset % slot) 0 && ltb (offset / slot) (slots_per_span slot)

unfoldable pub slot_at : ℕ → ℕ → Option ℕ
slot_at slot offset = cond (starts_slot slot offset) (Some (offset / slot)) None

-- "the source multiplies by the rounded-up quotient of 2^64 and the slot size, and keeps the part above 2^64"
unfoldable pub reciprocal : ℕ → ℕ
reciprocal slot = (2 ^ 64 + slot - 1) / slot

unfoldable pub by_reciprocal : ℕ → ℕ → ℕ
by_reciprocal slot offset = offset * reciprocal slot / 2 ^ 64

-- 01's worked numbers, P1 to P12, in one table about the definitions; the magazine draw; and 01's trace. Assumes nothing.
use Rattle.std.specs.Prelude.{Option, Some, None}
use mathlib.Core.Path.{◌≡◌, refl}
use Prim.Native.Nat.{ℕ, ◌-◌, ◌^◌}
use lib.ListN.{take, drop, get_or, replicate}
use lib.Count.{ones_in}
use Rattle.laws.specs.First.{first}
use Rattle.size_classes.specs.SlotSizes.{rising, groups, slot_sizes, slot_size, largest_slot}
use Rattle.size_classes.specs.Class.{raised, fits, smallest_class, in_range, class_of}
use Rattle.size_classes.specs.Slots.{most_slots, fewest_slots, slots_per_span, starts_slot, slot_at}
use Rattle.occupancy.specs.declared.Claimed.TheVariants.{Taken}
use Rattle.occupancy.specs.Occupied.{fresh_words, fresh_of, first_room, first_free, window_of, taking, claim_in, claim}

-- the slot of a class found; 0 for a refusal
abbrev slot_found : Option ℕ → ℕ
slot_found (Some k) = slot_size slot_sizes k
slot_found None = 0

pub record WorkedNumbers : Type 0 where
  -- "P1 size 0, alignment 0: slot 16. P2 size 17: 32. P3 size 48, alignment 32: 64. P4 size 300, alignment 256: 512."
  pub P1 : slot_found (class_of slot_sizes 0 0) ≡ 16
  pub P2 : slot_found (class_of slot_sizes 17 1) ≡ 32
  pub P3 : slot_found (class_of slot_sizes 48 32) ≡ 64
  pub P4 : slot_found (class_of slot_sizes 300 256) ≡ 512
  -- "P5 size 131072: 131072; 131073: 5. P6 size 1, alignment 131073: 5."
  pub P5 : (slot_found (class_of slot_sizes 131072 1) ≡ 131072) × (class_of slot_sizes 131073 1 ≡ None)
  pub P6 : class_of slot_sizes 1 131073 ≡ None
  -- "P7 slot 16: 4096 slots, summary 0."
  pub P7 : (slots_per_span 16 ≡ 4096) × ((fresh_of (slots_per_span 16)).summary ≡ 0)
  -- "P8 slot 48: 2730 slots, words 0..41 open, word 42 with its low 42 bits clear."
  pub P8 :
      (slots_per_span 48 ≡ 2730) × (take 42 (fresh_of (slots_per_span 48)).words ≡ replicate 42 0) ×
      (get_or (fresh_of (slots_per_span 48)).words 42 0 ≡ 2 ^ 64 - 2 ^ 42) ×
      (drop 43 (fresh_of (slots_per_span 48)).words ≡ replicate 21 (2 ^ 64 - 1))
  -- "P9 slot 48: offset 130992 is slot 2729; 130993 and 131040 are refused with 7."
  pub P9 : (slot_at 48 130992 ≡ Some 2729) × (slot_at 48 130993 ≡ None) × (slot_at 48 131040 ≡ None)
  -- "P10 fresh 131072 span, m 2, word 448: mask 0x81. P11 fresh 48 span, m 64, word 43: word 0, all 64. P12 the same, word 42: 42 slots."
  pub P10 : (claim (fresh_of (slots_per_span 131072)) 2 448).answer ≡ Taken 0 0x81
  pub P11 : (claim (fresh_of (slots_per_span 48)) 64 43).answer ≡ Taken 0 (2 ^ 64 - 1)
  pub P12 : (claim (fresh_of (slots_per_span 48)) 64 42).answer ≡ Taken 42 (2 ^ 42 - 1)

pub worked : WorkedNumbers
unfolding first ones_in rising groups slot_sizes largest_slot raised fits smallest_class in_range class_of most_slots fewest_slots slots_per_span starts_slot slot_at fresh_words fresh_of first_room first_free window_of taking claim_in claim
worked =
    record {
      P1 = refl;
      P2 = refl;
      P3 = refl;
      P4 = refl;
      P5 = (refl, refl);
      P6 = refl;
      P7 = (refl, refl);
      P8 = (refl, refl, refl, refl);
      P9 = (refl, refl, refl);
      P10 = refl;
      P11 = refl;
      P12 = refl;
    }

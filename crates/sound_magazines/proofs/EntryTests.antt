-- The word of the slot that an entry names. Assumes nothing.
use mathlib.Core.Path.{◌≡◌}
use Prim.Native.Nat.{ℕ, ◌/◌, ◌<◌}
use native.Mathlib.Omega.{arith}
use Rattle.size_classes.specs.Slots.{most_slots}
use Rattle.tables.specs.Cells.{entry_slot}

-- The slot stands in one of 64 words.
pub slot_word_low : (e q : ℕ) → q ≡ entry_slot e → q / 64 < 64
unfolding entry_slot most_slots
slot_word_low e q eq = omega (arith, eq)

-- Answers of the leaves as plain numbers. Assumes nothing.
use Rattle.std.specs.Prelude.{Option, Some, None}
use Rattle.std.specs.Prelude.{ℕ}
use Rattle.occupancy.specs.declared.Claimed.{Claimed}
use Rattle.occupancy.specs.declared.Claimed.TheVariants.{Nothing, Taken}
use Rattle.leaves.specs.declared.Found.{Found}

-- a class, and 48 for none
abbrev pub class_number : Option ℕ → ℕ
class_number (Some k) = k
class_number None = 48

-- a slot, and 4096 for none
abbrev pub slot_number : Option ℕ → ℕ
slot_number (Some q) = q
slot_number None = 4096

-- a word and a mask, and word 64 for none
abbrev pub claim_numbers : Claimed → Found
claim_numbers Nothing = record { word = 64; mask = 0 }
claim_numbers (Taken i mask) = record { word = i; mask = mask }

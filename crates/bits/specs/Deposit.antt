-- Bit deposit: Intel's PDEP as its manual writes it, and the lowest set bits of a word by recursion on bits still wanted. Assumes nothing.
use Rattle.std.specs.Prelude.{ℕ, zero, suc, ◌+◌, ◌*◌, ◌/◌, ◌%◌, ◌^◌}
use Rattle.laws.specs.Word.{bit_at}

-- PDEP, the Operation section of Intel's manual (volume 2, "PDEP - Parallel Bits Deposit"), operands of 64 bits:
--     m := 0; k := 0; DEST := 0;
--     while m < 64 { if MASK[m] = 1 { DEST[m] := SRC[k]; k := k + 1 }; m := m + 1 }
-- `pdep_from d m k src mask dest` is what the loop leaves in DEST where d turns are to go. MASK[m] is 0 or 1: it is what is added to k, and times SRC[k]
-- what DEST[m], which was 0, becomes
unfoldable pub pdep_from : ℕ → ℕ → ℕ → ℕ → ℕ → ℕ → ℕ
pdep_from zero m k src mask dest = dest
pdep_from (suc d) m k src mask dest = pdep_from d (suc m) (k + bit_at mask m) src mask (dest + bit_at mask m * bit_at src k * 2 ^ m)

unfoldable pub pdep : ℕ → ℕ → ℕ
pdep src mask = pdep_from 64 0 0 src mask 0

-- the lowest n set bits of the d low digits of x. A digit that is 0 is passed; one that is 1 is taken while any is wanted, and then one less is wanted
-- above it
abbrev pub low_digit : ℕ → ℕ → (ℕ → ℕ) → ℕ
low_digit zero n above = above n * 2
low_digit (suc b) zero above = 0
low_digit (suc b) (suc n) above = above n * 2 + 1

unfoldable pub lowest : ℕ → ℕ → ℕ → ℕ
lowest zero n x = 0
lowest (suc d) n x = low_digit (x % 2) n (λ m. lowest d m (x / 2))

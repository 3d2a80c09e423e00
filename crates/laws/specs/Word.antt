-- Words of 64 bits, as numbers below 2 ^ 64. Assumes nothing.
use Rattle.std.specs.Prelude.{Bool, List, [], ◌∷◌, ℕ, zero, suc, ◌+◌, ◌-◌, ◌*◌, ◌/◌, ◌%◌, ◌^◌, eqb}
use lib.Count.{ones_in}

-- all 64 bits set
abbrev pub all_ones : ℕ
all_ones = 2 ^ 64 - 1

-- bit i of x, 0 or 1
abbrev pub bit_at : ℕ → ℕ → ℕ
bit_at x i = x / 2 ^ i % 2

abbrev pub is_set : ℕ → ℕ → Bool
is_set x i = eqb (bit_at x i) 1

-- x with bit i set, and with bit i clear
abbrev pub set_bit : ℕ → ℕ → ℕ
set_bit x i = x + (1 - bit_at x i) * 2 ^ i

abbrev pub clear_bit : ℕ → ℕ → ℕ
clear_bit x i = x - bit_at x i * 2 ^ i

-- how many of the 64 bits are set. The machine's count, `lib.Count.ones`, is the same number; it takes x steps to compute, and this takes 64
abbrev pub popcount : ℕ → ℕ
popcount x = ones_in 64 x

-- the numbers of the set bits among the d low digits of x, counted from i on, in ascending order
abbrev pub bit_digit : ℕ → ℕ → List ℕ → List ℕ
bit_digit zero i above = above
bit_digit (suc b) i above = i ∷ above

unfoldable pub bits_from : ℕ → ℕ → ℕ → List ℕ
bits_from zero i x = []
bits_from (suc d) i x = bit_digit (x % 2) i (bits_from d (suc i) (x / 2))

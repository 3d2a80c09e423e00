-- Two words bit by bit: one that holds the bits of another, and two that share none; their difference, sum and counts. Assumes nothing.
use mathlib.Core.Path.{◌≡◌, refl, sym, ap, ap₂, ◌∙◌}
use Prim.Native.Nat.{ℕ, zero, suc, ◌+◌, ◌-◌, ◌/◌, ◌%◌, ◌^◌, ◌<◌, ◌≤◌, min}
use native.Mathlib.Omega.{arith}
use native.Mathlib.Nat.{pow-suc, lt_of_le_of_lt}
use lib.Pow.{pow_pos}
use lib.Bits.{bit_and, bit_or, and_le_l, or_disjoint}
use lib.Count.{ones_in}
use Rattle.laws.specs.Word.{bit_at}
use Rattle.laws.proofs.WordLaws.{and_not}
use Rattle.laws.proofs.BitLaws.{bit_zero, bit_first, bit_next, bit_ext, bit_and_lem}

-- Each bit of x is a bit of y.
pub record Within (x y : ℕ) : Type 0 where
  pub bits : (i : ℕ) → bit_at x i ≤ bit_at y i

-- No bit of x is a bit of y.
pub record Apart (x y : ℕ) : Type 0 where
  pub bits : (i : ℕ) → bit_at x i + bit_at y i ≤ 1

-- ---- x within y

-- The lowest digits of a word within another.
within_low : (x y : ℕ) → Within x y → x % 2 ≤ y % 2
within_low x y u = omega (arith, u.bits 0, bit_first x, bit_first y)

-- The other digits of a word within another.
within_half : (x y : ℕ) → Within x y → Within (x / 2) (y / 2)
within_half x y u = record { bits = λ i. omega (arith, u.bits (suc i), bit_next x i, bit_next y i) }

-- A word within another is not above it.
pub within_le : (d x y : ℕ) → x < 2 ^ d → Within x y → x ≤ y
within_le zero x y h u = omega arith
within_le (suc d) x y h u =
    omega (arith, within_low x y u, within_le d (x / 2) (y / 2) (omega (arith, pow-suc 2 d)) (within_half x y u))

-- The lowest digit of a difference without a borrow.
low_sub : (x y : ℕ) → x ≤ y → x % 2 ≤ y % 2 → (y - x) % 2 ≡ y % 2 - x % 2
low_sub x y l h = omega arith

-- The other digits of a difference without a borrow.
half_sub : (x y : ℕ) → x ≤ y → x % 2 ≤ y % 2 → (y - x) / 2 ≡ y / 2 - x / 2
half_sub x y l h = omega arith

-- The bits of y without those of x.
pub sub_bit : (i x y : ℕ) → Within x y → x ≤ y → bit_at (y - x) i ≡ bit_at y i - bit_at x i
sub_bit zero x y u l = bit_first (y - x) ∙ low_sub x y l (within_low x y u) ∙ sym (ap₂ ◌-◌ (bit_first y) (bit_first x))
sub_bit (suc i) x y u l =
    bit_next (y - x) i ∙ ap (λ (z : ℕ). bit_at z i) (half_sub x y l (within_low x y u))
    ∙ sub_bit i (x / 2) (y / 2) (within_half x y u) (omega arith) ∙ sym (ap₂ ◌-◌ (bit_next y i) (bit_next x i))

-- How many bits of y are left without those of x.
pub sub_ones : (d x y : ℕ) → Within x y → x ≤ y → ones_in d (y - x) + ones_in d x ≡ ones_in d y
unfolding ones_in
sub_ones zero x y u l = refl
sub_ones (suc d) x y u l =
    let low : x % 2 ≤ y % 2 = within_low x y u in
    omega (arith, low_sub x y l low, ap (ones_in d) (half_sub x y l low), sub_ones d (x / 2) (y / 2) (within_half x y u) (omega arith))

-- The smaller of a bit and one it is not above.
smaller : (a b : ℕ) → b ≤ a → min a b ≡ b
smaller a b h = omega arith

-- `y & !x` is y - x where x is within y.
pub within_not : (d x y : ℕ) → x < 2 ^ d → y < 2 ^ d → Within x y → bit_and y ((2 ^ d - 1) - x) ≡ y - x
within_not d x y hx hy u =
    let e : bit_and y x ≡ x =
    bit_ext d (bit_and y x) x (lt_of_le_of_lt (and_le_l y x) hy) hx (λ i h. bit_and_lem y x i ∙ smaller (bit_at y i) (bit_at x i) (u.bits i)) in
    omega (arith, and_not d y x hy hx, e)

-- ---- x and y apart

-- The lowest digit of a sum without a carry.
low_add : (x y : ℕ) → x % 2 + y % 2 ≤ 1 → (x + y) % 2 ≡ x % 2 + y % 2
low_add x y h = omega arith

-- The other digits of a sum without a carry.
half_add : (x y : ℕ) → x % 2 + y % 2 ≤ 1 → (x + y) / 2 ≡ x / 2 + y / 2
half_add x y h = omega arith

-- The lowest digits of two words apart.
apart_low : (x y : ℕ) → Apart x y → x % 2 + y % 2 ≤ 1
apart_low x y u = omega (arith, u.bits 0, bit_first x, bit_first y)

-- The other digits of two words apart.
apart_half : (x y : ℕ) → Apart x y → Apart (x / 2) (y / 2)
apart_half x y u = record { bits = λ i. omega (arith, u.bits (suc i), bit_next x i, bit_next y i) }

-- The bits of both.
pub add_bit : (i x y : ℕ) → Apart x y → bit_at (x + y) i ≡ bit_at x i + bit_at y i
add_bit zero x y u = bit_first (x + y) ∙ low_add x y (apart_low x y u) ∙ sym (ap₂ ◌+◌ (bit_first x) (bit_first y))
add_bit (suc i) x y u =
    bit_next (x + y) i ∙ ap (λ (z : ℕ). bit_at z i) (half_add x y (apart_low x y u))
    ∙ add_bit i (x / 2) (y / 2) (apart_half x y u) ∙ sym (ap₂ ◌+◌ (bit_next x i) (bit_next y i))

-- How many bits both have.
pub add_ones : (d x y : ℕ) → Apart x y → ones_in d (x + y) ≡ ones_in d x + ones_in d y
unfolding ones_in
add_ones zero x y u = refl
add_ones (suc d) x y u =
    let low : x % 2 + y % 2 ≤ 1 = apart_low x y u in
    omega (arith, low_add x y low, ap (ones_in d) (half_add x y low), add_ones d (x / 2) (y / 2) (apart_half x y u))

-- Two words apart make a word.
pub add_lt : (d x y : ℕ) → x < 2 ^ d → y < 2 ^ d → Apart x y → x + y < 2 ^ d
add_lt zero x y hx hy u = omega arith
add_lt (suc d) x y hx hy u =
    let low : x % 2 + y % 2 ≤ 1 = apart_low x y u in
    omega (
      arith,
      pow-suc 2 d,
      half_add x y low,
      low_add x y low,
      add_lt d (x / 2) (y / 2) (omega (arith, pow-suc 2 d)) (omega (arith, pow-suc 2 d)) (apart_half x y u),
    )

-- The smaller of two bits that are not both set.
neither : (a b : ℕ) → a + b ≤ 1 → min a b ≡ 0
neither a b e = omega arith

-- `x | y` is x + y where they are apart.
pub apart_or : (d x y : ℕ) → x < 2 ^ d → Apart x y → bit_or x y ≡ x + y
apart_or d x y hx u =
    or_disjoint x y
    (bit_ext d (bit_and x y) 0 (lt_of_le_of_lt (and_le_l x y) hx) (pow_pos d)
    (λ i h. bit_and_lem x y i ∙ neither (bit_at x i) (bit_at y i) (u.bits i) ∙ sym (bit_zero i)))

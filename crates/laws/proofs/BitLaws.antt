-- Words bit by bit: each operation's bits, and that a word is its bits. Assumes nothing.
use mathlib.Core.Path.{◌≡◌, refl, sym, ap, ap₂, subst, ◌∙◌}
use mathlib.Core.Logic.{◌⊎◌, inl, inr}
use mathlib.Core.Bool.{true, false, true≢false, not, cond}
use Prim.Native.Nat.{ℕ, zero, suc, ◌+◌, ◌-◌, ◌*◌, ◌/◌, ◌%◌, ◌^◌, ◌≤◌, ◌<◌, min, max}
use native.Mathlib.Nat.{min-zero, div_self, zero-add, zero-div, zero-mul, div-eq_of_lt, pow-suc, add-mul-div_right, mul_assoc, div-one, div-add-mod', mod-lt, mod-eq_of_lt, one-mul, lt_of_lt_of_le, lt_of_le_of_lt, sub-le}
use native.Mathlib.Numerals.{one-add}
use native.Mathlib.Decide.{dec_lt}
use native.Mathlib.Omega.{arith}
use lib.Dec.{lit<, eqb}
use borrow.Author.Tests.{ne_eqb, eqb-true}
use lib.Pow.{shr-shr, pow-add, split, high, pow-lt, pow_pos, pow_mono, ones_split, ones_lt}
use lib.Bits.{bit_and, bit_or, or_add_and, and_step, or_step, and_shr, or_shr, or_lt}
use lib.Count.{ones_in, count_trailing_zeros, under}
use Rattle.laws.specs.Choice.{sum}
use Rattle.laws.specs.Word.{bit_at, is_set, set_bit, clear_bit}
use Rattle.laws.proofs.SumLaws.{sum_same, sum_split}
use Rattle.laws.proofs.WordLaws.{and_bit, and_not}

-- Below, or not.
pub lt_or_le : (a b : ℕ) → (a < b) ⊎ (b ≤ a)
lt_or_le a b = go (dec_lt a b)
  where
    go : Dec (a < b) → (a < b) ⊎ (b ≤ a)
    go (yes h) = inl h
    go (no h) = inr (omega arith)

-- A bit is 0 or 1.
pub bit_lt : (x i : ℕ) → bit_at x i < 2
bit_lt x i = mod-lt (x / 2 ^ i) (lit< tt)

-- No bit of 0 is set.
pub bit_zero : (i : ℕ) → bit_at 0 i ≡ 0
bit_zero i = ap (λ (z : ℕ). z % 2) (zero-div (2 ^ i))

-- The lowest bit is the lowest digit.
pub bit_first : (x : ℕ) → bit_at x 0 ≡ x % 2
bit_first x = ap (λ (z : ℕ). z % 2) (div-one x)

-- The bits of a word shifted to the right.
pub bit_shr : (x k i : ℕ) → bit_at (x / 2 ^ k) i ≡ bit_at x (k + i)
bit_shr x k i = ap (λ (z : ℕ). z % 2) (shr-shr x k i)

-- A bit above the lowest is one of the half.
pub bit_next : (x i : ℕ) → bit_at x (suc i) ≡ bit_at (x / 2) i
bit_next x i = ap (bit_at x) (sym (one-add i)) ∙ sym (bit_shr x 1 i)

-- The j low bits of a word in two parts are those of the lower part.
pub bit_cat_low : (a j r i : ℕ) → i < j → bit_at (a * 2 ^ j + r) i ≡ bit_at r i
bit_cat_low a j r i h =
    let m : ℕ = j - i - 1 in
    let e : j ≡ suc m + i = omega arith in
    let f : a * 2 ^ j + r ≡ r + a * 2 ^ suc m * 2 ^ i =
    omega (arith, ap (λ (z : ℕ). a * 2 ^ z) e, ap (λ (z : ℕ). a * z) (pow-add 2 (suc m) i), mul_assoc a (2 ^ suc m) (2 ^ i)) in
    ap (λ (z : ℕ). z / 2 ^ i % 2) f
    ∙ ap (λ (z : ℕ). z % 2) (add-mul-div_right r (a * 2 ^ suc m) (pow_pos i))
    ∙ omega (arith, ap (λ (z : ℕ). a * z) (pow-suc 2 m), mul_assoc a (2 ^ m) 2)

-- The bits above are those of the higher part.
pub bit_cat_high : (a j r i : ℕ) → r < 2 ^ j → bit_at (a * 2 ^ j + r) (j + i) ≡ bit_at a i
bit_cat_high a j r i h = sym (bit_shr (a * 2 ^ j + r) j i) ∙ ap (λ (z : ℕ). bit_at z i) (high a j h)

-- The k low bits of a word are those of its remainder.
pub bit_mod : (x k i : ℕ) → i < k → bit_at (x % 2 ^ k) i ≡ bit_at x i
bit_mod x k i h = sym (bit_cat_low (x / 2 ^ k) k (x % 2 ^ k) i h) ∙ ap (λ (z : ℕ). bit_at z i) (split x k)

-- A bit past the word is clear.
pub bit_past : (d x i : ℕ) → x < 2 ^ d → d ≤ i → bit_at x i ≡ 0
bit_past d x i h l = ap (λ (z : ℕ). z % 2) (div-eq_of_lt (lt_of_lt_of_le h (pow_mono l)))

-- A word is its bits.
pub bit_ext : (d x y : ℕ) → x < 2 ^ d → y < 2 ^ d → ((i : ℕ) → i < d → bit_at x i ≡ bit_at y i) → x ≡ y
bit_ext zero x y hx hy e = omega arith
bit_ext (suc d) x y hx hy e =
    sym (div-add-mod' x 2)
    ∙ ap₂ (λ (q b : ℕ). q * 2 + b)
    (bit_ext d (x / 2) (y / 2) (omega (arith, pow-suc 2 d)) (omega (arith, pow-suc 2 d)) (λ i h. sym (bit_next x i) ∙ e (suc i) (omega arith) ∙ bit_next y i))
    (sym (bit_first x) ∙ e 0 (omega arith) ∙ bit_first y)
    ∙ div-add-mod' y 2

-- ---- and, or, not

-- The bits of `x & y`.
pub bit_and_lem : (x y i : ℕ) → bit_at (bit_and x y) i ≡ min (bit_at x i) (bit_at y i)
bit_and_lem x y i = ap (λ (z : ℕ). z % 2) (and_shr x y i ∙ and_step (x / 2 ^ i) (y / 2 ^ i)) ∙ omega arith

-- The bits of `x | y`.
pub bit_or_lem : (x y i : ℕ) → bit_at (bit_or x y) i ≡ max (bit_at x i) (bit_at y i)
bit_or_lem x y i = ap (λ (z : ℕ). z % 2) (or_shr x y i ∙ or_step (x / 2 ^ i) (y / 2 ^ i)) ∙ omega arith

-- The bits of `!x`.
pub bit_not : (d x i : ℕ) → x < 2 ^ d → i < d → bit_at ((2 ^ d - 1) - x) i ≡ 1 - bit_at x i
bit_not zero x i hx h = absurd (let z : ⊥ = omega arith in z)
bit_not (suc d) x zero hx h = bit_first (2 ^ suc d - 1 - x) ∙ omega (arith, pow-suc 2 d, bit_first x)
bit_not (suc d) x (suc i) hx h =
    let e : (2 ^ suc d - 1 - x) / 2 ≡ 2 ^ d - 1 - x / 2 = omega (arith, pow-suc 2 d) in
    bit_next (2 ^ suc d - 1 - x) i ∙ ap (λ (z : ℕ). bit_at z i) e
    ∙ bit_not d (x / 2) i (omega (arith, pow-suc 2 d)) (omega arith) ∙ ap (λ (z : ℕ). 1 - z) (sym (bit_next x i))

-- The n bits of 2 ^ n - 1 are set.
pub bit_ones : (n k : ℕ) → k < n → bit_at (2 ^ n - 1) k ≡ 1
bit_ones n k h =
    let j : ℕ = n - k - 1 in
    let e : n ≡ suc j + k = omega arith in
    ap (λ (z : ℕ). (2 ^ z - 1) / 2 ^ k % 2) e
    ∙ ap (λ (z : ℕ). z / 2 ^ k % 2) (ones_split (suc j) k)
    ∙ ap (λ (z : ℕ). z % 2) (high (2 ^ suc j - 1) k (ones_lt k))
    ∙ omega (arith, pow-suc 2 j, pow_pos j)

-- ---- one bit

-- `1 << i`.
pub one_shl : (i : ℕ) → i < 64 → (1 * 2 ^ i) % 2 ^ 64 ≡ 2 ^ i
one_shl i h = ap (λ (z : ℕ). z % 2 ^ 64) (one-mul (2 ^ i)) ∙ mod-eq_of_lt (pow-lt h)

-- Bit i of 2 ^ i is set.
pub bit_pow_same : (i : ℕ) → bit_at (2 ^ i) i ≡ 1
bit_pow_same i = ap (λ (z : ℕ). z % 2) (div_self (pow_pos i))

-- No other bit of 2 ^ i is set.
pub bit_pow_other : (i j : ℕ) → (j ≡ i → ⊥) → bit_at (2 ^ i) j ≡ 0
bit_pow_other i j h = go (lt_or_le j i)
  where
    go : (j < i) ⊎ (i ≤ j) → bit_at (2 ^ i) j ≡ 0
    go (inl l) = ap (λ (z : ℕ). bit_at z j) (let e : 2 ^ i ≡ 1 * 2 ^ i + 0 = omega arith in e) ∙ bit_cat_low 1 i 0 j l ∙ bit_zero j
    go (inr l) = ap (λ (z : ℕ). z % 2) (div-eq_of_lt (pow-lt (let q : i < j = omega (arith, h) in q)))

-- `x | 2 ^ i` is x with bit i set.
pub set_or : (x i : ℕ) → bit_or x (2 ^ i) ≡ set_bit x i
set_or x i = go (bit_at x i) (bit_lt x i) (or_add_and x (2 ^ i)) (and_bit x i)
  where
    go : (b : ℕ) → b < 2 → bit_or x (2 ^ i) + bit_and x (2 ^ i) ≡ x + 2 ^ i → bit_and x (2 ^ i) ≡ b * 2 ^ i → bit_or x (2 ^ i) ≡ x + (1 - b) * 2 ^ i
    go zero l e f = omega arith
    go (suc zero) l e f = omega arith
    go (suc (suc b)) l e f = absurd (let z : ⊥ = omega arith in z)

-- The code's `x | (1 << i)`.
pub set_is : (x i : ℕ) → i < 64 → bit_or x ((1 * 2 ^ i) % 2 ^ 64) ≡ set_bit x i
set_is x i h = ap (bit_or x) (one_shl i h) ∙ set_or x i

-- `x & !(2 ^ i)` is x with bit i clear.
pub clear_and : (x i : ℕ) → x < 2 ^ 64 → i < 64 → bit_and x ((2 ^ 64 - 1) - 2 ^ i) ≡ clear_bit x i
clear_and x i hx h = omega (arith, and_not 64 x (2 ^ i) hx (pow-lt h), and_bit x i)

-- The code's `x & !(1 << i)`.
pub clear_is : (x i : ℕ) → x < 2 ^ 64 → i < 64 → bit_and x ((2 ^ 64 - 1) - (1 * 2 ^ i) % 2 ^ 64) ≡ clear_bit x i
clear_is x i hx h = ap (λ (z : ℕ). bit_and x ((2 ^ 64 - 1) - z)) (one_shl i h) ∙ clear_and x i hx h

-- The code's `x & (1 << i) != 0` is whether bit i of x is set.
pub test_is : (x i : ℕ) → i < 64 → not (eqb (bit_and x ((1 * 2 ^ i) % 2 ^ 64)) 0) ≡ is_set x i
test_is x i h = ap (λ (z : ℕ). not (eqb z 0)) (ap (bit_and x) (one_shl i h) ∙ and_bit x i) ∙ go (bit_at x i) (bit_lt x i)
  where
    go : (b : ℕ) → b < 2 → not (eqb (b * 2 ^ i) 0) ≡ eqb b 1
    go zero l = ap (λ (z : ℕ). not (eqb z 0)) (zero-mul (2 ^ i))
    go (suc zero) l = ap not (ne_eqb (1 * 2 ^ i) 0 (λ e. let z : ⊥ = omega (arith, pow_pos i) in z))
    go (suc (suc b)) l = absurd (let z : ⊥ = omega arith in z)

-- A set bit is set.
pub bit_set_same : (x i : ℕ) → bit_at (set_bit x i) i ≡ 1
bit_set_same x i = ap (λ (z : ℕ). bit_at z i) (sym (set_or x i)) ∙ bit_or_lem x (2 ^ i) i ∙ omega (arith, bit_pow_same i, bit_lt x i)

-- The other bits stay where one is set.
pub bit_set_other : (x i j : ℕ) → (j ≡ i → ⊥) → bit_at (set_bit x i) j ≡ bit_at x j
bit_set_other x i j h = ap (λ (z : ℕ). bit_at z j) (sym (set_or x i)) ∙ bit_or_lem x (2 ^ i) j ∙ omega (arith, bit_pow_other i j h)

-- A word with one of its bits set is a word.
pub set_lt : (x i : ℕ) → x < 2 ^ 64 → i < 64 → set_bit x i < 2 ^ 64
set_lt x i hx h = subst (λ (z : ℕ). z < 2 ^ 64) (set_or x i) (or_lt 64 x (2 ^ i) hx (pow-lt h))

-- A cleared bit is clear.
pub bit_clear_same : (x i : ℕ) → x < 2 ^ 64 → i < 64 → bit_at (clear_bit x i) i ≡ 0
bit_clear_same x i hx h =
    ap (λ (z : ℕ). bit_at z i) (sym (clear_and x i hx h)) ∙ bit_and_lem x (2 ^ 64 - 1 - 2 ^ i) i
    ∙ ap (min (bit_at x i)) (bit_not 64 (2 ^ i) i (pow-lt h) h ∙ ap (λ (z : ℕ). 1 - z) (bit_pow_same i)) ∙ min-zero (bit_at x i)

-- The other bits stay where one is cleared.
pub bit_clear_other : (x i j : ℕ) → x < 2 ^ 64 → i < 64 → j < 64 → (j ≡ i → ⊥) → bit_at (clear_bit x i) j ≡ bit_at x j
bit_clear_other x i j hx h hj n =
    ap (λ (z : ℕ). bit_at z j) (sym (clear_and x i hx h)) ∙ bit_and_lem x (2 ^ 64 - 1 - 2 ^ i) j
    ∙ ap (min (bit_at x j)) (bit_not 64 (2 ^ i) j (pow-lt h) hj ∙ ap (λ (z : ℕ). 1 - z) (bit_pow_other i j n)) ∙ one (bit_at x j) (bit_lt x j)
  where
    one : (b : ℕ) → b < 2 → min b 1 ≡ b
    one b l = omega arith

-- A word with one of its bits clear is a word.
pub clear_lt : (x i : ℕ) → x < 2 ^ 64 → clear_bit x i < 2 ^ 64
clear_lt x i hx = lt_of_le_of_lt (sub-le x (bit_at x i * 2 ^ i)) hx

-- ---- the lowest set bit

-- One digit of `trailing_below`.
below_digit : (b t y i : ℕ) → y % 2 ≡ b → i < under b t → ((j : ℕ) → j < t → bit_at (y / 2) j ≡ 0) → bit_at y i ≡ 0
below_digit zero t y zero e h ih = bit_first y ∙ e
below_digit zero t y (suc i) e h ih = bit_next y i ∙ ih i (omega arith)
below_digit (suc b) t y i e h ih = absurd (let z : ⊥ = omega arith in z)

-- One digit of `trailing_at`.
at_digit : (b t d y : ℕ) → y % 2 ≡ b → 0 < y → (0 < y / 2 → (t < d) × (bit_at (y / 2) t ≡ 1)) → (under b t < suc d) × (bit_at y (under b t) ≡ 1)
at_digit zero t d y e p ih = let k = ih (omega arith) in (omega (arith, k.0), bit_next y t ∙ k.1)
at_digit (suc b) t d y e p ih = (omega arith, bit_first y ∙ omega arith)

-- The bits below the lowest set one are clear.
pub trailing_below : (d y i : ℕ) → i < count_trailing_zeros d y → bit_at y i ≡ 0
unfolding count_trailing_zeros
trailing_below zero y i h = absurd (let z : ⊥ = omega arith in z)
trailing_below (suc d) y i h = below_digit (y % 2) (count_trailing_zeros d (y / 2)) y i refl h (trailing_below d (y / 2))

-- The lowest set bit of a word that is not 0 is set.
pub trailing_at : (d y : ℕ) → 0 < y → y < 2 ^ d → (count_trailing_zeros d y < d) × (bit_at y (count_trailing_zeros d y) ≡ 1)
unfolding count_trailing_zeros
trailing_at zero y p h = absurd (let z : ⊥ = omega arith in z)
trailing_at (suc d) y p h = at_digit (y % 2) (count_trailing_zeros d (y / 2)) d y refl p (λ q. trailing_at d (y / 2) q (omega (arith, pow-suc 2 d)))

-- ---- bits as tests and as terms of a sum

-- A bit that is set is 1.
pub set_one : (x i : ℕ) → is_set x i ≡ true → bit_at x i ≡ 1
set_one x i e = eqb-true (bit_at x i) 1 e

-- A bit that is not set is 0.
pub set_none : (x i : ℕ) → is_set x i ≡ false → bit_at x i ≡ 0
set_none x i e = go (bit_at x i) (bit_lt x i) e
  where
    go : (b : ℕ) → b < 2 → eqb b 1 ≡ false → b ≡ 0
    go zero l e = refl
    go (suc zero) l e = absurd (true≢false e)
    go (suc (suc b)) l e = absurd (let z : ⊥ = omega arith in z)

-- A bit is the number of its test.
pub bit_cond : (x i : ℕ) → cond (is_set x i) 1 0 ≡ bit_at x i
bit_cond x i = go (bit_at x i) (bit_lt x i)
  where
    go : (b : ℕ) → b < 2 → cond (eqb b 1) 1 0 ≡ b
    go zero l = refl
    go (suc zero) l = refl
    go (suc (suc b)) l = absurd (let z : ⊥ = omega arith in z)

-- How many of d digits are set is the sum of d bits.
pub ones_sum : (d x : ℕ) → sum d (bit_at x) ≡ ones_in d x
unfolding sum ones_in
ones_sum zero x = refl
ones_sum (suc d) x =
    ap (λ (z : ℕ). sum z (bit_at x)) (sym (one-add d)) ∙ sum_split 1 d (bit_at x)
    ∙ ap₂ ◌+◌ (zero-add (bit_at x 0) ∙ bit_first x)
    (sum_same d (λ i. bit_at x (1 + i)) (bit_at (x / 2)) (λ i h. sym (bit_shr x 1 i)) ∙ ones_sum d (x / 2))

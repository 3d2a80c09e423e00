-- Rotations of a word: what std's rotations compute, and where each bit goes. Assumes nothing.
use mathlib.Core.Path.{◌≡◌, sym, ap, ap₂, subst, ◌∙◌}
use mathlib.Core.Logic.{◌⊎◌, inl, inr}
use Prim.Native.Nat.{ℕ, zero, suc, ◌+◌, ◌-◌, ◌*◌, ◌/◌, ◌%◌, ◌^◌, ◌≤◌, ◌<◌}
use native.Mathlib.Nat.{mod-one, div-one, mod-lt, mod-eq_of_lt, div-eq_of_lt, eq-zero-or-pos, le-mul_of_pos_right}
use native.Mathlib.Omega.{arith}
use lib.Arith.{digits_lt}
use lib.Pow.{pow_pos, pow-add, split, shr_lt}
use lib.Bits.{bit_or, or_shifted, or_shifted_r, or_self}
use lib.Count.{ones, ones_cat}
use Rattle.std.specs.Int.{w64, rotate_right, rotate_left}
use Rattle.laws.specs.Word.{bit_at}
use Rattle.laws.proofs.WordLaws.{shl_mod}
use Rattle.laws.proofs.BitLaws.{lt_or_le, bit_shr, bit_cat_low, bit_cat_high, bit_mod}
use Rattle.bits.specs.Rotated.{rotated_right, rotated_left}

-- The 64 - k high bits of a word.
low_end : (x k : ℕ) → x < 2 ^ 64 → k < 64 → x / 2 ^ k < 2 ^ (64 - k)
low_end x k hx h = shr_lt (64 - k) k (subst (λ (z : ℕ). x < 2 ^ z) (let f : 64 ≡ 64 - k + k = omega arith in f) hx)

-- The k high bits of a word.
high_end : (x k : ℕ) → x < 2 ^ 64 → k < 64 → x / 2 ^ (64 - k) < 2 ^ k
high_end x k hx h = shr_lt k (64 - k) (subst (λ (z : ℕ). x < 2 ^ z) (let f : 64 ≡ k + (64 - k) = omega arith in f) hx)

-- `(x >> k) | (x << (64 - k))`.
right_is : (x k : ℕ) → x < 2 ^ 64 → k < 64 → bit_or (x / 2 ^ k) ((x * 2 ^ (64 - k)) % 2 ^ 64) ≡ rotated_right x k
right_is x k hx h =
    let e : k + (64 - k) ≡ 64 = omega arith in
    ap (bit_or (x / 2 ^ k)) (ap (λ (z : ℕ). (x * 2 ^ (64 - k)) % 2 ^ z) (sym e) ∙ shl_mod x (64 - k) k)
    ∙ or_shifted_r (x % 2 ^ k) (64 - k) (x / 2 ^ k) (low_end x k hx h)

-- `(x << k) | (x >> (64 - k))`.
left_is : (x k : ℕ) → x < 2 ^ 64 → k < 64 → bit_or ((x * 2 ^ k) % 2 ^ 64) (x / 2 ^ (64 - k)) ≡ rotated_left x k
left_is x k hx h =
    let e : 64 - k + k ≡ 64 = omega arith in
    ap (λ (z : ℕ). bit_or z (x / 2 ^ (64 - k))) (ap (λ (z : ℕ). (x * 2 ^ k) % 2 ^ z) (sym e) ∙ shl_mod x k (64 - k))
    ∙ or_shifted (x % 2 ^ (64 - k)) k (x / 2 ^ (64 - k)) (high_end x k hx h)

-- No places to the right.
right_none : (x : ℕ) → rotated_right x 0 ≡ x
right_none x = omega (arith, mod-one x, div-one x)

-- No places to the left.
left_none : (x : ℕ) → x < 2 ^ 64 → rotated_left x 0 ≡ x
left_none x hx = ap₂ (λ (a b : ℕ). a * 1 + b) (mod-eq_of_lt hx) (div-eq_of_lt hx) ∙ omega arith

-- `x.rotate_right(k)`.
pub turned_right : (x k : ℕ) → x < 2 ^ 64 → k < 64 → rotate_right w64 x k ≡ rotated_right x k
turned_right x zero hx h = ap₂ bit_or (div-one x) (let e : (x * 1) % 2 ^ 64 ≡ x = omega arith in e) ∙ or_self x ∙ sym (right_none x)
turned_right x (suc k) hx h =
    let e : suc k % 64 ≡ suc k = omega arith in
    let f : (64 - suc k % 64) % 64 ≡ 64 - suc k = omega arith in
    ap₂ (λ (a b : ℕ). bit_or (x / 2 ^ a) ((x * 2 ^ b) % 2 ^ 64)) e f ∙ right_is x (suc k) hx h

-- `x.rotate_left(k)`.
pub turned_left : (x k : ℕ) → x < 2 ^ 64 → k < 64 → rotate_left w64 x k ≡ rotated_left x k
turned_left x zero hx h = ap₂ bit_or (let e : (x * 1) % 2 ^ 64 ≡ x = omega arith in e) (div-one x) ∙ or_self x ∙ sym (left_none x hx)
turned_left x (suc k) hx h =
    let e : suc k % 64 ≡ suc k = omega arith in
    let f : (64 - suc k % 64) % 64 ≡ 64 - suc k = omega arith in
    ap₂ (λ (a b : ℕ). bit_or ((x * 2 ^ a) % 2 ^ 64) (x / 2 ^ b)) e f ∙ left_is x (suc k) hx h

-- Bit i of x turned to the right by k is bit (i + k) mod 64 of x.
pub bit_right : (x k i : ℕ) → x < 2 ^ 64 → k < 64 → i < 64 → bit_at (rotated_right x k) i ≡ bit_at x ((i + k) % 64)
bit_right x k i hx hk hi = go (lt_or_le i (64 - k))
  where
    go : (i < 64 - k) ⊎ (64 - k ≤ i) → bit_at (rotated_right x k) i ≡ bit_at x ((i + k) % 64)
    go (inl h) =
        bit_cat_low (x % 2 ^ k) (64 - k) (x / 2 ^ k) i h ∙ bit_shr x k i
        ∙ ap (bit_at x) (let e : k + i ≡ (i + k) % 64 = omega arith in e)
    go (inr h) =
        ap (bit_at (rotated_right x k)) (let e : i ≡ (64 - k) + (i - (64 - k)) = omega arith in e)
        ∙ bit_cat_high (x % 2 ^ k) (64 - k) (x / 2 ^ k) (i - (64 - k)) (low_end x k hx hk)
        ∙ bit_mod x k (i - (64 - k)) (omega arith)
        ∙ ap (bit_at x) (let e : i - (64 - k) ≡ (i + k) % 64 = omega arith in e)

-- Bit i of x turned to the left by k is bit (i - k) mod 64 of x.
pub bit_left : (x k i : ℕ) → x < 2 ^ 64 → k < 64 → i < 64 → bit_at (rotated_left x k) i ≡ bit_at x ((i + (64 - k)) % 64)
bit_left x k i hx hk hi = go (lt_or_le i k)
  where
    go : (i < k) ⊎ (k ≤ i) → bit_at (rotated_left x k) i ≡ bit_at x ((i + (64 - k)) % 64)
    go (inl h) =
        bit_cat_low (x % 2 ^ (64 - k)) k (x / 2 ^ (64 - k)) i h ∙ bit_shr x (64 - k) i
        ∙ ap (bit_at x) (let e : (64 - k) + i ≡ (i + (64 - k)) % 64 = omega arith in e)
    go (inr h) =
        ap (bit_at (rotated_left x k)) (let e : i ≡ k + (i - k) = omega arith in e)
        ∙ bit_cat_high (x % 2 ^ (64 - k)) k (x / 2 ^ (64 - k)) (i - k) (high_end x k hx hk)
        ∙ bit_mod x (64 - k) (i - k) (omega arith)
        ∙ ap (bit_at x) (let e : i - k ≡ (i + (64 - k)) % 64 = omega arith in e)

-- Turned to the left a word is a word.
pub left_lt : (x k : ℕ) → x < 2 ^ 64 → k < 64 → rotated_left x k < 2 ^ 64
left_lt x k hx hk =
    subst (λ (z : ℕ). rotated_left x k < z) (sym (pow-add 2 (64 - k) k) ∙ ap (λ (z : ℕ). 2 ^ z) (let e : 64 - k + k ≡ 64 = omega arith in e))
    (digits_lt (mod-lt x (pow_pos (64 - k))) (high_end x k hx hk))

-- A word that is not 0 is not 0 when it is turned.
pub right_some : (x k : ℕ) → 0 < x → 0 < rotated_right x k
right_some x k h = go (eq-zero-or-pos (x / 2 ^ k))
  where
    go : (x / 2 ^ k ≡ 0) ⊎ (0 < x / 2 ^ k) → 0 < rotated_right x k
    go (inl e) = omega (arith, split x k, ap (λ (z : ℕ). z * 2 ^ k) e, le-mul_of_pos_right (x % 2 ^ k) (pow_pos (64 - k)))
    go (inr l) = omega arith

-- Turned to the right a word is a word.
pub right_lt : (x k : ℕ) → x < 2 ^ 64 → k < 64 → rotated_right x k < 2 ^ 64
right_lt x k hx hk =
    subst (λ (z : ℕ). rotated_right x k < z) (sym (pow-add 2 k (64 - k)) ∙ ap (λ (z : ℕ). 2 ^ z) (let e : k + (64 - k) ≡ 64 = omega arith in e))
    (digits_lt (mod-lt x (pow_pos k)) (low_end x k hx hk))

-- Turned to the right a word has as many set bits.
pub right_ones : (x k : ℕ) → x < 2 ^ 64 → k < 64 → ones (rotated_right x k) ≡ ones x
right_ones x k hx hk =
    omega (
      arith,
      ones_cat (64 - k) (x % 2 ^ k) (x / 2 ^ k) (low_end x k hx hk),
      ones_cat k (x / 2 ^ k) (x % 2 ^ k) (mod-lt x (pow_pos k)),
      ap ones (split x k),
    )

-- Turned to the left a word has as many set bits.
pub left_ones : (x k : ℕ) → x < 2 ^ 64 → k < 64 → ones (rotated_left x k) ≡ ones x
left_ones x k hx hk =
    omega (
      arith,
      ones_cat k (x % 2 ^ (64 - k)) (x / 2 ^ (64 - k)) (high_end x k hx hk),
      ones_cat (64 - k) (x / 2 ^ (64 - k)) (x % 2 ^ (64 - k)) (mod-lt x (pow_pos (64 - k))),
      ap ones (split x (64 - k)),
    )

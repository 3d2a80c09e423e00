-- The first m clear bits of a word, cyclically: the scan is the code's rotation, deposit and rotation back; which bits they are, and how many.
-- Assumes nothing.
use mathlib.Core.Path.{◌≡◌, refl, sym, ap, ap₂, subst, ◌∙◌}
use mathlib.Core.Logic.{⊎_elim}
use Prim.Native.Nat.{ℕ, zero, suc, ◌+◌, ◌-◌, ◌*◌, ◌/◌, ◌%◌, ◌^◌, ◌≤◌, ◌<◌, min}
use native.Mathlib.Nat.{mul-one, zero-add, sub-zero, add-zero, zero-mul, add-mul, mul_assoc, mul_comm, pow-suc, mod-lt, suc-add, div-one, div-eq_of_lt, le_trans, le_of_eq}
use native.Mathlib.Omega.{arith}
use native.Mathlib.Numerals.{add-one}
use lib.Dec.{lit<, leb}
use lib.Pow.{pow_pos, split, ones_sub-lt, shr-shr, shr_lt, high, low}
use lib.Count.{ones, ones_step}
use borrow.Author.Tests.{leb-true}
use Rattle.laws.specs.Word.{all_ones, bit_at, popcount}
use Rattle.laws.proofs.CondLaws.{cond_both}
use Rattle.laws.proofs.WordLaws.{ones_in_lem}
use Rattle.laws.proofs.BitLaws.{lt_or_le, bit_lt, bit_not, bit_past}
use Rattle.laws.proofs.MaskLaws.{Apart}
use Rattle.bits.specs.Deposit.{low_digit, lowest}
use Rattle.bits.specs.Rotated.{rotated_right, rotated_left}
use Rattle.bits.proofs.RotationLaws.{bit_right, bit_left, left_lt, right_lt, left_ones, right_ones}
use Rattle.bits.proofs.DepositLaws.{low_cat, low_lt, low_bit, low_ones}
use Rattle.occupancy.specs.Occupied.{free_bit, first_free, window_of}

-- None wanted.
free_none : (d i w : ℕ) → first_free d 0 i w ≡ 0
unfolding first_free
free_none zero i w = refl
free_none (suc d) i w = digit (bit_at w (i % 64)) (i % 64) (λ m. first_free d m (suc i) w) (free_none d (suc i) w)
  where
    digit : (b at : ℕ) (after : ℕ → ℕ) → after 0 ≡ 0 → free_bit b 0 at after ≡ 0
    digit zero at after e = refl
    digit (suc b) at after e = e

-- One digit of `run`.
run_digit : (b n i : ℕ) (after above : ℕ → ℕ) → b < 2 → ((m : ℕ) → after m ≡ above m * (2 ^ i * 2))
    → free_bit b n i after ≡ low_digit (1 - b) n above * 2 ^ i
run_digit zero zero i after above h e = sym (zero-mul (2 ^ i))
run_digit zero (suc n) i after above h e =
    omega (arith, e n, mul_assoc (above n) 2 (2 ^ i), ap (λ (z : ℕ). above n * z) (mul_comm (2 ^ i) 2), add-mul (above n * 2) 1 (2 ^ i))
run_digit (suc zero) n i after above h e = omega (arith, e n, mul_assoc (above n) 2 (2 ^ i), ap (λ (z : ℕ). above n * z) (mul_comm (2 ^ i) 2))
run_digit (suc (suc b)) n i after above h e = absurd (let z : ⊥ = omega arith in z)

-- A word without its i + 1 low bits.
half_next : (x i : ℕ) → x / 2 ^ i / 2 ≡ x / 2 ^ suc i
half_next x i = shr-shr x i 1 ∙ ap (λ (z : ℕ). x / 2 ^ z) (add-one i)

-- A run of bits that does not pass the end is the lowest set bits of the complement.
run : (d n i w : ℕ) → w < 2 ^ 64 → i + d ≤ 64 → first_free d n i w ≡ lowest d n ((2 ^ 64 - 1 - w) / 2 ^ i) * 2 ^ i
unfolding first_free lowest
run zero n i w hw h = sym (zero-mul (2 ^ i))
run (suc d) n i w hw h =
    let x : ℕ = 2 ^ 64 - 1 - w in
    let e : i % 64 ≡ i = omega arith in
    ap (λ (z : ℕ). free_bit (bit_at w z) n z (λ m. first_free d m (suc i) w)) e
    ∙ run_digit (bit_at w i) n i (λ m. first_free d m (suc i) w) (λ m. lowest d m (x / 2 ^ i / 2)) (bit_lt w i)
    (λ m. run d m (suc i) w hw (omega arith) ∙ ap₂ (λ (y p : ℕ). lowest d m y * p) (sym (half_next x i)) (pow-suc 2 i))
    ∙ ap (λ (b : ℕ). low_digit b n (λ m. lowest d m (x / 2 ^ i / 2)) * 2 ^ i) (sym (bit_not 64 w i hw (omega arith)))

-- The clear bits among d, cyclically from i on.
unfoldable free_in : ℕ → ℕ → ℕ → ℕ
free_in zero i w = 0
free_in (suc d) i w = (1 - bit_at w (i % 64)) + free_in d (suc i) w

-- One digit of `two`.
two_digit : (b n f at : ℕ) (r before after : ℕ → ℕ) → b < 2 → after 0 ≡ 0 → ((m : ℕ) → r m ≡ before m + after (m - f))
    → free_bit b n at r ≡ free_bit b n at before + after (n - ((1 - b) + f))
two_digit zero zero f at r before after h z e = omega (arith, ap after (let q : 0 - (1 + f) ≡ 0 = omega arith in q))
two_digit zero (suc n) f at r before after h z e = omega (arith, e n, ap after (let q : suc n - (1 + f) ≡ n - f = omega arith in q))
two_digit (suc zero) n f at r before after h z e = omega (arith, e n, ap after (let q : n - (0 + f) ≡ n - f = omega arith in q))
two_digit (suc (suc b)) n f at r before after h z e = absurd (let q : ⊥ = omega arith in q)

-- Two runs, one after the other.
two : (d e n i w : ℕ) → first_free (d + e) n i w ≡ first_free d n i w + first_free e (n - free_in d i w) (i + d) w
unfolding first_free free_in
two zero e n i w =
    ap (λ (z : ℕ). first_free z n i w) (zero-add e) ∙ ap₂ (λ (m j : ℕ). first_free e m j w) (sym (sub-zero n)) (sym (add-zero i))
    ∙ sym (zero-add (first_free e (n - 0) (i + 0) w))
two (suc d) e n i w =
    ap (λ (z : ℕ). first_free z n i w) (suc-add d e)
    ∙ two_digit (bit_at w (i % 64)) n (free_in d (suc i) w) (i % 64) (λ m. first_free (d + e) m (suc i) w) (λ m. first_free d m (suc i) w)
    (λ m. first_free e m (suc i + d) w)
    (bit_lt w (i % 64)) (free_none e (suc i + d) w) (λ m. two d e m (suc i) w)
    ∙ ap (λ (z : ℕ). free_bit (bit_at w (i % 64)) n (i % 64) (λ m. first_free d m (suc i) w) + first_free e (n - (1 - bit_at w (i % 64) + free_in d (suc i) w)) z w)
    (let q : suc i + d ≡ i + suc d = omega arith in q)

-- The clear bits from i to the end.
free_ones : (d i w : ℕ) → w < 2 ^ 64 → i + d ≡ 64 → free_in d i w ≡ ones ((2 ^ 64 - 1 - w) / 2 ^ i)
unfolding free_in ones
free_ones zero i w hw h =
    let x : ℕ = 2 ^ 64 - 1 - w in
    sym (ap (λ (z : ℕ). ones (x / 2 ^ z)) (let q : i ≡ 64 = omega arith in q) ∙ ap ones (div-eq_of_lt (ones_sub-lt 64 w)))
free_ones (suc d) i w hw h =
    let x : ℕ = 2 ^ 64 - 1 - w in
    ap₂ ◌+◌
    (ap (λ (z : ℕ). 1 - bit_at w z) (let q : i % 64 ≡ i = omega arith in q) ∙ sym (bit_not 64 w i hw (omega arith)))
    (free_ones d (suc i) w hw (omega arith) ∙ ap ones (sym (half_next x i)))
    ∙ sym (ones_step (x / 2 ^ i))

-- Past the end it goes on at the start.
again : (d n i w : ℕ) → first_free d n (i + 64) w ≡ first_free d n i w
unfolding first_free
again zero n i w = refl
again (suc d) n i w =
    let e : (i + 64) % 64 ≡ i % 64 = omega arith in
    let f : suc (i + 64) ≡ suc i + 64 = omega arith in
    λ t. free_bit (bit_at w (e t)) n (e t) (λ m. (ap (λ (z : ℕ). first_free d m z w) f ∙ again d m (suc i) w) t)

-- The lowest set bits of j digits, whatever stands above.
low_part : (j n x : ℕ) → lowest j n (x % 2 ^ j) ≡ lowest j n x
unfolding lowest
low_part j n x =
    sym (ap₂ (λ (d y : ℕ). lowest d n y) (sym (add-zero j)) (sym (split x j))
    ∙ low_cat j 0 n (x / 2 ^ j) (x % 2 ^ j) (mod-lt x (pow_pos j)) ∙ omega (arith, zero-mul (2 ^ j)))

-- The code's rotation, deposit and rotation back.
pub window_is : (w n j : ℕ) → w < 2 ^ 64 → j < 64 → rotated_left (lowest 64 n (rotated_right (2 ^ 64 - 1 - w) j)) j ≡ first_free 64 n j w
window_is w n j hw hj =
    let x : ℕ = 2 ^ 64 - 1 - w in
    let k : ℕ = 64 - j in
    let hi : ℕ = x / 2 ^ j in
    let lo : ℕ = x % 2 ^ j in
    let m : ℕ = n - ones hi in
    let l : ℕ = lowest k n hi in
    let e : 64 ≡ k + j = omega arith in
    let hl : hi < 2 ^ k = shr_lt k j (subst (λ (z : ℕ). x < 2 ^ z) e (ones_sub-lt 64 w)) in
    ap (λ (z : ℕ). rotated_left z j) (ap (λ (z : ℕ). lowest z n (rotated_right x j)) e ∙ low_cat k j n lo hi hl)
    ∙ ap₂ (λ (a b : ℕ). a * 2 ^ j + b) (low (lowest j m lo) k (low_lt k n hi)) (high (lowest j m lo) k (low_lt k n hi))
    ∙ sym (ap (λ (z : ℕ). first_free z n j w) e ∙ two k j n j w
    ∙ ap₂ ◌+◌ (run k n j w hw (omega arith))
    (ap₂ (λ (f i : ℕ). first_free j (n - f) i w) (free_ones k j w hw (omega arith)) (let q : j + k ≡ 0 + 64 = omega arith in q)
    ∙ again j m 0 w ∙ run j m 0 w hw (omega arith) ∙ ap (λ (z : ℕ). lowest j m z * 1) (div-one x) ∙ mul-one (lowest j m x) ∙ sym (low_part j m x)))

-- ---- what a window takes

-- A window is a word.
pub window_lt : (w m j : ℕ) → w < 2 ^ 64 → j < 64 → window_of w m j < 2 ^ 64
unfolding window_of
window_lt w m j hw hj =
    let x : ℕ = all_ones - w in
    cond_both (λ z. z < 2 ^ 64) (leb (popcount x) m) x (first_free 64 m j w) (λ e. ones_sub-lt 64 w)
    (λ e. subst (λ (z : ℕ). z < 2 ^ 64) (window_is w m j hw hj) (left_lt (lowest 64 m (rotated_right x j)) j (low_lt 64 m (rotated_right x j)) hj))

-- Its bits are clear in the word.
window_free : (w m j : ℕ) → w < 2 ^ 64 → j < 64 → (i : ℕ) → i < 64 → bit_at (window_of w m j) i ≤ 1 - bit_at w i
unfolding window_of
window_free w m j hw hj i hi =
    let x : ℕ = all_ones - w in
    let y : ℕ = rotated_right x j in
    let l : ℕ = lowest 64 m y in
    let k : ℕ = (i + (64 - j)) % 64 in
    cond_both (λ z. bit_at z i ≤ 1 - bit_at w i) (leb (popcount x) m) x (first_free 64 m j w) (λ e. le_of_eq (bit_not 64 w i hw hi))
    (λ e. le_trans (le_of_eq (ap (λ (z : ℕ). bit_at z i) (sym (window_is w m j hw hj)) ∙ bit_left l j i (low_lt 64 m y) hj hi))
    (le_trans (low_bit 64 m y k)
    (le_of_eq (bit_right x j k (ones_sub-lt 64 w) hj (mod-lt (i + (64 - j)) (lit< tt))
    ∙ ap (bit_at x) (let q : ((i + (64 - j)) % 64 + j) % 64 ≡ i = omega arith in q) ∙ bit_not 64 w i hw hi))))

-- The word and its window share no bit.
pub window_apart : (w m j : ℕ) → w < 2 ^ 64 → j < 64 → Apart w (window_of w m j)
window_apart w m j hw hj =
    record {
      bits =
          λ i.
          ⊎_elim
          (λ h. omega (arith, window_free w m j hw hj i h, bit_lt w i))
          (λ h. omega (arith, bit_past 64 w i hw h, bit_past 64 (window_of w m j) i (window_lt w m j hw hj) h))
          (lt_or_le i 64);
    }

-- It takes m bits, or all that are clear.
pub window_ones : (w m j : ℕ) → w < 2 ^ 64 → j < 64 → popcount (window_of w m j) ≡ min m (popcount (all_ones - w))
unfolding window_of
window_ones w m j hw hj =
    let x : ℕ = all_ones - w in
    let y : ℕ = rotated_right x j in
    let l : ℕ = lowest 64 m y in
    let hx : x < 2 ^ 64 = ones_sub-lt 64 w in
    let hl : l < 2 ^ 64 = low_lt 64 m y in
    cond_both (λ z. popcount z ≡ min m (popcount x)) (leb (popcount x) m) x (first_free 64 m j w)
    (λ e. all (popcount x) m (leb-true (popcount x) m e))
    (λ e.
    ap popcount (sym (window_is w m j hw hj)) ∙ sym (ones_in_lem 64 (rotated_left l j) (left_lt l j hl hj)) ∙ left_ones l j hl hj ∙ ones_in_lem 64 l hl
    ∙ low_ones 64 m y ∙ ap (min m) (sym (ones_in_lem 64 y (right_lt x j hx hj)) ∙ right_ones x j hx hj ∙ ones_in_lem 64 x hx))
  where
    all : (c m : ℕ) → c ≤ m → c ≡ min m c
    all c m h = omega arith

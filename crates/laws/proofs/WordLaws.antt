-- Words digit by digit: a number is q * 2 or q * 2 + 1, and each operation and each count goes so. Assumes nothing.
use mathlib.Core.Path.{◌≡◌, refl, sym, ap, ap₂, subst, ◌∙◌}
use Prim.Native.Nat.{ℕ, zero, suc, ◌+◌, ◌-◌, ◌*◌, ◌/◌, ◌%◌, ◌^◌, ◌≤◌, ◌<◌, min}
use native.Mathlib.Nat.{mul-mod_left, div-add-mod', pow-suc, mod-lt, add-zero}
use native.Mathlib.Omega.{arith}
use native.Mathlib.Numerals.{add-one}
use lib.Dec.{lit<}
use lib.Pow.{pow_pos, split, mod-pow-add, shl-shr}
use lib.Bits.{bit_and, and_block, and_self, and_mask, and_zero_r, and_step}
use lib.Count.{ones, ones_in, ones_step}

-- A number by its lowest digit.
pub data Digit : ℕ → Type 0 where
  even : (q : ℕ) → Digit (q * 2)
  odd : (q : ℕ) → Digit (q * 2 + 1)

-- The lowest digit of the next number.
next : {x : ℕ} → Digit x → Digit (suc x)
next (even q) = subst Digit (add-one (q * 2)) (odd q)
next (odd q) = subst Digit (let e : suc q * 2 ≡ suc (q * 2 + 1) = omega arith in e) (even (suc q))

-- Every number has a lowest digit.
pub digit : (x : ℕ) → Digit x
digit zero = even 0
digit (suc x) = next (digit x)

-- An odd number without its lowest digit.
pub half_odd : (q : ℕ) → (q * 2 + 1) / 2 ≡ q
half_odd q = omega arith

-- An even number without its lowest digit.
pub half_even : (q : ℕ) → q * 2 / 2 ≡ q
half_even q = omega arith

-- The lowest digit of an odd number.
pub mod_odd : (q : ℕ) → (q * 2 + 1) % 2 ≡ 1
mod_odd q = omega arith

-- The lowest digit of an even number.
pub mod_even : (q : ℕ) → q * 2 % 2 ≡ 0
mod_even q = omega arith

-- Without its lowest digit a number has one digit less.
pub half_lt : (d x q : ℕ) → q * 2 ≤ x → x < 2 ^ suc d → q < 2 ^ d
half_lt d x q h l = omega (arith, pow-suc 2 d)

-- `x & (x - 1)` clears the lowest digit of an odd x.
pub dec_odd : (q : ℕ) → bit_and (q * 2 + 1) (q * 2 + 1 - 1) ≡ q * 2
dec_odd q =
    ap (bit_and (q * 2 + 1)) (let e : q * 2 + 1 - 1 ≡ q * 2 + 0 = omega arith in e)
    ∙ and_block 1 q q 1 0 (lit< tt) (lit< tt) ∙ omega (arith, and_self q)

-- `x & (x - 1)` of an even x is that of its half.
pub dec_even : (q : ℕ) → 0 < q → bit_and (q * 2) (q * 2 - 1) ≡ bit_and q (q - 1) * 2
dec_even q h =
    ap₂ bit_and (let e : q * 2 ≡ q * 2 + 0 = omega arith in e) (let e : q * 2 - 1 ≡ (q - 1) * 2 + 1 = omega arith in e)
    ∙ and_block 1 q (q - 1) 0 1 (lit< tt) (lit< tt) ∙ omega arith

-- One digit of `x & !y` and one of `x & y` make that of x.
join_not : (r s q a b : ℕ) → r + s ≡ q → a < 2 → b < 2 → (r * 2 + min a (1 - b)) + (s * 2 + min a b) ≡ q * 2 + a
join_not r s q a b e ha hb = omega arith

-- `x & !y` is x without what it has in common with y, at d digits.
pub and_not : (d x y : ℕ) → x < 2 ^ d → y < 2 ^ d → bit_and x ((2 ^ d - 1) - y) + bit_and x y ≡ x
and_not zero x y hx hy =
    let e : x ≡ 0 = omega arith in
    ap₂ (λ (a b : ℕ). bit_and a (0 - y) + bit_and b y) e e ∙ sym e
and_not (suc d) x y hx hy =
    let e : ((2 ^ suc d - 1) - y) / 2 ≡ (2 ^ d - 1) - y / 2 = omega (arith, pow-suc 2 d) in
    let hx' : x / 2 < 2 ^ d = omega (arith, pow-suc 2 d) in
    let hy' : y / 2 < 2 ^ d = omega (arith, pow-suc 2 d) in
    let f : ((2 ^ suc d - 1) - y) % 2 ≡ 1 - y % 2 = omega (arith, pow-suc 2 d) in
    ap₂ ◌+◌
    (and_step x ((2 ^ suc d - 1) - y) ∙ ap₂ (λ (a b : ℕ). bit_and (x / 2) a * 2 + min (x % 2) b) e f)
    (and_step x y)
    ∙ join_not (bit_and (x / 2) ((2 ^ d - 1) - y / 2)) (bit_and (x / 2) (y / 2)) (x / 2) (x % 2) (y % 2) (and_not d (x / 2) (y / 2) hx' hy')
    (mod-lt x (lit< tt)) (mod-lt y (lit< tt))
    ∙ div-add-mod' x 2

-- One bit of x, where it stands.
pub and_bit : (x i : ℕ) → bit_and x (2 ^ i) ≡ x / 2 ^ i % 2 * 2 ^ i
and_bit x i =
    ap₂ bit_and (sym (split x i)) (let e : 2 ^ i ≡ 1 * 2 ^ i + 0 = omega arith in e)
    ∙ and_block i (x / 2 ^ i) 1 (x % 2 ^ i) 0 (mod-lt x (pow_pos i)) (pow_pos i)
    ∙ ap₂ (λ (a b : ℕ). a * 2 ^ i + b) (and_mask (x / 2 ^ i) 1) (and_zero_r (x % 2 ^ i))
    ∙ add-zero (x / 2 ^ i % 2 * 2 ^ i)

-- What a shift to the left keeps.
pub shl_mod : (x j k : ℕ) → (x * 2 ^ j) % 2 ^ (k + j) ≡ x % 2 ^ k * 2 ^ j
shl_mod x j k =
    mod-pow-add (x * 2 ^ j) k j
    ∙ ap₂ (λ (a b : ℕ). a % 2 ^ k * 2 ^ j + b) (shl-shr x j) (mul-mod_left x (2 ^ j))
    ∙ add-zero (x % 2 ^ k * 2 ^ j)

-- ---- how many bits are set

-- d digits are enough to look at in a number below 2 ^ d: the machine's count is `popcount`.
pub ones_in_lem : (d x : ℕ) → x < 2 ^ d → ones x ≡ ones_in d x
unfolding ones_in ones
ones_in_lem zero x h = ap ones (let e : x ≡ 0 = omega arith in e)
ones_in_lem (suc d) x h = ones_step x ∙ ap (λ (z : ℕ). x % 2 + z) (ones_in_lem d (x / 2) (half_lt d x (x / 2) (omega arith) h))

-- At most d of d digits are set.
pub ones_most : (d x : ℕ) → ones_in d x ≤ d
unfolding ones_in
ones_most zero x = omega arith
ones_most (suc d) x = omega (arith, ones_most d (x / 2))

-- No digit of 0 is set.
pub ones_none : (d : ℕ) → ones_in d 0 ≡ 0
unfolding ones_in
ones_none zero = refl
ones_none (suc d) = omega (arith, ones_none d)

-- One digit of 2 ^ i is set.
pub ones_pow : (d i : ℕ) → i < d → ones_in d (2 ^ i) ≡ 1
unfolding ones_in
ones_pow zero i h = absurd (let z : ⊥ = omega arith in z)
ones_pow (suc d) zero h = omega (arith, ones_none d)
ones_pow (suc d) (suc i) h =
    let e : 2 ^ suc i / 2 ≡ 2 ^ i = omega (arith, pow-suc 2 i) in
    let f : 2 ^ suc i % 2 ≡ 0 = omega (arith, pow-suc 2 i) in
    omega (arith, f, ap (ones_in d) e, ones_pow d i (omega arith))

-- A number that is not 0 has a digit set.
pub ones_some : (d x : ℕ) → x < 2 ^ d → (x ≡ 0 → ⊥) → 0 < ones_in d x
unfolding ones_in
ones_some zero x h n = absurd (n (omega arith))
ones_some (suc d) x h n = go (x % 2) refl (λ z. ones_some d (x / 2) (omega (arith, pow-suc 2 d)) z)
  where
    go : (b : ℕ) → x % 2 ≡ b → ((x / 2 ≡ 0 → ⊥) → 0 < ones_in d (x / 2)) → 0 < x % 2 + ones_in d (x / 2)
    go zero e rest = omega (arith, rest (λ z. n (omega arith)))
    go (suc b) e rest = omega arith

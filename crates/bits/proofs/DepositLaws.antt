-- The lowest set bits of a word: how the code takes them one by one, that PDEP of n ones is they, which they are and how many, and a word cut in two.
-- Assumes nothing.
use mathlib.Core.Path.{◌≡◌, refl, sym, ap, ap₂, ◌∙◌}
use Prim.Native.Nat.{ℕ, zero, suc, ◌+◌, ◌-◌, ◌*◌, ◌/◌, ◌%◌, ◌^◌, ◌≤◌, ◌<◌, min}
use native.Mathlib.Nat.{zero-add, zero-sub, mul_right_comm, suc-add, sub-zero, zero-mul, one-mul, mul_comm, sub-add-eq, div-one, pow-suc, mod-lt, add-mul, add-zero, mul_assoc}
use native.Mathlib.Omega.{arith}
use native.Mathlib.Numerals.{add-one}
use lib.Dec.{lit<}
use lib.Pow.{ones_lt, shr-shr}
use lib.Bits.{bit_and, bit_or, bit_xor, block_half, block_odd, or_block, xor_block, xor_self}
use lib.Count.{ones, ones_in, ones_step}
use Rattle.laws.specs.Word.{bit_at}
use Rattle.laws.proofs.WordLaws.{Digit, even, odd, digit, half_odd, half_even, mod_odd, mod_even, half_lt, dec_odd, dec_even, ones_none}
use Rattle.laws.proofs.BitLaws.{bit_zero, bit_first, bit_next, bit_ones, bit_past}
use Rattle.bits.specs.Deposit.{low_digit, lowest, pdep_from, pdep}

-- The lowest set bits of an even number are those of its half.
pub low_even : (d n q : ℕ) → lowest (suc d) n (q * 2) ≡ lowest d n q * 2
unfolding lowest
low_even d n q = ap₂ (λ (b r : ℕ). low_digit b n (λ m. lowest d m r)) (mod_even q) (half_even q)

-- The lowest set bit of an odd number is its lowest digit.
pub low_odd : (d n q : ℕ) → lowest (suc d) (suc n) (q * 2 + 1) ≡ lowest d n q * 2 + 1
unfolding lowest
low_odd d n q = ap₂ (λ (b r : ℕ). low_digit b (suc n) (λ m. lowest d m r)) (mod_odd q) (half_odd q)

-- One digit of `low_none`.
none_digit : (b : ℕ) (above : ℕ → ℕ) → above 0 ≡ 0 → low_digit b 0 above ≡ 0
none_digit zero above e = omega arith
none_digit (suc b) above e = refl

-- No set bits.
pub low_none : (d x : ℕ) → lowest d 0 x ≡ 0
unfolding lowest
low_none zero x = refl
low_none (suc d) x = none_digit (x % 2) (λ m. lowest d m (x / 2)) (low_none d (x / 2))

-- One digit of `low_zero`.
none_left : (b n : ℕ) (above : ℕ → ℕ) → b ≡ 0 → ((m : ℕ) → above m ≡ 0) → low_digit b n above ≡ 0
none_left zero n above e h = omega (arith, h n)
none_left (suc b) n above e h = absurd (let z : ⊥ = omega arith in z)

-- The set bits of 0.
pub low_zero : (d n : ℕ) → lowest d n 0 ≡ 0
unfolding lowest
low_zero zero n = refl
low_zero (suc d) n = none_left 0 n (λ m. lowest d m 0) refl (low_zero d)

-- ---- the code takes the lowest set bit, and of the rest one less

-- `|` of two even numbers.
or_even : (a b : ℕ) → bit_or (a * 2) (b * 2) ≡ bit_or a b * 2
or_even a b = ap₂ bit_or (sym (add-zero (a * 2))) (sym (add-zero (b * 2))) ∙ or_block 1 a b 0 0 (lit< tt) (lit< tt) ∙ add-zero (bit_or a b * 2)

-- `^` of two even numbers.
xor_even : (a b : ℕ) → bit_xor (a * 2) (b * 2) ≡ bit_xor a b * 2
xor_even a b = ap₂ bit_xor (sym (add-zero (a * 2))) (sym (add-zero (b * 2))) ∙ xor_block 1 a b 0 0 (lit< tt) (lit< tt) ∙ add-zero (bit_xor a b * 2)

-- An odd number `^` the even one below it.
xor_odd : (q : ℕ) → bit_xor (q * 2 + 1) (q * 2) ≡ 1
xor_odd q = ap (bit_xor (q * 2 + 1)) (sym (add-zero (q * 2))) ∙ xor_block 1 q q 1 0 (lit< tt) (lit< tt) ∙ ap (λ (z : ℕ). z * 2 + 1) (xor_self q)

-- The lowest digit set in an even number.
or_one : (b : ℕ) → bit_or 1 (b * 2) ≡ b * 2 + 1
or_one b = ap (bit_or 1) (sym (add-zero (b * 2))) ∙ or_block 1 0 b 1 0 (lit< tt) (lit< tt)

-- The code's step: the lowest set bit, `x ^ (x & (x - 1))`, and of the rest, `x & (x - 1)`, one less.
abbrev Takes : ℕ → ℕ → ℕ → Type 0
Takes d n x = lowest d (suc n) x ≡ bit_or (bit_xor x (bit_and x (x - 1))) (lowest d n (bit_and x (x - 1)))

-- The step at an even number.
take_even : (d n q : ℕ) → 0 < q → Takes d n q → Takes (suc d) n (q * 2)
take_even d n q p ih =
    let y : ℕ = bit_and q (q - 1) in
    low_even d (suc n) q ∙ ap (λ (z : ℕ). z * 2) ih
    ∙ sym (ap (λ (z : ℕ). bit_or (bit_xor (q * 2) z) (lowest (suc d) n z)) (dec_even q p)
    ∙ ap₂ bit_or (xor_even q y) (low_even d n y) ∙ or_even (bit_xor q y) (lowest d n y))

-- The step at an odd number.
take_odd : (d n q : ℕ) → Takes (suc d) n (q * 2 + 1)
take_odd d n q =
    low_odd d n q
    ∙ sym (ap (λ (z : ℕ). bit_or (bit_xor (q * 2 + 1) z) (lowest (suc d) n z)) (dec_odd q)
    ∙ ap₂ bit_or (xor_odd q) (low_even d n q) ∙ or_one (lowest d n q))

-- The step by the lowest digit.
take_digit : (d n x : ℕ) → Digit x → 0 < x → x < 2 ^ suc d → ((q : ℕ) → 0 < q → q < 2 ^ d → Takes d n q) → Takes (suc d) n x
take_digit d n x (even q) p h ih = take_even d n q (omega arith) (ih q (omega arith) (half_lt d (q * 2) q (omega arith) h))
take_digit d n x (odd q) p h ih = take_odd d n q

-- The code's step holds of every word that is not 0.
pub low_take : (d n x : ℕ) → 0 < x → x < 2 ^ d → Takes d n x
low_take zero n x p h = absurd (let z : ⊥ = omega arith in z)
low_take (suc d) n x p h = take_digit d n x (digit x) p h (low_take d n)

-- The code's step, where r is what the call for the rest answers.
pub low_step :
    (n x r : ℕ) →
    (n ≡ 0 → ⊥) →
    (x ≡ 0 → ⊥) →
    x < 2 ^ 64 →
    r ≡ lowest 64 (n - 1) (bit_and x (x - 1)) →
    bit_or (bit_xor x (bit_and x (x - 1))) r ≡ lowest 64 n x
low_step n x r hn hx l e =
    ap (bit_or (bit_xor x (bit_and x (x - 1)))) e
    ∙ sym (low_take 64 (n - 1) x (omega arith) l)
    ∙ ap (λ (z : ℕ). lowest 64 z x) (let f : suc (n - 1) ≡ n = omega arith in f)

-- ---- PDEP of n ones

-- A factor of two passes to the other side.
times : (l p : ℕ) → l * (p * 2) ≡ l * 2 * p
times l p = ap (λ (z : ℕ). l * z) (mul_comm p 2) ∙ sym (mul_assoc l 2 p)

-- One turn of PDEP's loop, where the source has r ones left.
pdep_turn : (d r b s x p dest : ℕ) → b < 2 → (r ≡ 0 → s ≡ 0) → (0 < r → s ≡ 1)
    → dest + b * s * p + lowest d (r - b) x * (p * 2) ≡ dest + low_digit b r (λ m. lowest d m x) * p
pdep_turn d r zero s x p dest h none some =
    omega (arith, zero-mul s, ap (λ (z : ℕ). z * p) (zero-mul s), zero-mul p, ap (λ (z : ℕ). lowest d z x * (p * 2)) (sub-zero r), times (lowest d r x) p)
pdep_turn d zero (suc zero) s x p dest h none some =
    omega (arith, ap (λ (z : ℕ). 1 * z * p) (none refl), zero-mul p, ap (λ (z : ℕ). z * (p * 2)) (low_none d x), zero-mul (p * 2))
pdep_turn d (suc r) (suc zero) s x p dest h none some =
    omega (
      arith,
      ap (λ (z : ℕ). 1 * z * p) (some (omega arith)),
      one-mul p,
      ap (λ (z : ℕ). lowest d z x * (p * 2)) (let e : suc r - 1 ≡ r = omega arith in e),
      times (lowest d r x) p,
      add-mul (lowest d r x * 2) 1 p,
    )
pdep_turn d r (suc (suc b)) s x p dest h none some = absurd (let z : ⊥ = omega arith in z)

-- What PDEP's loop adds from bit m on.
pdep_from_lem : (d n m k mask dest : ℕ) → pdep_from d m k (2 ^ n - 1) mask dest ≡ dest + lowest d (n - k) (mask / 2 ^ m) * 2 ^ m
unfolding pdep_from lowest
pdep_from_lem zero n m k mask dest = omega arith
pdep_from_lem (suc d) n m k mask dest =
    let b : ℕ = mask / 2 ^ m % 2 in
    let s : ℕ = bit_at (2 ^ n - 1) k in
    let e : mask / 2 ^ suc m ≡ mask / 2 ^ m / 2 = ap (λ (z : ℕ). mask / 2 ^ z) (sym (add-one m)) ∙ sym (shr-shr mask m 1) in
    pdep_from_lem d n (suc m) (k + b) mask (dest + b * s * 2 ^ m)
    ∙ ap₂ (λ (y z : ℕ). dest + b * s * 2 ^ m + lowest d (n - (k + b)) y * z) e (pow-suc 2 m)
    ∙ ap (λ (z : ℕ). dest + b * s * 2 ^ m + lowest d z (mask / 2 ^ m / 2) * (2 ^ m * 2)) (sub-add-eq n k b)
    ∙ pdep_turn d (n - k) b s (mask / 2 ^ m / 2) (2 ^ m) dest (mod-lt (mask / 2 ^ m) (lit< tt))
    (λ z. bit_past n (2 ^ n - 1) k (ones_lt n) (omega arith)) (λ z. bit_ones n k (omega arith))

-- The lowest n set bits of a word are PDEP of n ones, as Intel writes it, for every n.
pub lowest_is_pdep : (n mask : ℕ) → lowest 64 n mask ≡ pdep (2 ^ n - 1) mask
unfolding pdep
lowest_is_pdep n mask =
    sym (pdep_from_lem 64 n 0 0 mask 0
    ∙ ap₂ (λ (y z : ℕ). 0 + lowest 64 y z * 1) (sub-zero n) (div-one mask) ∙ omega arith)

-- ---- a word in two parts

-- One digit of `low_cat`.
cat_digit : (b n f p : ℕ) (r above below : ℕ → ℕ) → b < 2 → above 0 ≡ 0 → ((m : ℕ) → r m ≡ above (m - f) * p + below m)
    → low_digit b n r ≡ above (n - (b + f)) * (p * 2) + low_digit b n below
cat_digit zero n f p r above below h z e =
    omega (
      arith,
      e n,
      times (above (n - f)) p,
      ap (λ (k : ℕ). above (n - k) * (p * 2)) (zero-add f),
      add-mul (above (n - f) * p) (below n) 2,
      mul_right_comm (above (n - f)) p 2,
    )
cat_digit (suc zero) zero f p r above below h z e =
    omega (arith, ap (λ (k : ℕ). above k * (p * 2)) (zero-sub (1 + f)), ap (λ (k : ℕ). k * (p * 2)) z, zero-mul (p * 2))
cat_digit (suc zero) (suc n) f p r above below h z e =
    omega (
      arith,
      e n,
      times (above (n - f)) p,
      ap (λ (k : ℕ). above k * (p * 2)) (let q : suc n - (1 + f) ≡ n - f = omega arith in q),
      add-mul (above (n - f) * p) (below n) 2,
      mul_right_comm (above (n - f)) p 2,
    )
cat_digit (suc (suc b)) n f p r above below h z e = absurd (let q : ⊥ = omega arith in q)

-- Of a * 2 ^ k + r the lowest n are those of r, and then as many as are still wanted of a.
pub low_cat : (k j n a r : ℕ) → r < 2 ^ k → lowest (k + j) n (a * 2 ^ k + r) ≡ lowest j (n - ones r) a * 2 ^ k + lowest k n r
unfolding lowest ones
low_cat zero j n a r h =
    let e : r ≡ 0 = omega arith in
    ap₂ (λ (x y : ℕ). lowest x n y) (zero-add j) (let f : a * 1 + r ≡ a = omega arith in f)
    ∙ omega (arith, ap (λ (z : ℕ). lowest j (n - z) a) (ap ones e), ap (λ (z : ℕ). lowest j z a) (sub-zero n))
low_cat (suc k) j n a r h =
    let x : ℕ = a * 2 ^ suc k + r in
    ap (λ (z : ℕ). lowest z n x) (suc-add k j)
    ∙ ap₂ (λ (b y : ℕ). low_digit b n (λ m. lowest (k + j) m y)) (block_odd a k r) (block_half a k r)
    ∙ cat_digit (r % 2) n (ones (r / 2)) (2 ^ k) (λ m. lowest (k + j) m (a * 2 ^ k + r / 2)) (λ m. lowest j m a) (λ m. lowest k m (r / 2))
    (mod-lt r (lit< tt)) (low_none j a) (λ m. low_cat k j m a (r / 2) (half_lt k r (r / 2) (omega arith) h))
    ∙ ap₂ (λ (z p : ℕ). lowest j (n - z) a * p + low_digit (r % 2) n (λ m. lowest k m (r / 2))) (sym (ones_step r)) (sym (pow-suc 2 k))

-- One digit of `low_lt`.
lt_digit : (b n q : ℕ) (above : ℕ → ℕ) → ((m : ℕ) → above m < q) → low_digit b n above < q * 2
lt_digit zero n q above h = omega (arith, h n)
lt_digit (suc b) zero q above h = omega (arith, h 0)
lt_digit (suc b) (suc n) q above h = omega (arith, h n)

-- The lowest set bits of d digits are a number of d digits.
pub low_lt : (d n x : ℕ) → lowest d n x < 2 ^ d
unfolding lowest
low_lt zero n x = lit< tt
low_lt (suc d) n x = rw pow-suc (lt_digit (x % 2) n (2 ^ d) (λ m. lowest d m (x / 2)) (λ m. low_lt d m (x / 2)))

-- ---- which they are, and how many

-- One digit of `low_bit`.
low_digit_lem : (b n x i : ℕ) (above : ℕ → ℕ) → x % 2 ≡ b → ((m j : ℕ) → bit_at (above m) j ≤ bit_at (x / 2) j) → bit_at (low_digit b n above) i ≤ bit_at x i
low_digit_lem zero n x zero above e h = omega (arith, bit_first (above n * 2))
low_digit_lem zero n x (suc i) above e h = omega (arith, bit_next (above n * 2) i, ap (λ (z : ℕ). bit_at z i) (half_even (above n)), bit_next x i, h n i)
low_digit_lem (suc b) zero x i above e h = omega (arith, bit_zero i)
low_digit_lem (suc b) (suc n) x zero above e h = omega (arith, bit_first (above n * 2 + 1), bit_first x)
low_digit_lem (suc b) (suc n) x (suc i) above e h =
    omega (arith, bit_next (above n * 2 + 1) i, ap (λ (z : ℕ). bit_at z i) (half_odd (above n)), bit_next x i, h n i)

-- The lowest set bits are among the set bits.
pub low_bit : (d n x i : ℕ) → bit_at (lowest d n x) i ≤ bit_at x i
unfolding lowest
low_bit zero n x i = omega (arith, bit_zero i)
low_bit (suc d) n x i = low_digit_lem (x % 2) n x i (λ m. lowest d m (x / 2)) refl (λ m j. low_bit d m (x / 2) j)

-- One digit of `low_ones`.
count_digit : (d b n c : ℕ) (above : ℕ → ℕ) → b < 2 → ((m : ℕ) → ones_in d (above m) ≡ min m c) → ones_in (suc d) (low_digit b n above) ≡ min n (b + c)
unfolding ones_in
count_digit d zero n c above h e = omega (arith, mod_even (above n), ap (ones_in d) (half_even (above n)), e n)
count_digit d (suc zero) zero c above h e = omega (arith, ones_none d)
count_digit d (suc zero) (suc n) c above h e = omega (arith, mod_odd (above n), ap (ones_in d) (half_odd (above n)), e n)
count_digit d (suc (suc b)) n c above h e = absurd (let z : ⊥ = omega arith in z)

-- They are n, or as many as there are.
pub low_ones : (d n x : ℕ) → ones_in d (lowest d n x) ≡ min n (ones_in d x)
unfolding lowest ones_in
low_ones zero n x = omega arith
low_ones (suc d) n x =
    count_digit d (x % 2) n (ones_in d (x / 2)) (λ m. lowest d m (x / 2)) (mod-lt x (lit< tt)) (λ m. low_ones d m (x / 2))

-- The words of a fresh span: each bit, and how the code fills them. Assumes nothing.
use mathlib.Core.Path.{◌≡◌, refl, sym, ap, ◌∙◌}
use mathlib.Core.List.{List}
use mathlib.Core.Logic.{⊎_elim}
use Prim.Native.Nat.{ℕ, zero, suc, ◌-◌, ◌*◌, ◌/◌, ◌%◌, ◌^◌, ◌≤◌, ◌<◌, min}
use native.Mathlib.Nat.{sub-zero}
use native.Mathlib.Omega.{arith}
use lib.Dec.{lit<}
use Rattle.std.proofs.lemmas.Nat.Bits.{bit_at_mask_below, bit_at_mask_inside}
use lib.ListN.{length, get_or, set, length-set, replicate, get_or-replicate, take, drop, length-take, length-drop, length-append, length-replicate, get_or-append}
use lib.Seq.{ext_get_or}
use borrow.Rule.Slice.PartMut.{put_mid}
use Rattle.std.proofs.lemmas.List.{get_or-take, get_or-append_right}
use lib.Pow.{pow_pos, pow_mono, pow-sub-lt}
use Rattle.laws.specs.Word.{all_ones, bit_at}
use Rattle.laws.proofs.CellLaws.{set_at}
use Rattle.laws.proofs.BitLaws.{lt_or_le}
use Rattle.occupancy.specs.Occupied.{fresh_words}

-- A fresh span has so many words.
pub fresh_length : (d n : ℕ) → length (fresh_words d n) ≡ d
unfolding fresh_words
fresh_length zero n = refl
fresh_length (suc d) n = ap suc (fresh_length d (n - 64))

-- ---- the bits

-- Below k the bits from k on are clear.
pub from_low : (k i : ℕ) → k ≤ 64 → i < k → bit_at (2 ^ 64 - 2 ^ k) i ≡ 0
from_low k i h l = bit_at_mask_below k 64 i l

-- From k on they are set.
pub from_high : (k i : ℕ) → k ≤ i → i < 64 → bit_at (2 ^ 64 - 2 ^ k) i ≡ 1
from_high k i h l = bit_at_mask_inside k 64 i h l

-- They are not all of them where k is not 0.
pub from_some : (k : ℕ) → 0 < k → 2 ^ 64 - 2 ^ k ≡ all_ones → ⊥
from_some k h e =
    let l : 2 ^ 1 ≤ 2 ^ k = pow_mono h in
    let q : ⊥ = omega arith in q

-- Word i of a fresh span.
pub fresh_at : (d n i : ℕ) → i < d → get_or (fresh_words d n) i 0 ≡ 2 ^ 64 - 2 ^ min (n - 64 * i) 64
unfolding fresh_words
fresh_at zero n i h = absurd (let z : ⊥ = omega arith in z)
fresh_at (suc d) n zero h = ap (λ (z : ℕ). 2 ^ 64 - 2 ^ min z 64) (sym (sub-zero n))
fresh_at (suc d) n (suc i) h =
    fresh_at d (n - 64) i (omega arith) ∙ ap (λ (z : ℕ). 2 ^ 64 - 2 ^ min z 64) (let e : n - 64 - 64 * i ≡ n - 64 * suc i = omega arith in e)

-- Each is a word.
pub fresh_small : (d n i : ℕ) → get_or (fresh_words d n) i 0 < 2 ^ 64
unfolding fresh_words
fresh_small zero n i = lit< tt
fresh_small (suc d) n zero = pow-sub-lt 64 (pow_pos (min n 64))
fresh_small (suc d) n (suc i) = fresh_small d (n - 64) i

-- ---- the code fills them

-- The words from `full` on are all ones, and those before it are 0.
pub record Filled (full : ℕ) (words : List ℕ) : Type 0 where
  pub long : length words ≡ 64
  pub free : (k : ℕ) → k < full → get_or words k 0 ≡ 0
  pub ones : (k : ℕ) → full ≤ k → k < 64 → get_or words k 0 ≡ all_ones

-- 64 words that were 0, filled from `full` on.
pub filled :
    (full : ℕ) (words part : List ℕ) →
    full ≤ 64 →
    words ≡ replicate 64 0 →
    part ≡ replicate (length (take (64 - full) (drop full words))) all_ones →
    Filled full (put_mid full (64 - full) words part)
filled full words part h w e =
    let long : length words ≡ 64 = rw w refl in
    let zero : (k : ℕ) → k < 64 → get_or words k 0 ≡ 0 = λ k l. rw w (get_or-replicate 64 k 0 0 l) in
    let many : length (take (64 - full) (drop full words)) ≡ 64 - full = simp (length-take, length-drop) (omega arith) in
    let part_is : part ≡ replicate (64 - full) all_ones = rw many at e in
    let front : length (take full words) ≡ full = omega (arith, length-take full words) in
    record {
      long = rw part_is (simp (length-append, length-replicate, length-take, length-drop) (omega arith));
      free =
          λ k u.
          let l : k < length (take full words) = omega arith in
          rw (get_or-append, get_or-take) (zero k (omega arith));
      ones =
          λ k u v.
          let l : k - full < 64 - full = omega arith in
          let l' : k - full < length (replicate (64 - full) all_ones) = rw length-replicate l in
          rw (get_or-append_right (take full words) _ full k 0 front u, part_is, get_or-append, get_or-replicate) refl;
    }

-- A word before the last slot's is 0.
fresh_free_word : (n k : ℕ) → k < 64 → k < n / 64 → 0 ≡ get_or (fresh_words 64 n) k 0
fresh_free_word n k h l = sym (fresh_at 64 n k h ∙ ap (λ (z : ℕ). 2 ^ 64 - 2 ^ z) (let e : min (n - 64 * k) 64 ≡ 64 = omega arith in e))

-- The word of the last slot has its low bits clear.
fresh_partial_word : (n : ℕ) → n / 64 < 64 → 2 ^ 64 - 2 ^ (n % 64) ≡ get_or (fresh_words 64 n) (n / 64) 0
fresh_partial_word n h =
    sym (fresh_at 64 n (n / 64) h ∙ ap (λ (z : ℕ). 2 ^ 64 - 2 ^ z) (let e : min (n - 64 * (n / 64)) 64 ≡ n % 64 = omega arith in e))

-- A word past the last slot's is all ones.
fresh_full_word : (n k : ℕ) → k < 64 → n / 64 < k → all_ones ≡ get_or (fresh_words 64 n) k 0
fresh_full_word n k h l = sym (fresh_at 64 n k h ∙ ap (λ (z : ℕ). 2 ^ 64 - 2 ^ z) (let e : min (n - 64 * k) 64 ≡ 0 = omega arith in e))

module _ (n : ℕ) (words : List ℕ) (f : Filled (n / 64) words) where
  -- There is no partial word.
  pub filled_whole : 64 ≤ n / 64 → words ≡ fresh_words 64 n
  filled_whole h =
      ext_get_or 0 words (fresh_words 64 n) (f.long ∙ sym (fresh_length 64 n))
      (λ k l.
      let hk : k < 64 = omega (arith, f.long) in
      f.free k (omega arith) ∙ fresh_free_word n k hk (omega arith))

  -- The partial word is stored.
  pub filled_partial : n / 64 < 64 → set words (n / 64) (2 ^ 64 - 2 ^ (n % 64)) ≡ fresh_words 64 n
  filled_partial h =
      ext_get_or 0 (set words (n / 64) (2 ^ 64 - 2 ^ (n % 64))) (fresh_words 64 n)
      (length-set words (n / 64) (2 ^ 64 - 2 ^ (n % 64)) ∙ f.long ∙ sym (fresh_length 64 n))
      (λ k l.
      set_at (λ k z. k < 64 → z ≡ get_or (fresh_words 64 n) k 0) words (n / 64) (2 ^ 64 - 2 ^ (n % 64)) (omega (arith, f.long))
      (λ u. fresh_partial_word n h)
      (λ k m u.
      ⊎_elim (λ v. f.free k v ∙ fresh_free_word n k u v)
      (λ v. f.ones k v u ∙ fresh_full_word n k u (let z : n / 64 < k = omega (arith, m) in z)) (lt_or_le k (n / 64)))
      k (omega (arith, length-set words (n / 64) (2 ^ 64 - 2 ^ (n % 64)), f.long)))

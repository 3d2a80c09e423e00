-- The first word with room: a scan of the words, a scan of the summary's bits, and the code's rotation and count of zeros come to one. Assumes nothing.
use mathlib.Core.Path.{◌≡◌, sym, ap, ◌∙◌}
use mathlib.Core.Bool.{Bool, true, false, not}
use mathlib.Core.Logic.{⊎_elim}
use mathlib.Core.List.{List}
use Prim.Native.Nat.{ℕ, zero, suc, ◌+◌, ◌-◌, ◌%◌, ◌^◌, ◌≤◌, ◌<◌}
use native.Mathlib.Nat.{add_comm, lt_trans, mod-lt}
use native.Mathlib.Omega.{arith}
use lib.Dec.{eqb, lit<}
use lib.ListN.{get_or}
use lib.Pow.{ones_sub-lt}
use lib.Count.{count_trailing_zeros}
use borrow.Author.Tests.{not-false, eqb-true, eqb-false, not-true}
use Rattle.laws.specs.First.{first}
use Rattle.laws.specs.Word.{all_ones, bit_at, is_set}
use Rattle.laws.proofs.FirstLaws.{tested, first_is, first_before}
use Rattle.laws.proofs.BitLaws.{bit_not, bit_lt, bit_ones, trailing_below, trailing_at}
use Rattle.bits.specs.Rotated.{rotated_right}
use Rattle.bits.proofs.RotationLaws.{bit_right, right_lt, right_some}
use Rattle.occupancy.specs.declared.Occupancy.{Occupancy}
use Rattle.occupancy.specs.Occupied.{first_room}
use Rattle.occupancy.specs.Right.{Right, first_clear}

-- A first number before the end of the scan passes the test.
first_found : (f : ℕ → Bool) (n k : ℕ) → first f n k < k + n → f (first f n k) ≡ true
unfolding first
first_found f zero k h = absurd (let z : ⊥ = omega arith in z)
first_found f (suc n) k h =
    ⊎_elim
    (λ e. rw e e)
    (λ e. rw e (first_found f n (suc k) (let m : first f n (suc k) < k + suc n = rw e at h in omega arith)))
    (tested (f k))

-- Where no number of the scan passes the test, it ends behind them.
first_none : (f : ℕ → Bool) (n k : ℕ) → ((j : ℕ) → f j ≡ false) → first f n k ≡ k + n
unfolding first
first_none f zero k e = omega arith
first_none f (suc n) k e = rw (e k) (first_none f n (suc k) e ∙ (let q : suc k + n ≡ k + suc n = omega arith in q))

-- A bit that is 0 in the complement is 1.
is_one_lem : (b c : ℕ) → c ≡ 1 - b → c ≡ 0 → b < 2 → b ≡ 1
is_one_lem b c e z h = omega arith

-- A bit that is 1 in the complement is 0.
is_zero : (b c : ℕ) → c ≡ 1 - b → c ≡ 1 → b ≡ 0
is_zero b c e z = omega arith

module _ (x k : ℕ) (hx : x < 2 ^ 64 - 1) (hk : k < 64) where
  -- the complement, turned
  abbrev turned : ℕ
  turned = rotated_right (2 ^ 64 - 1 - x) k

  -- Bit j of the complement turned is clear where bit k + j of the word is set.
  bit_turned : (j : ℕ) → j < 64 → bit_at turned j ≡ 1 - bit_at x ((k + j) % 64)
  bit_turned j h =
      bit_right (2 ^ 64 - 1 - x) k j (ones_sub-lt 64 x) hk h
      ∙ bit_not 64 x ((j + k) % 64) (omega arith) (mod-lt (j + k) (lit< tt)) ∙ ap (λ (z : ℕ). 1 - bit_at x (z % 64)) (add_comm j k)

  -- The lowest set bit of the complement turned.
  lowest_turned : (count_trailing_zeros 64 turned < 64) × (bit_at turned (count_trailing_zeros 64 turned) ≡ 1)
  lowest_turned = trailing_at 64 turned (right_some (2 ^ 64 - 1 - x) k (omega arith)) (right_lt (2 ^ 64 - 1 - x) k (ones_sub-lt 64 x) hk)

  -- The code's rotation and count of zeros give the first clear bit.
  pub free_word_is : k + count_trailing_zeros 64 turned ≡ first_clear x k
  free_word_is =
      let t : ℕ = count_trailing_zeros 64 turned in
      sym
      (first_is (λ i. not (is_set x (i % 64))) 64 k (k + t) (omega arith) (omega (arith, lowest_turned.0))
      (ap (λ (b : ℕ). not (eqb b 1))
      (is_zero (bit_at x ((k + t) % 64)) (bit_at turned t) (bit_turned t lowest_turned.0) lowest_turned.1))
      (λ j a l. before j a l))
    where
      before : (j : ℕ) → k ≤ j → j < k + count_trailing_zeros 64 turned → not (is_set x (j % 64)) ≡ false
      before j a l =
          let i : ℕ = j - k in
          let e : k + i ≡ j = omega arith in
          let h : i < count_trailing_zeros 64 turned = omega arith in
          ap (λ (z : ℕ). not (is_set x (z % 64))) (sym e)
          ∙ ap (λ (b : ℕ). not (eqb b 1))
          (is_one_lem (bit_at x ((k + i) % 64)) (bit_at turned i) (bit_turned i (lt_trans h lowest_turned.0))
          (trailing_below 64 turned i h) (bit_lt x ((k + i) % 64)))

  -- It is found before the scan ends.
  pub free_word_lt : first_clear x k < k + 64
  free_word_lt = omega (arith, free_word_is, lowest_turned.0)

-- Where no bit is clear the scan ends behind them.
pub free_word_none : (x k : ℕ) → x ≡ all_ones → first_clear x k ≡ k + 64
free_word_none x k e =
    first_none (λ i. not (is_set x (i % 64))) 64 k
    (λ j. ap (λ (z : ℕ). not (eqb (bit_at z (j % 64)) 1)) e ∙ ap (λ (b : ℕ). not (eqb b 1)) (bit_ones 64 (j % 64) (mod-lt j (lit< tt))))

-- Where the summary is right, its scan is that of the words.
pub same_room : (slots : ℕ) (o : Occupancy) → Right slots o → (from : ℕ) → first_clear o.summary from ≡ first_room o.words from
unfolding first_room
same_room slots o r from = λ t. first (λ i. not (r.full (i % 64) (mod-lt i (lit< tt)) t)) 64 from

-- The word found has room.
pub room_found : (words : List ℕ) (from : ℕ) → first_room words from < from + 64 → get_or words (first_room words from % 64) 0 ≡ all_ones → ⊥
unfolding first_room
room_found words from h =
    let f : ℕ → Bool = λ i. not (eqb (get_or words (i % 64) 0) all_ones) in
    eqb-false (get_or words (first f 64 from % 64) 0) all_ones (not-true (eqb (get_or words (first f 64 from % 64) 0) all_ones) (first_found f 64 from h))

-- Where the scan ends behind the words, each is all ones.
pub room_none : (words : List ℕ) (from : ℕ) → from < 64 → from + 64 ≤ first_room words from → (i : ℕ) → i < 64 → get_or words i 0 ≡ all_ones
unfolding first_room
room_none words from hf h i hi =
    let f : ℕ → Bool = λ i. not (eqb (get_or words (i % 64) 0) all_ones) in
    let j : ℕ = from + (i + (64 - from)) % 64 in
    let e : j % 64 ≡ i = turn i from hi hf in
    let a : j < from + 64 = omega arith in
    ap (λ (z : ℕ). get_or words z 0) (sym e)
    ∙ eqb-true (get_or words (j % 64) 0) all_ones
    (not-false (eqb (get_or words (j % 64) 0) all_ones) (first_before f 64 from j (omega arith) (omega arith)))
  where
    turn : (p j : ℕ) → p < 64 → j < 64 → (j + (p + (64 - j)) % 64) % 64 ≡ p
    turn p j hp h = omega arith

-- One span's occupancy stays right where one word, the summary and the count change together; and a fresh one is right. Assumes nothing.
use mathlib.Core.Path.{◌≡◌, refl, sym, ap, ap₂, subst, ◌∙◌}
use mathlib.Core.Bool.{Bool, true, false, cond}
use mathlib.Core.Logic.{◌⊎◌, inl, inr}
use Prim.Native.Nat.{ℕ, zero, suc, ◌+◌, ◌-◌, ◌*◌, ◌/◌, ◌%◌, ◌^◌, ◌≤◌, ◌<◌, min}
use native.Mathlib.Nat.{min-le_right, mod-lt}
use native.Mathlib.Omega.{arith}
use lib.Dec.{eqb, lit<}
use lib.ListN.{length, get_or, set, length-set}
use lib.Seq.{get_or-set_same, get_or-set_other}
use lib.Pow.{pow_pos, pow-sub-lt}
use borrow.Author.Tests.{ne_eqb}
use Rattle.laws.specs.Choice.{sum}
use Rattle.laws.specs.Word.{all_ones, bit_at, is_set, popcount}
use Rattle.laws.proofs.CellLaws.{set_at}
use Rattle.laws.proofs.SumLaws.{sum_same, sum_split, sum_ones, sum_none, sum_most, one_most, sum_put}
use Rattle.laws.proofs.BitLaws.{lt_or_le, bit_cond, ones_sum}
use Rattle.occupancy.specs.declared.Occupancy.{Occupancy}
use Rattle.occupancy.specs.Occupied.{occupancy, word_of, fresh_words, fresh_of}
use Rattle.occupancy.specs.Right.{is_taken, taken_below, Right}
use Rattle.occupancy.proofs.FreshLaws.{fresh_length, fresh_at, fresh_small, from_low, from_high, from_some}

-- The word of slot i * 64 + b.
pub slot_word : (i b : ℕ) → b < 64 → (i * 64 + b) / 64 ≡ i
slot_word i b h = omega arith

-- The bit of slot i * 64 + b.
pub slot_bit : (i b : ℕ) → b < 64 → (i * 64 + b) % 64 ≡ b
slot_bit i b h = omega arith

-- Slot i * 64 + b is taken where bit b of word i is set.
pub slot_taken : (o : Occupancy) (i b : ℕ) → b < 64 → is_taken o (i * 64 + b) ≡ is_set (word_of o i) b
slot_taken o i b h = ap₂ (λ (j c : ℕ). is_set (word_of o j) c) (slot_word i b h) (slot_bit i b h)

-- The set bits of all words.
abbrev pub total : Occupancy → ℕ
total o = sum 64 (λ i. popcount (word_of o i))

-- The slots of n words that are taken are the set bits of n words.
words_sum : (o : Occupancy) (n : ℕ) → taken_below o (n * 64) ≡ sum n (λ i. popcount (word_of o i))
unfolding sum
words_sum o zero = refl
words_sum o (suc n) =
    ap (taken_below o) (let e : suc n * 64 ≡ n * 64 + 64 = omega arith in e)
    ∙ sum_split (n * 64) 64 (λ q. cond (is_taken o q) 1 0)
    ∙ ap₂ ◌+◌ (words_sum o n)
    (sum_same 64 (λ b. cond (is_taken o (n * 64 + b)) 1 0) (bit_at (word_of o n))
    (λ b h. ap (λ (t : Bool). cond t 1 0) (slot_taken o n b h) ∙ bit_cond (word_of o n) b)
    ∙ ones_sum 64 (word_of o n))

module _ (slots : ℕ) (o : Occupancy) (within : slots ≤ 4096) (past : (q : ℕ) → q < 4096 → slots ≤ q → is_taken o q ≡ true) where
  -- Where the bits past the last slot are set, the set bits are those of the slots and those.
  past_sum : total o + slots ≡ taken_below o slots + 4096
  past_sum =
      let e : slots + (4096 - slots) ≡ 4096 = omega arith in
      omega (
        arith,
        words_sum o 64,
        ap (taken_below o) e,
        sum_split slots (4096 - slots) (λ q. cond (is_taken o q) 1 0),
        sum_ones (4096 - slots) (λ i. cond (is_taken o (slots + i)) 1 0)
            (λ i h. ap (λ (t : Bool). cond t 1 0) (past (slots + i) (omega arith) (omega arith))),
      )

  -- There are at least as many set bits as bits past the last slot.
  pub total_past : 4096 ≤ total o + slots
  total_past = omega (arith, past_sum)

module _ (slots : ℕ) (o : Occupancy) (r : Right slots o) where
  -- The count, and the bits past the last slot, are the set bits.
  pub count_total : total o + slots ≡ o.count + 4096
  count_total = omega (arith, past_sum slots o r.within r.past, r.counted)

  -- No more slots are taken than there are.
  pub count_most : o.count ≤ slots
  count_most = omega (arith, r.counted, sum_most slots (λ q. cond (is_taken o q) 1 0) (λ q. one_most (is_taken o q)))

-- ---- one word stored

module _ (slots : ℕ) (o : Occupancy) (r : Right slots o) (i v s c : ℕ) (h : i < 64) where
  -- word i is v, and the summary and the count are s and c
  abbrev pub put : Occupancy
  put = occupancy s (set o.words i v) c

  -- Word i is one of the list.
  fits : i < length o.words
  fits = omega (arith, r.long)

  -- Word i is stored.
  pub put_same : word_of put i ≡ v
  put_same = get_or-set_same o.words i v 0 fits

  -- The other words stay.
  pub put_other : (j : ℕ) → (j ≡ i → ⊥) → word_of put j ≡ word_of o j
  put_other j n = get_or-set_other o.words i j v 0 n

  -- The set bits of all words follow those of word i.
  pub put_total : total put + popcount (word_of o i) ≡ total o + popcount v
  put_total =
      sum_put 64 i (λ j. popcount (word_of put j)) (λ j. popcount (word_of o j)) h (λ j n. ap popcount (put_other j n))
      ∙ ap (λ (z : ℕ). total o + popcount z) put_same

  -- The bits past the last slot stay set where those of v are.
  pub put_past : ((b : ℕ) → b < 64 → slots ≤ i * 64 + b → is_set v b ≡ true) → (q : ℕ) → q < 4096 → slots ≤ q → is_taken put q ≡ true
  put_past past q hq hs =
      set_at (λ j z. j ≡ q / 64 → is_set z (q % 64) ≡ true) o.words i v fits
      (λ e. past (q % 64) (mod-lt q (lit< tt)) (omega arith))
      (λ j n e. subst (λ (k : ℕ). is_set (get_or o.words k 0) (q % 64) ≡ true) (sym e) (r.past q hq hs))
      (q / 64) refl

  -- The occupancy stays right.
  pub put_right :
      v < 2 ^ 64 →
      s < 2 ^ 64 →
      is_set s i ≡ eqb v all_ones →
      ((j : ℕ) → j < 64 → (j ≡ i → ⊥) → is_set s j ≡ is_set o.summary j) →
      ((b : ℕ) → b < 64 → slots ≤ i * 64 + b → is_set v b ≡ true) →
      c + popcount (word_of o i) ≡ o.count + popcount v →
      Right slots put
  put_right hv hs same other past count =
      record {
        within = r.within;
        long = length-set o.words i v ∙ r.long;
        small = set_at (λ j z. j < 64 → z < 2 ^ 64) o.words i v fits (λ l. hv) (λ j n l. r.small j l);
        top = hs;
        full =
            set_at (λ j z. j < 64 → is_set s j ≡ eqb z all_ones) o.words i v fits (λ l. same)
            (λ j n l. other j l n ∙ r.full j l);
        past = put_past past;
        counted =
            omega (arith, past_sum slots put r.within (put_past past), put_total, count_total slots o r, count);
      }

-- ---- a fresh span

-- The summary of a fresh span is right.
fresh_full : (n i : ℕ) → n ≤ 4096 → i < 64 → is_set (2 ^ 64 - 2 ^ ((n + 63) / 64)) i ≡ eqb (get_or (fresh_words 64 n) i 0) all_ones
fresh_full n i h l = go (lt_or_le i ((n + 63) / 64))
  where
    go : (i < (n + 63) / 64) ⊎ ((n + 63) / 64 ≤ i) → is_set (2 ^ 64 - 2 ^ ((n + 63) / 64)) i ≡ eqb (get_or (fresh_words 64 n) i 0) all_ones
    go (inl p) =
        ap (λ (z : ℕ). eqb z 1) (from_low ((n + 63) / 64) i (omega arith) p)
        ∙ sym
        (ap (λ (z : ℕ). eqb z all_ones) (fresh_at 64 n i l)
        ∙ ne_eqb (2 ^ 64 - 2 ^ min (n - 64 * i) 64) all_ones (from_some (min (n - 64 * i) 64) (omega arith)))
    go (inr p) =
        ap (λ (z : ℕ). eqb z 1) (from_high ((n + 63) / 64) i p l)
        ∙ sym (ap (λ (z : ℕ). eqb z all_ones) (fresh_at 64 n i l ∙ ap (λ (z : ℕ). 2 ^ 64 - 2 ^ z) (let e : min (n - 64 * i) 64 ≡ 0 = omega arith in e)))

-- A bit past the last slot of a fresh span is set.
fresh_past : (n q : ℕ) → q < 4096 → n ≤ q → is_set (get_or (fresh_words 64 n) (q / 64) 0) (q % 64) ≡ true
fresh_past n q hq h =
    ap (λ (z : ℕ). is_set z (q % 64)) (fresh_at 64 n (q / 64) (omega arith))
    ∙ ap (λ (z : ℕ). eqb z 1) (from_high (min (n - 64 * (q / 64)) 64) (q % 64) (above n q h) (mod-lt q (lit< tt)))
  where
    above : (n q : ℕ) → n ≤ q → min (n - 64 * (q / 64)) 64 ≤ q % 64
    above n q h = omega arith

-- No slot of a fresh span is taken.
pub fresh_free : (n q : ℕ) → n ≤ 4096 → q < n → is_taken (fresh_of n) q ≡ false
unfolding fresh_of
fresh_free n q hn h =
    ap (λ (z : ℕ). is_set z (q % 64)) (fresh_at 64 n (q / 64) (omega arith))
    ∙ ap (λ (z : ℕ). eqb z 1) (from_low (min (n - 64 * (q / 64)) 64) (q % 64) (min-le_right (n - 64 * (q / 64)) 64) (below n q h))
  where
    below : (n q : ℕ) → q < n → q % 64 < min (n - 64 * (q / 64)) 64
    below n q h = omega arith

-- A fresh occupancy is right.
pub fresh_right : (n : ℕ) → n ≤ 4096 → Right n (fresh_of n)
unfolding fresh_of
fresh_right n h =
    record {
      within = h;
      long = fresh_length 64 n;
      small = λ i l. fresh_small 64 n i;
      top = pow-sub-lt 64 (pow_pos ((n + 63) / 64));
      full = λ i l. fresh_full n i h l;
      past = λ q l s. fresh_past n q l s;
      counted =
          sym
          (sum_none n (λ q. cond (is_taken (fresh_of n) q) 1 0) (λ q l. ap (λ (t : Bool). cond t 1 0) (fresh_free n q h l)));
    }

-- A claim by its cases; it keeps one span's occupancy right, takes free slots of one word and nothing else, and finds nothing exactly when none is wanted
-- or all are taken. Assumes nothing.
use mathlib.Core.Path.{◌≡◌, refl, sym, ap, ap₂, subst, ◌∙◌}
use mathlib.Core.Bool.{Bool, true, false, ◌||◌, cond}
use mathlib.Core.Logic.{◌⊎◌, inl, inr, ⊎_elim}
use Prim.Native.Nat.{ℕ, ◌+◌, ◌-◌, ◌*◌, ◌/◌, ◌%◌, ◌^◌, ◌≤◌, ◌<◌}
use native.Mathlib.Nat.{mod-lt}
use native.Mathlib.Decide.{ℕ_discrete, dec_lt}
use native.Mathlib.Omega.{arith}
use lib.Dec.{eqb, leb, lit<}
use lib.ListN.{set}
use lib.Pow.{ones_sub-lt}
use lib.Bits.{bit_or}
use lib.Count.{ones_in}
use borrow.Author.Tests.{eq-eqb, ne_eqb, le-leb, lt-leb}
use Rattle.laws.specs.Choice.{sum}
use Rattle.laws.specs.Word.{all_ones, bit_at, is_set, set_bit, popcount}
use Rattle.laws.proofs.CondLaws.{cond_both, or_true}
use Rattle.laws.proofs.SumLaws.{sum_same}
use Rattle.laws.proofs.WordLaws.{ones_some}
use Rattle.laws.proofs.BitLaws.{bit_set_same, bit_set_other, set_lt, set_one, set_none}
use Rattle.laws.proofs.MaskLaws.{Apart, add_bit, add_ones, add_lt, apart_or}
use Rattle.occupancy.specs.declared.Occupancy.{Occupancy}
use Rattle.occupancy.specs.declared.Claim.{Claim}
use Rattle.occupancy.specs.declared.Claimed.TheVariants.{Nothing, Taken}
use Rattle.occupancy.specs.Occupied.{occupancy, word_of, first_room, window_of, nothing, taking, claim_in, claim}
use Rattle.occupancy.specs.Right.{is_taken, Right, Took, first_clear}
use Rattle.occupancy.proofs.RoomLaws.{free_word_lt, free_word_none, same_room, room_found, room_none}
use Rattle.occupancy.proofs.WindowLaws.{window_lt, window_apart, window_ones}
use Rattle.occupancy.proofs.RightLaws.{slot_taken, count_total, count_most, put, put_same, put_other, put_right}

-- ---- a claim by its cases

module _ (o : Occupancy) (m w : ℕ) where
  -- where the scan for a word with room ends
  abbrev found : ℕ
  found = first_room o.words (w % 64)

  -- None is wanted.
  pub claim_none : m ≡ 0 → claim o m w ≡ nothing o
  unfolding claim
  claim_none e = ap (λ (b : Bool). cond (b || leb (w % 64 + 64) found) (nothing o) (claim_in o m w (found % 64))) (eq-eqb m 0 e)

  -- No word has room.
  pub claim_past : w % 64 + 64 ≤ found → claim o m w ≡ nothing o
  unfolding claim
  claim_past h =
      ap (λ (b : Bool). cond b (nothing o) (claim_in o m w (found % 64)))
      (ap (λ (b : Bool). eqb m 0 || b) (le-leb (w % 64 + 64) found h) ∙ or_true (eqb m 0))

  -- A word has room.
  pub claim_found : (m ≡ 0 → ⊥) → found < w % 64 + 64 → claim o m w ≡ claim_in o m w (found % 64)
  unfolding claim
  claim_found n h =
      ap (λ (b : Bool). cond b (nothing o) (claim_in o m w (found % 64))) (ap₂ ◌||◌ (ne_eqb m 0 n) (lt-leb (w % 64 + 64) found h))

-- ---- what the code makes

module _ (slots : ℕ) (o : Occupancy) (r : Right slots o) (m w : ℕ) where
  -- The summary is all ones.
  pub claim_full : o.summary ≡ all_ones → claim o m w ≡ nothing o
  claim_full e =
      claim_past o m w (omega (arith, same_room slots o r (w % 64), free_word_none o.summary (w % 64) e))

  -- The record that the code makes of the word with room.
  pub claim_made : (i mask s c : ℕ) → (m ≡ 0 → ⊥) → o.summary < 2 ^ 64 - 1 → i ≡ first_clear o.summary (w % 64) % 64
      → mask ≡ window_of (word_of o i) m (w / 64 % 64)
      → s ≡ cond (eqb (bit_or (word_of o i) mask) all_ones) (set_bit o.summary i) o.summary
      → c ≡ o.count + popcount mask
      → ◌≡◌ {A = Claim} (record { answer = Taken i mask; occupancy = occupancy s (set o.words i (bit_or (word_of o i) mask)) c }) (claim o m w)
  unfolding claim_in taking
  claim_made i mask s c n h e p q t =
      let found : ℕ = first_room o.words (w % 64) in
      let same : first_clear o.summary (w % 64) ≡ found = same_room slots o r (w % 64) in
      let lt : found < w % 64 + 64 = omega (arith, same, free_word_lt o.summary (w % 64) h (mod-lt w (lit< tt))) in
      let hi : i < 64 = omega arith in
      let at : i ≡ found % 64 = e ∙ ap (λ (z : ℕ). z % 64) same in
      let hj : w / 64 % 64 < 64 = mod-lt (w / 64) (lit< tt) in
      let apart : Apart (word_of o i) mask = subst (Apart (word_of o i)) (sym p) (window_apart (word_of o i) m (w / 64 % 64) (r.small i hi) hj) in
      let sum : bit_or (word_of o i) mask ≡ word_of o i + mask = apart_or 64 (word_of o i) mask (r.small i hi) apart in
      let s' : s ≡ cond (eqb (word_of o i + mask) all_ones) (set_bit o.summary i) o.summary =
      q ∙ ap (λ (z : ℕ). cond (eqb z all_ones) (set_bit o.summary i) o.summary) sum in
      (λ k. record { answer = Taken i mask; occupancy = occupancy (s' k) (set o.words i (sum k)) (t k) })
      ∙ ap (taking o i) p ∙ ap (claim_in o m w) at ∙ sym (claim_found o m w n lt)

-- ---- what a claim takes

module _ (slots : ℕ) (o : Occupancy) (r : Right slots o) (m i j : ℕ) (hi : i < 64) (hj : j < 64) (room : word_of o i ≡ all_ones → ⊥) where
  -- the word, what is taken of it, and what it and the summary become
  abbrev word : ℕ
  word = word_of o i

  abbrev mask : ℕ
  mask = window_of word m j

  abbrev next : ℕ
  next = word + mask

  abbrev summary' : ℕ
  summary' = cond (eqb next all_ones) (set_bit o.summary i) o.summary

  -- the occupancy then
  abbrev after : Occupancy
  after = put slots o r i next summary' (o.count + popcount mask) hi

  -- The word is one.
  small : word < 2 ^ 64
  small = r.small i hi

  -- It shares no bit with what is taken.
  apart : Apart word mask
  apart = window_apart word m j small hj

  -- The summary bit of the word says whether it is all ones now.
  summary_same : (b : Bool) (y i : ℕ) → is_set y i ≡ false → is_set (cond b (set_bit y i) y) i ≡ b
  summary_same true y i f = ap (λ (z : ℕ). eqb z 1) (bit_set_same y i)
  summary_same false y i f = f

  -- The other summary bits stay.
  summary_other : (b : Bool) (y i k : ℕ) → (k ≡ i → ⊥) → is_set (cond b (set_bit y i) y) k ≡ is_set y k
  summary_other true y i k n = ap (λ (z : ℕ). eqb z 1) (bit_set_other y i k n)
  summary_other false y i k n = refl

  -- A set bit of the word stays set.
  stays : (b : ℕ) → is_set word b ≡ true → is_set next b ≡ true
  stays b e = ap (λ (z : ℕ). eqb z 1) (let k : bit_at next b ≡ 1 = omega (arith, add_bit b word mask apart, apart.bits b, set_one word b e) in k)

  -- The occupancy stays right.
  taking_right : Right slots after
  taking_right =
      put_right slots o r i next summary' (o.count + popcount mask) hi
      (add_lt 64 word mask small (window_lt word m j small hj) apart)
      (cond_both (λ z. z < 2 ^ 64) (eqb next all_ones) (set_bit o.summary i) o.summary (λ e. set_lt o.summary i r.top hi) (λ e. r.top))
      (summary_same (eqb next all_ones) o.summary i (r.full i hi ∙ ne_eqb word all_ones room))
      (λ k h n. summary_other (eqb next all_ones) o.summary i k n)
      (λ b h l. stays b (sym (slot_taken o i b h) ∙ r.past (i * 64 + b) (omega arith) l))
      (omega (arith, add_ones 64 word mask apart))

  -- A bit of the mask is clear in the word.
  free_bit_lem : (b : ℕ) → is_set mask b ≡ true → bit_at word b ≡ 0
  free_bit_lem b e = omega (arith, apart.bits b, set_one mask b e)

  -- Some bit of the word is clear.
  some_free : 0 < popcount (all_ones - word)
  some_free = ones_some 64 (all_ones - word) (ones_sub-lt 64 word) (λ e. room (full word small e))
    where
      full : (word : ℕ) → word < 2 ^ 64 → 2 ^ 64 - 1 - word ≡ 0 → word ≡ 2 ^ 64 - 1
      full word h e = omega arith

  -- What is taken of a word with room.
  taking_took : 0 < m → Took slots m o i mask after
  taking_took hm =
      record {
        place = hi;
        word = window_lt word m j small hj;
        number = window_ones word m j small hj;
        some = omega (arith, window_ones word m j small hj, some_free);
        in_range = λ b h e. inside b h e (dec_lt (i * 64 + b) slots);
        free = λ b h e. slot_taken o i b h ∙ ap (λ (z : ℕ). eqb z 1) (free_bit_lem b e);
        taken =
            λ b h e.
            slot_taken after i b h ∙ ap (λ (z : ℕ). is_set z b) (put_same slots o r i next summary' (o.count + popcount mask) hi)
            ∙ ap (λ (z : ℕ). eqb z 1) (let k : bit_at next b ≡ 1 = omega (arith, add_bit b word mask apart, free_bit_lem b e, set_one mask b e) in k);
        others = λ q e. other q e (ℕ_discrete (q / 64) i);
        count = refl;
      }
    where
      same : (b : ℕ) → is_set mask b ≡ false → bit_at next b ≡ bit_at word b
      same b e = omega (arith, add_bit b word mask apart, set_none mask b e)

      inside : (b : ℕ) → b < 64 → is_set mask b ≡ true → Dec (i * 64 + b < slots) → i * 64 + b < slots
      inside b h e (yes l) = l
      inside b h e (no l) =
          let t : is_set word b ≡ true = sym (slot_taken o i b h) ∙ r.past (i * 64 + b) (omega arith) (omega arith) in
          absurd (let z : ⊥ = omega (arith, free_bit_lem b e, set_one word b t) in z)

      other : (q : ℕ) → (q / 64 ≡ i → is_set mask (q % 64) ≡ false) → Dec (q / 64 ≡ i) → is_taken after q ≡ is_taken o q
      other q e (yes l) =
          ap (λ (k : ℕ). is_set (word_of after k) (q % 64)) l
          ∙ ap (λ (z : ℕ). is_set z (q % 64)) (put_same slots o r i next summary' (o.count + popcount mask) hi)
          ∙ ap (λ (z : ℕ). eqb z 1) (same (q % 64) (e l))
          ∙ ap (λ (k : ℕ). is_set (word_of o k) (q % 64)) (sym l)
      other q e (no l) = ap (λ (z : ℕ). is_set z (q % 64)) (put_other slots o r i next summary' (o.count + popcount mask) hi (q / 64) l)

-- ---- a claim of a right occupancy

-- All 64 bits of a word are set.
ones_full : popcount all_ones ≡ 64
unfolding ones_in
ones_full = refl

-- 64 words of 64 bits.
sum_full : sum 64 (λ i. 64) ≡ 4096
unfolding sum
sum_full = refl

module _ (slots : ℕ) (o : Occupancy) (r : Right slots o) (m w : ℕ) where
  -- where the scan ends, the word there, and what is taken of it
  abbrev scan : ℕ
  scan = first_room o.words (w % 64)

  abbrev index : ℕ
  index = scan % 64

  abbrev rotation : ℕ
  rotation = w / 64 % 64

  abbrev taken : ℕ
  taken = window_of (word_of o index) m rotation

  -- What holds of no claim, and of what is taken of the word with room, holds of a claim.
  by_claim : (P : Claim → Type 0) → ((m ≡ 0) ⊎ (w % 64 + 64 ≤ scan) → P (nothing o))
      → (0 < m → Right slots (taking o index taken).occupancy → Took slots m o index taken (taking o index taken).occupancy → P (taking o index taken))
      → P (claim o m w)
  unfolding claim_in taking
  by_claim P none some = go (ℕ_discrete m 0) (dec_lt scan (w % 64 + 64))
    where
      go : Dec (m ≡ 0) → Dec (scan < w % 64 + 64) → P (claim o m w)
      go (yes e) d = subst P (sym (claim_none o m w e)) (none (inl e))
      go (no n) (yes h) =
          subst P (sym (claim_found o m w n h))
          (some (omega arith)
          (taking_right slots o r m index rotation (mod-lt scan (lit< tt)) (mod-lt (w / 64) (lit< tt)) (room_found o.words (w % 64) h))
          (taking_took slots o r m index rotation (mod-lt scan (lit< tt)) (mod-lt (w / 64) (lit< tt)) (room_found o.words (w % 64) h) (omega arith)))
      go (no n) (no h) = subst P (sym (claim_past o m w (omega arith))) (none (inr (omega arith)))

  -- A claim keeps the occupancy right.
  pub claim_right : Right slots (claim o m w).occupancy
  claim_right = by_claim (λ c. Right slots c.occupancy) (λ e. r) (λ p a b. a)

  -- A claim that took something took free slots of one word, as many as it may, and nothing else.
  pub claim_took : (i mask : ℕ) → (claim o m w).answer ≡ Taken i mask → Took slots m o i mask (claim o m w).occupancy
  unfolding taking
  claim_took =
      by_claim (λ c. (i mask : ℕ) → c.answer ≡ Taken i mask → Took slots m o i mask c.occupancy)
      (λ e i mask q. absurd (let z : ◌≡◌ {A = ℕ} 0 1 = cc in let y : ⊥ = omega arith in y))
      (λ p a b i mask q.
      let e : index ≡ i = cc in
      let f : taken ≡ mask = cc in
      subst (λ (z : ℕ). Took slots m o z mask (taking o index taken).occupancy) e
      (subst (λ (z : ℕ). Took slots m o index z (taking o index taken).occupancy) f b))

  -- Where all words are all ones, all slots are taken.
  words_full : ((i : ℕ) → i < 64 → word_of o i ≡ all_ones) → o.count ≡ slots
  words_full all =
      omega (
        arith,
        count_total slots o r,
        sum_same 64 (λ i. popcount (word_of o i)) (λ i. 64) (λ i h. ap popcount (all i h) ∙ ones_full),
        sum_full,
      )

  -- A claim that finds nothing wants none, or all slots are taken.
  pub claim_nothing : (claim o m w).answer ≡ Nothing → (m ≡ 0) ⊎ (o.count ≡ slots)
  unfolding taking
  claim_nothing =
      by_claim (λ c. c.answer ≡ Nothing → (m ≡ 0) ⊎ (o.count ≡ slots))
      (λ e q. ⊎_elim inl (λ l. inr (words_full (room_none o.words (w % 64) (mod-lt w (lit< tt)) l))) e)
      (λ p a b q. absurd (let z : ◌≡◌ {A = ℕ} 0 1 = cc in let y : ⊥ = omega arith in y))

  -- A claim finds nothing, and changes nothing, where it wants none or all slots are taken.
  pub claim_finds_nothing : (m ≡ 0) ⊎ (o.count ≡ slots) → claim o m w ≡ nothing o
  claim_finds_nothing why =
      by_claim (λ c. c ≡ nothing o) (λ e. refl)
      (λ p a b.
      ⊎_elim (λ e. absurd (let z : ⊥ = omega arith in z))
      (λ e. absurd (let z : ⊥ = omega (arith, b.some, b.count, count_most slots (taking o index taken).occupancy a) in z)) why)

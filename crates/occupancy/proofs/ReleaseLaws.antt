-- A release keeps one span's occupancy right, frees what it names and nothing else, and the count follows; so does the fold of pending frees.
-- Assumes nothing.
use mathlib.Core.Path.{◌≡◌, refl, sym, ap, ap₂, subst, ◌∙◌}
use mathlib.Core.Bool.{Bool, true, false, ◌&&◌, not}
use mathlib.Core.List.{List}
use mathlib.Core.Logic.{◌⊎◌, inl, inr, ⊎_elim}
use Prim.Native.Nat.{ℕ, zero, suc, ◌+◌, ◌-◌, ◌*◌, ◌/◌, ◌%◌, ◌^◌, ◌≤◌, ◌<◌}
use native.Mathlib.Nat.{mod-lt, one-mul, zero-add, add-zero, lt_of_le_of_lt, sub-le}
use native.Mathlib.Numerals.{add-one}
use native.Mathlib.Decide.{ℕ_discrete, dec_lt}
use native.Mathlib.Omega.{arith}
use lib.Dec.{eqb, lit<}
use lib.ListN.{get_or, set}
use lib.Pow.{pow-lt, pow_pos}
use borrow.Author.Tests.{eq-eqb, ne_eqb}
use Rattle.laws.specs.Choice.{sum}
use Rattle.laws.specs.Word.{all_ones, bit_at, is_set, clear_bit, popcount}
use Rattle.laws.proofs.CondLaws.{and_true}
use Rattle.laws.proofs.FirstLaws.{tested}
use Rattle.laws.proofs.SumLaws.{sum_one, sum_same, sum_split}
use Rattle.laws.proofs.WordLaws.{ones_none, ones_pow}
use Rattle.laws.proofs.BitLaws.{lt_or_le, bit_lt, bit_zero, bit_past, bit_pow_same, bit_pow_other, bit_clear_same, bit_clear_other, clear_lt, set_one, set_none}
use Rattle.laws.proofs.MaskLaws.{Within, within_le, sub_bit, sub_ones}
use Rattle.occupancy.specs.declared.Occupancy.{Occupancy}
use Rattle.occupancy.specs.Occupied.{occupancy, word_of, release_slot, release_slots_by_word, fold_from, fold_in}
use Rattle.occupancy.specs.Right.{is_taken, Right, Held, Pending}
use Rattle.occupancy.proofs.RightLaws.{slot_word, slot_bit, slot_taken, total_past, count_total, put, put_same, put_other, put_total, put_past, put_right}

-- A bit without another that is not above it, as tests.
bit_less : (a m : ℕ) → a < 2 → m ≤ a → eqb (a - m) 1 ≡ (eqb a 1 && not (eqb m 1))
bit_less zero zero h l = refl
bit_less zero (suc m) h l = absurd (let z : ⊥ = omega arith in z)
bit_less (suc zero) zero h l = refl
bit_less (suc zero) (suc zero) h l = refl
bit_less (suc zero) (suc (suc m)) h l = absurd (let z : ⊥ = omega arith in z)
bit_less (suc (suc a)) m h l = absurd (let z : ⊥ = omega arith in z)

-- ---- the slots of a mask in one word

module _ (slots : ℕ) (o : Occupancy) (r : Right slots o) (i mask : ℕ) (held : Held slots o i mask) where
  -- the word, and the occupancy without the slots of the mask
  abbrev word : ℕ
  word = word_of o i

  abbrev rest : Occupancy
  rest = put slots o r i (word - mask) (clear_bit o.summary i) (o.count - popcount mask) held.place

  -- The slots released are taken.
  pub held_within : Within mask word
  held_within =
      record { bits = λ b. ⊎_elim (λ h. inside b h (tested (is_set mask b))) (λ h. omega (arith, bit_past 64 mask b held.word h)) (lt_or_le b 64) }
    where
      inside : (b : ℕ) → b < 64 → (is_set mask b ≡ true) ⊎ (is_set mask b ≡ false) → bit_at mask b ≤ bit_at word b
      inside b h (inl e) = omega (arith, bit_lt mask b, set_one word b (held.held b h e).1)
      inside b h (inr e) = omega (arith, set_none mask b e)

  -- The mask is not above the word.
  held_le : mask ≤ word
  held_le = within_le 64 mask word held.word held_within

  -- The bits past the last slot stay set.
  rest_past : (b : ℕ) → b < 64 → slots ≤ i * 64 + b → is_set (word - mask) b ≡ true
  rest_past b h l = ap (λ (z : ℕ). eqb z 1) (sub_bit b mask word held_within held_le ∙ one (bit_at word b) (bit_at mask b) set none)
    where
      set : bit_at word b ≡ 1
      set = set_one word b (sym (slot_taken o i b h) ∙ r.past (i * 64 + b) (omega (arith, held.place)) l)

      none : bit_at mask b ≡ 0
      none = ⊎_elim (λ e. absurd (let z : ⊥ = omega (arith, (held.held b h e).0) in z)) (λ e. set_none mask b e) (tested (is_set mask b))

      one : (a m : ℕ) → a ≡ 1 → m ≡ 0 → a - m ≡ 1
      one a m p q = omega arith

  -- No more is released than is counted.
  pub held_most : popcount mask ≤ o.count
  held_most =
      omega (
        arith,
        total_past slots rest r.within
            (put_past slots o r i (word - mask) (clear_bit o.summary i) (o.count - popcount mask) held.place rest_past),
        put_total slots o r i (word - mask) (clear_bit o.summary i) (o.count - popcount mask) held.place,
        count_total slots o r,
        sub_ones 64 mask word held_within held_le,
      )

  -- What is rest is right, where any is released.
  rest_right : (mask ≡ 0 → ⊥) → Right slots rest
  rest_right some =
      put_right slots o r i (word - mask) (clear_bit o.summary i) (o.count - popcount mask) held.place
      (lt_of_le_of_lt (sub-le word mask) (r.small i held.place)) (clear_lt o.summary i r.top)
      (ap (λ (z : ℕ). eqb z 1) (bit_clear_same o.summary i r.top held.place)
      ∙ sym (ne_eqb (word - mask) all_ones (λ e. some (none word mask (r.small i held.place) held_le e))))
      (λ j h n. ap (λ (z : ℕ). eqb z 1) (bit_clear_other o.summary i j r.top held.place h n))
      rest_past
      (omega (arith, sub_ones 64 mask word held_within held_le, held_most))
    where
      none : (word m : ℕ) → word < 2 ^ 64 → m ≤ word → word - m ≡ 2 ^ 64 - 1 → m ≡ 0
      none word m hw l e = omega arith

  -- A release by word, by cases.
  by_word : (P : Occupancy → Type 0) → (mask ≡ 0 → P o) → ((mask ≡ 0 → ⊥) → P rest) → P (release_slots_by_word o i mask)
  unfolding release_slots_by_word
  by_word P none some = elim (ℕ_discrete mask 0) [ yes e ↦ rw (eq-eqb mask 0 e) (none e) | no n ↦ rw (ne_eqb mask 0 n) (some n) ]

  -- A release by word keeps the occupancy right.
  pub word_right : Right slots (release_slots_by_word o i mask)
  word_right = by_word (Right slots) (λ e. r) rest_right

  -- It frees the slots of the mask, and no other slot of its word changes.
  pub word_same : (q : ℕ) → q / 64 ≡ i → is_taken (release_slots_by_word o i mask) q ≡ (is_taken o q && not (is_set mask (q % 64)))
  word_same q e =
      by_word (λ x. is_taken x q ≡ (is_taken o q && not (is_set mask (q % 64))))
      (λ z. sym (ap (λ (m : ℕ). is_taken o q && not (is_set m (q % 64))) z ∙ ap (λ (b : ℕ). is_taken o q && not (eqb b 1)) (bit_zero (q % 64)) ∙ and_true (is_taken o q)))
      (λ n.
      ap (λ (j : ℕ). is_set (word_of rest j) (q % 64)) e
      ∙ ap (λ (v : ℕ). is_set v (q % 64)) (put_same slots o r i (word - mask) (clear_bit o.summary i) (o.count - popcount mask) held.place)
      ∙ ap (λ (b : ℕ). eqb b 1) (sub_bit (q % 64) mask word held_within held_le)
      ∙ bit_less (bit_at word (q % 64)) (bit_at mask (q % 64)) (bit_lt word (q % 64)) (held_within.bits (q % 64))
      ∙ ap (λ (j : ℕ). is_set (word_of o j) (q % 64) && not (is_set mask (q % 64))) (sym e))

  -- No slot of another word changes.
  pub word_other : (q : ℕ) → (q / 64 ≡ i → ⊥) → is_taken (release_slots_by_word o i mask) q ≡ is_taken o q
  word_other q n =
      by_word (λ x. is_taken x q ≡ is_taken o q) (λ z. refl)
      (λ z. ap (λ (v : ℕ). is_set v (q % 64)) (put_other slots o r i (word - mask) (clear_bit o.summary i) (o.count - popcount mask) held.place (q / 64) n))

  -- The count falls by as many.
  pub word_count : (release_slots_by_word o i mask).count + popcount mask ≡ o.count
  word_count =
      by_word (λ x. x.count + popcount mask ≡ o.count) (λ z. ap (λ (m : ℕ). o.count + popcount m) z ∙ zero_count o.count)
      (λ z. omega (arith, held_most))
    where
      zero_count : (c : ℕ) → c + popcount 0 ≡ c
      zero_count c = omega (arith, ones_none 64)

-- A release of no slot changes nothing.
pub released_none : (o : Occupancy) (i mask : ℕ) → mask ≡ 0 → o ≡ release_slots_by_word o i mask
unfolding release_slots_by_word
released_none o i mask e = rw (eq-eqb mask 0 e) refl

-- The record that the code makes of a release by word.
pub released : (o : Occupancy) (i mask : ℕ) {s v c : ℕ} → (mask ≡ 0 → ⊥) → s ≡ clear_bit o.summary i → v ≡ word_of o i - mask → c ≡ popcount mask
    → occupancy s (set o.words i v) (o.count - c) ≡ release_slots_by_word o i mask
unfolding release_slots_by_word
released o i mask n p q e = rw (ne_eqb mask 0 n) (λ t. occupancy (p t) (set o.words i (q t)) (o.count - e t))

-- ---- one slot

module _ (slots : ℕ) (o : Occupancy) (r : Right slots o) (q : ℕ) (inside : q < slots) (taken : is_taken o q ≡ true) where
  -- the word and the bit of the slot
  abbrev index : ℕ
  index = q / 64

  abbrev bit : ℕ
  bit = q % 64

  -- A taken slot may be released.
  pub slot_held : Held slots o index (2 ^ bit)
  slot_held =
      record {
        place = omega (arith, r.within);
        word = pow-lt (mod-lt q (lit< tt));
        held = λ j h e. at j e (ℕ_discrete j bit);
      }
    where
      at : (j : ℕ) → is_set (2 ^ bit) j ≡ true → Dec (j ≡ bit) → (index * 64 + j < slots) × (is_set (word_of o index) j ≡ true)
      at j e (yes s) = (omega arith, ap (is_set (word_of o index)) s ∙ taken)
      at j e (no n) = absurd (let z : ⊥ = omega (arith, set_one (2 ^ bit) j e, bit_pow_other bit j n) in z)

  -- One slot is one bit.
  slot_ones : popcount (2 ^ bit) ≡ 1
  slot_ones = ones_pow 64 bit (mod-lt q (lit< tt))

  -- There is one to count.
  pub slot_counted : 0 < o.count
  slot_counted = omega (arith, held_most slots o r index (2 ^ bit) slot_held, slot_ones)

  -- A release of a slot is one of a mask.
  slot_is_word : release_slots_by_word o index (2 ^ bit) ≡ release_slot o q
  unfolding release_slot release_slots_by_word
  slot_is_word =
      let p : ℕ = 2 ^ bit in
      let e : p ≡ bit_at (word_of o index) bit * p = sym (ap (λ (z : ℕ). z * p) (set_one (word_of o index) bit taken) ∙ one-mul p) in
      rw (ne_eqb p 0 (λ z. let y : ⊥ = omega (arith, pow_pos bit) in y))
      (λ t. occupancy (clear_bit o.summary index) (set o.words index (word_of o index - e t)) (o.count - slot_ones t))

  -- A release keeps the occupancy right.
  pub release_right : Right slots (release_slot o q)
  release_right = subst (Right slots) slot_is_word (word_right slots o r index (2 ^ bit) slot_held)

  -- The slot is free.
  pub release_free : is_taken (release_slot o q) q ≡ false
  release_free =
      ap (λ (x : Occupancy). is_taken x q) (sym slot_is_word) ∙ word_same slots o r index (2 ^ bit) slot_held q refl
      ∙ ap₂ (λ (x : Bool) (m : ℕ). x && not (eqb m 1)) taken (bit_pow_same bit)

  -- No other slot changes.
  pub release_others : (p : ℕ) → (p ≡ q → ⊥) → is_taken (release_slot o q) p ≡ is_taken o p
  release_others p n = ap (λ (x : Occupancy). is_taken x p) (sym slot_is_word) ∙ go (ℕ_discrete (p / 64) index)
    where
      go : Dec (p / 64 ≡ index) → is_taken (release_slots_by_word o index (2 ^ bit)) p ≡ is_taken o p
      go (yes e) =
          word_same slots o r index (2 ^ bit) slot_held p e
          ∙ ap (λ (m : ℕ). is_taken o p && not (eqb m 1)) (bit_pow_other bit (p % 64) (λ z. n (let y : p ≡ q = omega arith in y)))
          ∙ and_true (is_taken o p)
      go (no m) = word_other slots o r index (2 ^ bit) slot_held p m

  -- The count falls by one.
  pub release_count : (release_slot o q).count + 1 ≡ o.count
  release_count =
      omega (arith, word_count slots o r index (2 ^ bit) slot_held, slot_ones, ap (λ (x : Occupancy). x.count) slot_is_word)

-- ---- the fold of pending words

-- The code's loop starts.
pub fold_start : (o : Occupancy) (pending : List ℕ) → fold_from 64 0 pending o ≡ fold_in o pending
unfolding fold_in
fold_start o pending = refl

-- One turn of the code's loop.
pub fold_turn : (i : ℕ) (pending : List ℕ) (o o' x : Occupancy) → i < 64 → fold_from (64 - i) i pending o ≡ x
    → o' ≡ release_slots_by_word o i (get_or pending i 0)
    → fold_from (64 - (i + 1)) (i + 1) pending o' ≡ x
unfolding fold_from
fold_turn i pending o o' x h e p =
    ap₂ (λ (k : ℕ) (y : Occupancy). fold_from (64 - (i + 1)) k pending y) (add-one i) p
    ∙ ap (λ (d : ℕ). fold_from d i pending o) (let f : suc (64 - (i + 1)) ≡ 64 - i = omega arith in f) ∙ e

-- The code's loop ends.
pub fold_done : (i : ℕ) (pending : List ℕ) (o : Occupancy) → 64 ≤ i → fold_from (64 - i) i pending o ≡ o
unfolding fold_from
fold_done i pending o h = ap (λ (d : ℕ). fold_from d i pending o) (let e : 64 - i ≡ 0 = omega arith in e)

-- What the fold of the pending words from word i on leaves.
record Folded (slots : ℕ) (before : Occupancy) (from : ℕ) (pending : List ℕ) (after : Occupancy) (freed : ℕ) : Type 0 where
  -- the occupancy stays right
  pub right : Right slots after
  -- no slot of a word before changes
  pub kept : (q : ℕ) → q < from * 64 → is_taken after q ≡ is_taken before q
  -- the pending slots are free, and no other slot changes
  pub free : (q : ℕ) → from * 64 ≤ q → q < 4096 → is_taken after q ≡ (is_taken before q && not (is_set (get_or pending (q / 64) 0) (q % 64)))
  -- the count falls by as many
  pub count : after.count + freed ≡ before.count

module _ (slots : ℕ) (pending : List ℕ) where
  -- the occupancy without the pending slots of word i
  abbrev pub less : Occupancy → ℕ → Occupancy
  less o i = release_slots_by_word o i (get_or pending i 0)

  -- how many slots are pending in d words from word i on
  abbrev freed_in : ℕ → ℕ → ℕ
  freed_in d i = sum d (λ j. popcount (get_or pending (i + j) 0))

  -- The pending slots of the next word may be released.
  pub next_held : (o : Occupancy) (i : ℕ) → i < 64 → Pending slots o i pending → Held slots o i (get_or pending i 0)
  next_held o i h p =
      record {
        place = h;
        word = p.small i h;
        held =
            λ b l e.
            let set : is_set (get_or pending ((i * 64 + b) / 64) 0) ((i * 64 + b) % 64) ≡ true =
            ap₂ (λ (j c : ℕ). is_set (get_or pending j 0) c) (slot_word i b l) (slot_bit i b l) ∙ e in
            let k = p.held (i * 64 + b) (omega arith) (omega arith) set in
            (k.0, sym (slot_taken o i b l) ∙ k.1);
      }

  -- Those of the words behind it stay pending.
  rest_pending : (o : Occupancy) (i : ℕ) → Right slots o → i < 64 → Pending slots o i pending → Pending slots (less o i) (suc i) pending
  rest_pending o i r h p =
      record {
        small = p.small;
        held =
            λ q l u e.
            let k = p.held q (omega arith) u e in
            let same : is_taken (less o i) q ≡ is_taken o q =
            word_other slots o r i (get_or pending i 0) (next_held o i h p) q (λ z. let y : ⊥ = omega arith in y) in
            (k.0, same ∙ k.1);
      }

  -- Both stand after one turn of the code's loop.
  pub next_right : (o o' : Occupancy) (i : ℕ) → i < 64 → Right slots o × Pending slots o i pending → o' ≡ less o i
      → ((n : ℕ) × (Right n o' × Pending n o' (i + 1) pending))
  next_right o o' i h p e = (
    slots,
    subst (λ (x : Occupancy). Right slots x × Pending slots x (i + 1) pending) (sym e)
        (word_right slots o p.0 i (get_or pending i 0) (next_held o i h p.1), rw add-one (rest_pending o i p.0 h p.1)),
  )

  -- One word more of the fold.
  fold_word : (d i : ℕ) (o x : Occupancy) → Right slots o → Held slots o i (get_or pending i 0)
      → Folded slots (less o i) (suc i) pending x (freed_in d (suc i)) → Folded slots o i pending x (freed_in (suc d) i)
  fold_word d i o x r held rest =
      let m : ℕ = get_or pending i 0 in
      record {
        right = rest.right;
        kept = λ q l. rest.kept q (omega arith) ∙ word_other slots o r i m held q (λ z. let y : ⊥ = omega arith in y);
        free =
            λ q l u.
            elim (dec_lt q (suc i * 64)) [
              | yes y ↦
                  let z : q / 64 ≡ i = omega arith in
                  rest.kept q y ∙ word_same slots o r i m held q z
                  ∙ ap (λ (j : ℕ). is_taken o q && not (is_set (get_or pending j 0) (q % 64))) (sym z)
              | no y ↦
                  rest.free q (omega arith) u
                  ∙ ap (λ (b : Bool). b && not (is_set (get_or pending (q / 64) 0) (q % 64)))
                  (word_other slots o r i m held q (λ z. let y : ⊥ = omega arith in y))
            ];
        count =
            omega (
              arith,
              rest.count,
              word_count slots o r i m held,
              freed_word d i,
            );
      }
    where
      freed_word : (d i : ℕ) → freed_in (suc d) i ≡ popcount (get_or pending i 0) + freed_in d (suc i)
      freed_word d i =
          ap (λ (z : ℕ). sum z (λ j. popcount (get_or pending (i + j) 0))) (let y : suc d ≡ 1 + d = omega arith in y)
          ∙ sum_split 1 d (λ j. popcount (get_or pending (i + j) 0))
          ∙ ap₂ ◌+◌ (sum_one (λ j. popcount (get_or pending (i + j) 0)) ∙ ap (λ (z : ℕ). popcount (get_or pending z 0)) (add-zero i))
          (sum_same d (λ j. popcount (get_or pending (i + (1 + j)) 0)) (λ j. popcount (get_or pending (suc i + j) 0))
          (λ j l. ap (λ (z : ℕ). popcount (get_or pending z 0)) (let y : i + (1 + j) ≡ suc i + j = omega arith in y)))

  -- The fold, word by word.
  fold_from_lem : (d i : ℕ) (o : Occupancy) → i + d ≡ 64 → Right slots o → Pending slots o i pending
      → Folded slots o i pending (fold_from d i pending o) (freed_in d i)
  unfolding fold_from sum
  fold_from_lem zero i o e r p =
      record {
        right = r;
        kept = λ q h. refl;
        free = λ q l h. absurd (let z : ⊥ = omega arith in z);
        count = omega arith;
      }
  fold_from_lem (suc d) i o e r p =
      let h : i < 64 = omega arith in
      let held : Held slots o i (get_or pending i 0) = next_held o i h p in
      fold_word d i o (fold_from d (suc i) pending (less o i)) r held
      (fold_from_lem d (suc i) (less o i) (omega arith) (word_right slots o r i (get_or pending i 0) held) (rest_pending o i r h p))

  module _ (o : Occupancy) (r : Right slots o) (p : Pending slots o 0 pending) where
    -- The fold of all 64 words.
    whole : Folded slots o 0 pending (fold_in o pending) (freed_in 64 0)
    unfolding fold_in
    whole = fold_from_lem 64 0 o refl r p

    -- The fold of pending words keeps the occupancy right.
    pub fold_right : Right slots (fold_in o pending)
    fold_right = whole.right

    -- It frees the pending slots, and no other slot changes.
    pub fold_taken : (q : ℕ) → q < 4096 → is_taken (fold_in o pending) q ≡ (is_taken o q && not (is_set (get_or pending (q / 64) 0) (q % 64)))
    fold_taken q h = whole.free q (omega arith) h

    -- The count falls by as many.
    pub fold_count : (fold_in o pending).count + sum 64 (λ j. popcount (get_or pending j 0)) ≡ o.count
    fold_count = sym (λ t. (fold_in o pending).count + sum 64 (λ j. popcount (get_or pending (zero-add j t) 0))) ∙ whole.count

-- The cells of a span by its words: each word is right, and the set bits of all words are the occupied slots and the bits past the end. Assumes nothing.
use mathlib.Core.Path.{◌≡◌, refl, sym, ap, ap₂, subst, ◌∙◌}
use mathlib.Core.Bool.{Bool, true, cond}
use mathlib.Core.List.{List}
use Prim.Native.Nat.{ℕ, zero, suc, ◌+◌, ◌-◌, ◌*◌, ◌/◌, ◌%◌, ◌^◌, ◌<◌, ◌≤◌}
use native.Mathlib.Nat.{mod-lt, mul-le-mul_right}
use native.Mathlib.Omega.{arith}
use lib.Dec.{lit<}
use Rattle.laws.specs.Choice.{sum}
use Rattle.laws.specs.Word.{bit_at, is_set}
use Rattle.laws.proofs.SumLaws.{sum_same, sum_split, sum_ones}
use Rattle.laws.proofs.BitLaws.{bit_cond, ones_sum}
use Rattle.size_classes.specs.SlotSizes.{slot_size}
use Rattle.size_classes.specs.Slots.{most_slots, slots_per_span}
use Rattle.size_classes.proofs.SlotTheorems.{slots_most}
use Rattle.occupancy.proofs.RightLaws.{slot_word, slot_bit}
use Rattle.tables.specs.Shape.{Shape, classes, bitmap_cells, record_cells, class_heap}
use Rattle.tables.specs.Cells.{Tables, bitmap_word, local_word, remote_word, class_at, owner_at, occupied_at}
use Rattle.span.specs.State.{is_occupied, is_pending}
use Rattle.span.specs.Room.{WordCells, FieldCells}
use Rattle.sound.specs.Sound.{home_of, set_bits, SpanFilled}
use Rattle.sound_spans.specs.WordSound.{UsedCells, WordFilled, word_bits}

-- A slot is bit q % 64 of word q / 64.
slot_is : (q : ℕ) → q / 64 * 64 + q % 64 ≡ q
slot_is q = omega arith

-- The word of a slot is one of 64.
word_low : (q : ℕ) → q < most_slots → q / 64 < 64
unfolding most_slots
word_low q h = omega arith

slot_low : (i b : ℕ) → i < 64 → b < 64 → i * 64 + b < most_slots
unfolding most_slots
slot_low i b hi hb = omega arith

-- The cells of span s are there.
pub words_there : {bits spans : List ℕ} {used s : ℕ} → UsedCells bits spans used → s < used → WordCells bits s
words_there {s = s} u h = record { there = omega (arith, mul-le-mul_right {m = suc s} bitmap_cells h, u.words) }

pub fields_there : {bits spans : List ℕ} {used s : ℕ} → UsedCells bits spans used → s < used → FieldCells spans s
fields_there {s = s} u h = record { there = omega (arith, mul-le-mul_right {m = suc s} record_cells h, u.fields) }

-- The slots of a class, whichever heap it is of.
pub slots_home : (g : Shape) (t : Tables) (s : ℕ) → (home_of g t s).slots ≡ slots_per_span (slot_size g.sizes (class_at t s))
unfolding class_heap
slots_home g t s = refl

pub home_most : (g : Shape) (t : Tables) (s : ℕ) → (home_of g t s).slots ≤ most_slots
home_most g t s = subst (λ (n : ℕ). n ≤ most_slots) (sym (slots_home g t s)) (slots_most (slot_size g.sizes (class_at t s)))

module _ (t : Tables) (s : ℕ) where
  -- Slot i * 64 + b is bit b of word i.
  occupied_bit : (i b : ℕ) → b < 64 → is_occupied t s (i * 64 + b) ≡ is_set (bitmap_word t s (local_word i)) b
  occupied_bit i b h = ap₂ (λ (j c : ℕ). is_set (bitmap_word t s (local_word j)) c) (slot_word i b h) (slot_bit i b h)

  pending_bit : (i b : ℕ) → b < 64 → is_pending t s (i * 64 + b) ≡ is_set (bitmap_word t s (remote_word i)) b
  pending_bit i b h = ap₂ (λ (j c : ℕ). is_set (bitmap_word t s (remote_word j)) c) (slot_word i b h) (slot_bit i b h)

  -- The occupied slots of n words are the set bits of n words.
  bits_sum : (n : ℕ) → set_bits t s (n * 64) ≡ word_bits t s n
  unfolding sum
  bits_sum zero = refl
  bits_sum (suc n) =
      ap (set_bits t s) (let e : suc n * 64 ≡ n * 64 + 64 = omega arith in e)
      ∙ sum_split (n * 64) 64 (λ q. cond (is_occupied t s q) 1 0)
      ∙ ap₂ ◌+◌ (bits_sum n)
      (sum_same 64 (λ b. cond (is_occupied t s (n * 64 + b)) 1 0) (bit_at (bitmap_word t s (local_word n)))
      (λ b h. ap (λ (z : Bool). cond z 1 0) (occupied_bit n b h) ∙ bit_cond (bitmap_word t s (local_word n)) b)
      ∙ ones_sum 64 (bitmap_word t s (local_word n)))

  -- Where the bits past the last slot are set, the set bits are those of the slots and those.
  bits_past :
      (slots : ℕ) → slots ≤ most_slots → ((q : ℕ) → q < most_slots → slots ≤ q → is_occupied t s q ≡ true) →
      word_bits t s 64 ≡ set_bits t s slots + (most_slots - slots)
  unfolding most_slots
  bits_past slots h past =
      let e : slots + (4096 - slots) ≡ 64 * 64 = omega arith in
      sym (bits_sum 64) ∙ ap (set_bits t s) (sym e) ∙ sum_split slots (4096 - slots) (λ q. cond (is_occupied t s q) 1 0)
      ∙ ap (λ (z : ℕ). set_bits t s slots + z)
      (sum_ones (4096 - slots) (λ i. cond (is_occupied t s (slots + i)) 1 0)
      (λ i l. ap (λ (z : Bool). cond z 1 0) (past (slots + i) (omega arith) (omega arith))))

module _ (g : Shape) (t : Tables) (s : ℕ) where
  -- Each word of a right span is right.
  pub filled_word : SpanFilled g t s → (i : ℕ) → i < 64 → WordFilled g t s i
  filled_word f i hi =
      record {
        full = f.summary i hi;
        some = f.remote i hi;
        past = λ b hb l. sym (occupied_bit t s i b hb) ∙ f.past (i * 64 + b) (slot_low i b hi hb) l;
        pending =
            λ b hb p.
            let r = f.pending (i * 64 + b) (slot_low i b hi hb) (pending_bit t s i b hb ∙ p) in
            (r.0, sym (occupied_bit t s i b hb) ∙ r.1);
      }

  module _ (w : (i : ℕ) → i < 64 → WordFilled g t s i) where
    words_past : (q : ℕ) → q < most_slots → (home_of g t s).slots ≤ q → is_occupied t s q ≡ true
    words_past q hq h = (w (q / 64) (word_low q hq)).past (q % 64) (mod-lt q (lit< tt)) (omega (arith, slot_is q))

    words_pending :
        (q : ℕ) → q < most_slots → is_pending t s q ≡ true → (q < (home_of g t s).slots) × (is_occupied t s q ≡ true)
    words_pending q hq p =
        let r = (w (q / 64) (word_low q hq)).pending (q % 64) (mod-lt q (lit< tt)) p in
        (omega (arith, r.0, slot_is q), r.1)

    -- The occupied slots are the set bits without those past the end.
    pub words_count : word_bits t s 64 ≡ set_bits t s (home_of g t s).slots + (most_slots - (home_of g t s).slots)
    words_count = bits_past t s (home_of g t s).slots (home_most g t s) words_past

    -- So a span is right whose words are, and whose count is that.
    pub words_filled :
        class_at t s < classes g → owner_at t s < g.heaps → ((i : ℕ) → i < bitmap_cells → bitmap_word t s i < 2 ^ 64) →
        word_bits t s 64 - (most_slots - (home_of g t s).slots) ≡ occupied_at t s →
        SpanFilled g t s
    words_filled hc ho hw e =
        record {
          class = hc;
          owner = ho;
          word = hw;
          occupied = sym e ∙ omega (arith, words_count);
          past = words_past;
          summary = λ i hi. (w i hi).full;
          remote = λ i hi. (w i hi).some;
          pending = words_pending;
        }

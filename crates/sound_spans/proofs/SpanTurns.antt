-- The turns of the check of a span: one word more is right, all words make the span right, and a fault of a right span is none. Assumes nothing.
use mathlib.Core.Path.{◌≡◌, refl, sym, ap, subst, ◌∙◌}
use mathlib.Core.List.{List}
use Prim.Native.Nat.{ℕ, ◌+◌, ◌-◌, ◌^◌, ◌<◌, ◌≤◌}
use native.Mathlib.Omega.{arith}
use lib.ListN.{length, get_or}
use borrow.Author.Count.{below_more, below_none}
use Rattle.laws.specs.Choice.{sum}
use Rattle.laws.specs.Word.{popcount}
use Rattle.laws.proofs.SumSteps.{sum_next}
use Rattle.laws.proofs.WordLaws.{ones_most}
use Rattle.size_classes.specs.SlotSizes.{slot_size}
use Rattle.size_classes.specs.Slots.{most_slots, slots_per_span}
use Rattle.tables.specs.Shape.{Shape, shape, bitmap_cells}
use Rattle.tables.specs.Cells.{Tables, tables, bitmap_cell, span_cell, owner_field, occupied_field, local_word, remote_word}
use Rattle.sound.specs.Sound.{home_of, SpanFilled}
use Rattle.sound_spans.specs.WordSound.{WordSound, WordFilled, SpanRead, WordsPassed}
use Rattle.sound_spans.proofs.SpanWords.{slots_home, filled_word, words_count, words_filled}

-- The same word by other names of its numbers.
pub renamed :
    {a b c x p a' b' c' x' p' : ℕ} (i : ℕ) → a ≡ a' → b ≡ b' → c ≡ c' → x ≡ x' → p ≡ p' → WordSound a b c i x p → WordSound a' b' c' i x' p'
renamed {a} {b} {c} {x} {p} {a'} {b'} {c'} {x'} {p'} i ea eb ec ex ep w =
    subst (λ (z : ℕ). WordSound a' b' c' i x' z) ep
    (subst (λ (z : ℕ). WordSound a' b' c' i z p) ex
    (subst (λ (z : ℕ). WordSound a' b' z i x p) ec
    (subst (λ (z : ℕ). WordSound a' z c i x p) eb (subst (λ (z : ℕ). WordSound z b c i x p) ea w))))

module _ (bits : List ℕ) (s slots summary pending : ℕ) where
  -- No word is passed yet.
  pub passed_none : WordsPassed bits s slots summary pending 0 0
  unfolding sum
  passed_none = record { few = omega arith; most = omega arith; counted = refl; each = below_none _ }

  -- One word more.
  pub passed_more :
      (i total x p : ℕ) → i < 64 → x ≡ get_or bits (bitmap_cell s (local_word i)) 0 → p ≡ get_or bits (bitmap_cell s (remote_word i)) 0 →
      WordSound slots summary pending i x p → WordsPassed bits s slots summary pending i total →
      WordsPassed bits s slots summary pending (i + 1) (total + popcount x)
  passed_more i total x p h ex ep w o =
      record {
        few = omega arith;
        most = omega (arith, o.most, ones_most 64 x);
        counted = omega (arith, o.counted, ap popcount ex, sum_next i (λ k. popcount (get_or bits (bitmap_cell s (local_word k)) 0)));
        each = below_more _ _ o.each (renamed i refl refl refl ex ep w);
      }

module _ {sizes bits spans : List ℕ} {s class slots summary pending : ℕ} (r : SpanRead sizes bits spans s class slots summary pending)
    (e h : List ℕ) (most n heaps used : ℕ) where
  abbrev g : Shape
  g = shape sizes most heaps n

  abbrev t : Tables
  t = tables bits spans e h used

  -- The slots that were read are those of the span's class.
  slots_are : slots ≡ (home_of g t s).slots
  slots_are = r.of_slots ∙ ap (λ (z : ℕ). slots_per_span (slot_size sizes z)) r.of_class ∙ sym (slots_home g t s)

  module _ {total : ℕ} (o : WordsPassed bits s slots summary pending 64 total) where
    words : (i : ℕ) → i < 64 → WordFilled g t s i
    words i l = renamed i slots_are r.of_summary r.of_pending refl refl (o.each i l)

    -- There are as many set bits as bits past the last slot.
    pub enough : 4096 - slots ≤ total
    unfolding most_slots
    enough = omega (arith, o.counted, words_count g t s words, slots_are)

    -- Such a span is right where its count is right, and its class and owner are there.
    pub span_right :
        {owner count : ℕ} → class < length sizes → owner < heaps → owner ≡ get_or spans (span_cell s owner_field) 0 →
        ((i : ℕ) → i < bitmap_cells → get_or bits (bitmap_cell s i) 0 < 2 ^ 64) →
        total - (4096 - slots) ≡ count → count ≡ get_or spans (span_cell s occupied_field) 0 → SpanFilled g t s
    unfolding most_slots
    span_right hc ho eo small ec oc =
        words_filled g t s words (omega (arith, r.of_class)) (omega arith) small
        (ap (λ (z : ℕ). z - (4096 - (home_of g t s).slots)) (sym o.counted) ∙ ap (λ (z : ℕ). total - (4096 - z)) (sym slots_are) ∙ ec ∙ oc)

    -- A right span has that count.
    pub count_right : {count : ℕ} → count ≡ get_or spans (span_cell s occupied_field) 0 → SpanFilled g t s → total - (4096 - slots) ≡ count
    unfolding most_slots
    count_right oc f = omega (arith, f.occupied, words_count g t s words, o.counted, slots_are)

  -- A word of a right span is right.
  pub word_right :
      {i x p : ℕ} → i < 64 → x ≡ get_or bits (bitmap_cell s (local_word i)) 0 → p ≡ get_or bits (bitmap_cell s (remote_word i)) 0 →
      SpanFilled g t s → WordSound slots summary pending i x p
  word_right {i} hi ex ep f = renamed i (sym slots_are) (sym r.of_summary) (sym r.of_pending) (sym ex) (sym ep) (filled_word g t s f i hi)

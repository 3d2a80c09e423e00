-- What the tests of the class summary come to, and that a sound table can be counted. Assumes nothing.
use mathlib.Core.Path.{◌≡◌, sym, subst, ◌∙◌}
use mathlib.Core.Bool.{Bool, true, false, and-false, cond}
use mathlib.Core.List.{List}
use Prim.Native.Nat.{ℕ, ◌*◌, ◌^◌, ◌<◌, ◌≤◌}
use native.Mathlib.Nat.{mul-le-mul_right}
use native.Mathlib.Omega.{arith}
use lib.ListN.{length}
use borrow.Author.Tests.{eq-eqb, ne_eqb}
use Rattle.laws.specs.Choice.{Says}
use Rattle.laws.proofs.CondLaws.{cond_both}
use Rattle.laws.proofs.SumLaws.{sum_most}
use Rattle.size_classes.specs.SlotSizes.{slot_size}
use Rattle.size_classes.specs.Slots.{most_slots}
use Rattle.magazine_layout.specs.Layout.{most_capacity}
use Rattle.magazine_layout.proofs.LayoutLaws.{capacity_most}
use Rattle.tables.specs.Shape.{Shape, classes, bitmap_cells, record_cells, class_heap}
use Rattle.tables.specs.Cells.{Tables, as_stated, occupied_at, count_at}
use Rattle.tables.specs.Stated.{Stated}
use Rattle.tables.proofs.StatedLaws.{stated_passed}
use Rattle.span.specs.State.{is_occupied}
use Rattle.sound.specs.Sound.{home_of, Sound}
use Rattle.sound.specs.Decided.{is_sound}
use Rattle.sound_laws.proofs.SoundTested.{sound_says}
use Rattle.sound_spans.proofs.SpanWords.{home_most}
use Rattle.sound_spans.specs.WordSound.{UsedCells}
use Rattle.calls.specs.Summary.{summary_cells, class_records, summed, summary}
use Rattle.summing.specs.Tally.{SpansCount, HeadsCount, Countable}

-- ---- the answers

module _ (g : Shape) (t : Tables) (out : List ℕ) where
  -- A table that is not as stated is refused with 1.
  pub summary_refused : (r : Bool) → r ≡ as_stated g t → r ≡ false → summed 1 out ≡ summary g t out
  unfolding summary
  summary_refused r e f = rw (sym e ∙ f)

  -- Records of another length are refused with 1.
  pub summary_other_length : (length out ≡ classes g * summary_cells → ⊥) → summed 1 out ≡ summary g t out
  unfolding summary
  summary_other_length n = rw (ne_eqb (length out) (classes g * summary_cells) n, and-false (as_stated g t))

  module _ (r : Bool) (e : r ≡ as_stated g t) (f : r ≡ true) (l : length out ≡ classes g * summary_cells) where
    -- An unsound table is refused with 2.
    pub summary_unsound : (q : Bool) → q ≡ is_sound g t → q ≡ false → summed 2 out ≡ summary g t out
    unfolding summary
    summary_unsound q d n = rw (sym e ∙ f, eq-eqb (length out) (classes g * summary_cells) l, sym d ∙ n)

    -- The records of a sound table are given.
    pub summary_made :
        (q : Bool) {out₁ : List ℕ} → q ≡ is_sound g t → q ≡ true → out₁ ≡ class_records (classes g) 0 g t → summed 0 out₁ ≡ summary g t out
    unfolding summary
    summary_made q d n m = rw (sym e ∙ f, eq-eqb (length out) (classes g * summary_cells) l, sym d ∙ n, m)

-- ---- a sound table can be counted

module _ (g : Shape) (t : Tables) (few : g.most ≤ 2 ^ 32) (s : Stated g t) (o : Sound g t) where
  -- No more slots are occupied than a span can have.
  occupied_most : (r : ℕ) → r < t.used → occupied_at t r ≤ most_slots
  occupied_most r h =
      let n : occupied_at t r ≤ (home_of g t r).slots =
      subst (λ (z : ℕ). z ≤ (home_of g t r).slots) (sym (o.spans r h).cells.occupied)
      (sum_most (home_of g t r).slots (λ q. cond (is_occupied t r q) 1 0)
      (λ q. cond_both (λ (z : ℕ). z ≤ 1) (is_occupied t r q) 1 0 (λ e. omega arith) (λ e. omega arith))) in
      omega (arith, n, home_most g t r)

  used_cells : UsedCells t.bits t.spans t.used
  used_cells =
      record {
        words = subst (λ (z : ℕ). t.used * bitmap_cells ≤ z) (sym s.lengths.bits) (mul-le-mul_right bitmap_cells o.within);
        fields = subst (λ (z : ℕ). t.used * record_cells ≤ z) (sym s.lengths.spans) (mul-le-mul_right record_cells o.within);
      }

  spans_count : SpansCount g t
  spans_count =
      record {
        cells = used_cells;
        few = omega (arith, o.within, s.shape.few_spans);
        class = λ r h. (o.spans r h).cells.class;
        occupied = occupied_most;
      }

  count_most : (h : ℕ) → h < g.heaps → (c : ℕ) → c < classes g → count_at t (class_heap g h c) ≤ most_capacity
  unfolding class_heap
  count_most h hh c hc =
      omega (arith, (o.class_heaps h hh c hc).magazine.count, capacity_most (slot_size g.sizes c))

  heads_count : HeadsCount g t
  heads_count = record { few = s.shape.few_heaps; long = s.lengths.heads; counts = count_most }

-- The tests that the summary makes are enough.
pub sound_countable :
    (g : Shape) (t : Tables) (out : List ℕ) (r q : Bool) → g.most ≤ 2 ^ 32 → r ≡ as_stated g t → r ≡ true → q ≡ is_sound g t → q ≡ true →
    length out ≡ classes g * summary_cells →
    Countable g t out
sound_countable g t out r q few e f d n l =
    let s = stated_passed g t (sym e ∙ f) in
    let o : Sound g t = subst (λ (b : Bool). Says b (Sound g t)) (sym d ∙ n) (sound_says g t) in
    record { of_spans = spans_count g t few s o; of_heads = heads_count g t few s o; long = l }

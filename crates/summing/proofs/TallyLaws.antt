-- Laws of what is counted: one word, one heap, one span more, and that nothing passes 64 bits. Assumes nothing.
use mathlib.Core.Path.{◌≡◌, refl, sym, ap, ap₂, subst, ◌∙◌}
use mathlib.Core.Bool.{cond}
use mathlib.Core.List.{List}
use Prim.Native.Nat.{ℕ, ◌+◌, ◌*◌, ◌^◌, ◌<◌, ◌≤◌}
use native.Mathlib.Omega.{arith}
use lib.Arith.{digits_lt}
use lib.Dec.{eqb}
use lib.ListN.{length, get_or, replicate, length-set, length-replicate, get_or-replicate}
use Rattle.laws.specs.Choice.{sum}
use Rattle.laws.specs.Word.{popcount}
use Rattle.laws.proofs.CondLaws.{cond_both}
use Rattle.laws.proofs.SumBounds.{sum_bound}
use Rattle.laws.proofs.SumSteps.{sum_next}
use Rattle.laws.proofs.WordLaws.{ones_most}
use Rattle.size_classes.specs.Slots.{most_slots}
use Rattle.magazine_layout.specs.Layout.{most_capacity}
use Rattle.tables.specs.Shape.{Shape, classes, head_cells, row_of, class_heap}
use Rattle.tables.specs.Cells.{Tables, bitmap_cell, remote_word, class_at, occupied_at, head_cell, counter, count_at}
use Rattle.tables.proofs.CellLaws.{head_in, list_in}
use Rattle.sound_spans.proofs.SpanWords.{words_there, fields_there}
use Rattle.calls.specs.Summary.{summary_cells}
use Rattle.summing.specs.Tally.{spans_cell, used_cell, pending_cell, summary_cell, summary_at, pending_in, tally, cached_in, added, span_added, SpanFits, SpansCount, HeadsCount, Tallied}
use Rattle.summing.proofs.ColumnLaws.{cell_in, name_in, column_rest, column_added, column_same}

-- A row has a head for each row before it.
row_least : (r : ℕ) → r ≤ head_cell r counter
unfolding head_cell head_cells
row_least r = omega arith

-- ---- one more

-- No word.
pub pending_none : (bits : List ℕ) (s : ℕ) → 0 ≡ pending_in bits s 0
unfolding pending_in sum
pending_none bits s = refl

-- One word more.
pub pending_more :
    (bits : List ℕ) (s i : ℕ) {total w k : ℕ} → total ≡ pending_in bits s i → w ≡ get_or bits (bitmap_cell s (remote_word i)) 0 → k ≡ popcount w →
    total + k ≡ pending_in bits s (i + 1)
unfolding pending_in
pending_more bits s i e w k =
    ap₂ ◌+◌ e (k ∙ ap (λ (z : ℕ). popcount z) w) ∙ sym (sum_next i (λ j. popcount (get_or bits (bitmap_cell s (remote_word j)) 0)))

-- No heap.
pub cached_none : (g : Shape) (t : Tables) (c : ℕ) → 0 ≡ cached_in g t 0 c
unfolding cached_in sum
cached_none g t c = refl

-- One heap more.
pub cached_more :
    (g : Shape) (t : Tables) (h c : ℕ) {total k : ℕ} → total ≡ cached_in g t h c → k ≡ get_or t.heads (head_cell (h * classes g + c) counter) 0 →
    total + k ≡ cached_in g t (h + 1) c
unfolding cached_in class_heap row_of
cached_more g t h c e k = ap₂ ◌+◌ e k ∙ sym (sum_next h (λ i. count_at t (class_heap g i c)))

-- No span.
pub tally_none : (t : Tables) (f : ℕ → ℕ) (c : ℕ) → 0 ≡ tally t 0 f c
unfolding tally sum
tally_none t f c = refl

-- One span more.
pub tally_more :
    (t : Tables) (n : ℕ) (f : ℕ → ℕ) (c : ℕ) → tally t n f c + cond (eqb (class_at t n) c) (f n) 0 ≡ tally t (n + 1) f c
unfolding tally
tally_more t n f c = sym (sum_next n (λ s. cond (eqb (class_at t s) c) (f s) 0))

-- ---- where the counts stand

module _ {g : Shape} {t : Tables} {h c : ℕ} (o : HeadsCount g t) (hh : h < g.heaps) (hc : c < classes g) where
  -- The count of a class of a heap is among the heads.
  pub row_there : head_cell (h * classes g + c) counter < length t.heads
  row_there = subst (λ (z : ℕ). head_cell (h * classes g + c) counter < z) (sym o.long) (head_in (digits_lt hh hc) (list_in (omega arith)))

  -- There are more heads than rows before it.
  pub row_below : h * classes g + c < length t.heads
  row_below = omega (arith, row_least (h * classes g + c), row_there)

  -- It is no more than a magazine can have.
  pub row_most : get_or t.heads (head_cell (h * classes g + c) counter) 0 ≤ most_capacity
  unfolding class_heap row_of
  row_most = o.counts h hh c hc

-- ---- how much

-- A span has no more pending slots than slots.
pub pending_most : (bits : List ℕ) (s : ℕ) → pending_in bits s 64 ≤ most_slots
unfolding pending_in most_slots
pending_most bits s = sum_bound 64 64 (λ i. popcount (get_or bits (bitmap_cell s (remote_word i)) 0)) (λ i h. ones_most 64 (get_or bits (bitmap_cell s (remote_word i)) 0))

-- A tally of numbers that are at most m.
pub tally_most : (t : Tables) (n m : ℕ) (f : ℕ → ℕ) (c : ℕ) → ((s : ℕ) → s < n → f s ≤ m) → tally t n f c ≤ n * m
unfolding tally
tally_most t n m f c e =
    sum_bound n m (λ s. cond (eqb (class_at t s) c) (f s) 0)
    (λ s h. cond_both (λ (z : ℕ). z ≤ m) (eqb (class_at t s) c) (f s) 0 (λ q. e s h) (λ q. omega arith))

-- What is counted of the spans before one, and of that one, fits.
few_of : {n used v k : ℕ} → used ≤ 2 ^ 32 → n < used → v ≤ n * most_slots → k ≤ most_slots → v + k < 2 ^ 64
unfolding most_slots
few_of u h v k = omega arith

one_most : 1 ≤ most_slots
unfolding most_slots
one_most = omega arith

-- The spans of a class are few.
pub spans_few :
    {g : Shape} {t : Tables} {out : List ℕ} → SpansCount g t → Tallied g t t.used out → (c : ℕ) → c < classes g → summary_at out c spans_cell ≤ 2 ^ 32
spans_few {t = t} o w c l = omega (arith, w.of_spans.at c l, tally_most t t.used 1 (λ s. 1) c (λ s h. omega arith), o.few)

-- ---- one span is counted

-- An addition leaves the length.
pub length_added : (out : List ℕ) (c f v : ℕ) → length (added out c f v) ≡ length out
unfolding added
length_added out c f v = length-set out (summary_cell c f) (summary_at out c f + v)

module _ {g : Shape} {t : Tables} {n : ℕ} {out : List ℕ} (o : SpansCount g t) (h : n < t.used) (w : Tallied g t n out) where
  abbrev own : ℕ
  own = class_at t n

  there : {f : ℕ} → f < summary_cells → summary_cell own f < length out
  there {f} l = subst (λ (z : ℕ). summary_cell own f < z) (sym w.long) (cell_in (o.class n h) l)

  -- The next span fits.
  pub span_fits : SpanFits t n out
  span_fits =
      record {
        words = words_there o.cells h;
        fields = fields_there o.cells h;
        there = λ f l. there l;
        spans_fit =
            rw (w.of_spans.at own (o.class n h)) (few_of o.few h (tally_most t n most_slots (λ s. 1) own (λ s l. one_most)) one_most);
        used_fit =
            rw (w.of_used.at own (o.class n h))
            (few_of o.few h (tally_most t n most_slots (occupied_at t) own (λ s l. o.occupied s (omega arith))) (o.occupied n h));
        pending_fit =
            rw (w.of_pending.at own (o.class n h))
            (few_of o.few h (tally_most t n most_slots (λ s. pending_in t.bits s 64) own (λ s l. pending_most t.bits s)) (pending_most t.bits n));
      }

  -- It is counted.
  pub tallied_more : Tallied g t (n + 1) (span_added t n out)
  unfolding span_added
  tallied_more =
      let a = added out own spans_cell 1 in
      let b = added a own used_cell (occupied_at t n) in
      let k = pending_in t.bits n 64 in
      let la : length a ≡ length out = length_added out own spans_cell 1 in
      let lb : length b ≡ length out = length_added a own used_cell (occupied_at t n) ∙ la in
      record {
        long = length_added b own pending_cell k ∙ lb ∙ w.long;
        of_spans =
            column_rest (omega arith)
            (column_rest (omega arith)
            (column_same (λ c l. tally_more t n (λ s. 1) c) (column_added (omega arith) w.of_spans own 1 (there (name_in (omega arith)))))
            own (occupied_at t n) (omega arith) (λ e. let z : ⊥ = omega arith in z))
            own k (omega arith) (λ e. let z : ⊥ = omega arith in z);
        of_used =
            column_rest (omega arith)
            (column_same (λ c l. tally_more t n (occupied_at t) c)
            (column_added (omega arith) (column_rest (omega arith) w.of_used own 1 (omega arith) (λ e. let z : ⊥ = omega arith in z)) own (occupied_at t n)
            (subst (λ (z : ℕ). summary_cell own used_cell < z) (sym la) (there (name_in (omega arith))))))
            own k (omega arith) (λ e. let z : ⊥ = omega arith in z);
        of_pending =
            column_same (λ c l. tally_more t n (λ s. pending_in t.bits s 64) c)
            (column_added (omega arith)
            (column_rest (omega arith) (column_rest (omega arith) w.of_pending own 1 (omega arith) (λ e. let z : ⊥ = omega arith in z)) own (occupied_at t n)
            (omega arith) (λ e. let z : ⊥ = omega arith in z))
            own k (subst (λ (z : ℕ). summary_cell own pending_cell < z) (sym lb) (there (name_in (omega arith)))));
      }

-- In cells of 0 no span is counted.
pub tallied_none :
    (g : Shape) (t : Tables) (before : List ℕ) {out : List ℕ} → length before ≡ classes g * summary_cells → out ≡ replicate (length before) 0 → Tallied g t 0 out
tallied_none g t before {out} l e =
    let zeros : (c f : ℕ) → c < classes g → f ≤ pending_cell → summary_at out c f ≡ 0 =
    λ c f hc hf.
    ap (λ (z : List ℕ). summary_at z c f) e
    ∙ get_or-replicate (length before) (summary_cell c f) 0 0 (subst (λ (z : ℕ). summary_cell c f < z) (sym l) (cell_in hc (name_in hf))) in
    record {
      long = ap length e ∙ length-replicate (length before) 0 ∙ l;
      of_spans = record { at = λ c h. zeros c spans_cell h (omega arith) ∙ tally_none t (λ s. 1) c };
      of_used = record { at = λ c h. zeros c used_cell h (omega arith) ∙ tally_none t (occupied_at t) c };
      of_pending = record { at = λ c h. zeros c pending_cell h (omega arith) ∙ tally_none t (λ s. pending_in t.bits s 64) c };
    }

-- Laws of the finished records: one class more is written, and five full columns are the records of the definition. Assumes nothing.
use mathlib.Core.Path.{◌≡◌, refl, sym, ap, subst, ◌∙◌}
use mathlib.Core.List.{List, ◌++◌}
use Prim.Native.Nat.{ℕ, zero, suc, ◌+◌, ◌*◌, ◌/◌, ◌%◌, ◌<◌}
use native.Mathlib.Nat.{mod-lt, div-add-mod', div-lt_iff_lt-mul, suc-mul, zero-add, add-zero}
use native.Mathlib.Omega.{arith}
use lib.ListN.{length, get_or, set, length-set, length-append, get_or-append}
use lib.Seq.{ext_get_or, get_or-append-add}
use Rattle.size_classes.specs.SlotSizes.{slot_size}
use Rattle.size_classes.specs.Slots.{slots_per_span}
use Rattle.tables.specs.Shape.{Shape, classes}
use Rattle.tables.specs.Cells.{Tables}
use Rattle.calls.specs.Summary.{over_spans, pending_slots, class_record, summary_cells, class_records}
use Rattle.summing.specs.Tally.{spans_cell, slots_cell, used_cell, cached_cell, pending_cell, summary_cell, summary_at, pending_in, tally, cached_in, class_written, Tallied, Written}
use Rattle.summing.proofs.ColumnLaws.{cell_in, name_in, column_other, column_more}

-- ---- one class is written

module _ {g : Shape} {t : Tables} {before : List ℕ} {n : ℕ} {out : List ℕ} (h : n < classes g) (w : Written g t before n out) where
  -- One class more.
  pub written_more : Written g t before (n + 1) (class_written g t n out)
  unfolding class_written
  written_more =
      let v = summary_at out n spans_cell * slots_per_span (slot_size g.sizes n) in
      let a = set out (summary_cell n slots_cell) v in
      let k = cached_in g t g.heaps n in
      let la : length a ≡ length out = length-set out (summary_cell n slots_cell) v in
      let no : (x y : ℕ) → (x < y) → x ≡ y → ⊥ = λ x y l e. let z : ⊥ = omega arith in z in
      let on : (x y : ℕ) → (y < x) → x ≡ y → ⊥ = λ x y l e. let z : ⊥ = omega arith in z in
      record {
        long = length-set a (summary_cell n cached_cell) k ∙ la ∙ w.long;
        of_spans =
            column_other (omega arith) (column_other (omega arith) w.of_spans n v (omega arith) (no spans_cell slots_cell (omega arith))) n k (omega arith)
            (no spans_cell cached_cell (omega arith));
        of_slots =
            column_other (omega arith)
            (column_more (omega arith) w.of_slots v (subst (λ (z : ℕ). summary_cell n slots_cell < z) (sym w.long) (cell_in h (name_in (omega arith))))
            (ap (λ (z : ℕ). z * slots_per_span (slot_size g.sizes n)) (w.of_spans.at n h)))
            n k (omega arith) (no slots_cell cached_cell (omega arith));
        of_used =
            column_other (omega arith) (column_other (omega arith) w.of_used n v (omega arith) (on used_cell slots_cell (omega arith))) n k (omega arith)
            (no used_cell cached_cell (omega arith));
        of_cached =
            column_more (omega arith) (column_other (omega arith) w.of_cached n v (omega arith) (on cached_cell slots_cell (omega arith))) k
            (subst (λ (z : ℕ). summary_cell n cached_cell < z) (sym (la ∙ w.long)) (cell_in h (name_in (omega arith))))
            refl;
        of_pending =
            column_other (omega arith) (column_other (omega arith) w.of_pending n v (omega arith) (on pending_cell slots_cell (omega arith))) n k (omega arith)
            (on pending_cell cached_cell (omega arith));
      }

-- ---- the records of the definition, cell by cell

record_long : (g : Shape) (t : Tables) (c : ℕ) → length (class_record g t c) ≡ summary_cells
unfolding class_record summary_cells
record_long g t c = refl

-- As many cells as classes ask for.
pub records_long : (n c : ℕ) (g : Shape) (t : Tables) → length (class_records n c g t) ≡ n * summary_cells
unfolding class_records
records_long zero c g t = omega arith
records_long (suc n) c g t =
    length-append (class_record g t c) (class_records n (c + 1) g t)
    ∙ omega (arith, record_long g t c, records_long n (c + 1) g t, suc-mul n summary_cells)

-- Cell f of record i.
pub records_at :
    (n i c f : ℕ) (g : Shape) (t : Tables) → i < n → f < summary_cells →
    summary_at (class_records n c g t) i f ≡ get_or (class_record g t (c + i)) f 0
unfolding class_records summary_cell
records_at zero i c f g t hi hf = absurd (let z : ⊥ = omega arith in z)
records_at (suc n) zero c f g t hi hf =
    let e : 0 * summary_cells + f ≡ f = omega arith in
    rw (e, add-zero c) (get_or-append (class_record g t c) (class_records n (c + 1) g t) 0 f (rw (record_long g t c) hf))
records_at (suc n) (suc i) c f g t hi hf =
    let e : suc i * summary_cells + f ≡ length (class_record g t c) + (i * summary_cells + f) = omega (arith, suc-mul i summary_cells, record_long g t c) in
    let q : c + 1 + i ≡ c + suc i = omega arith in
    ap (λ (z : ℕ). get_or (class_record g t c ++ class_records n (c + 1) g t) z 0) e
    ∙ get_or-append-add (class_record g t c) (class_records n (c + 1) g t) (i * summary_cells + f) 0
    ∙ records_at n i (c + 1) f g t (omega arith) hf
    ∙ ap (λ (z : ℕ). get_or (class_record g t z) f 0) q

-- Every cell is cell f of a record.
cell_split : (i : ℕ) → summary_cell (i / summary_cells) (i % summary_cells) ≡ i
unfolding summary_cell
cell_split i = div-add-mod' i summary_cells

-- Cells that agree record by record make the records.
pub records_by_cells :
    (n : ℕ) (g : Shape) (t : Tables) (out : List ℕ) → length out ≡ n * summary_cells →
    ((c f : ℕ) → c < n → f < summary_cells → summary_at out c f ≡ get_or (class_record g t c) f 0) →
    out ≡ class_records n 0 g t
records_by_cells n g t out l each =
    ext_get_or 0 out (class_records n 0 g t) (l ∙ sym (records_long n 0 g t)) (λ i h. here i (subst (λ (z : ℕ). i < z) l h))
  where
    some : 0 < summary_cells
    some = name_in {f = 0} (omega arith)

    here : (i : ℕ) → i < n * summary_cells → get_or out i 0 ≡ get_or (class_records n 0 g t) i 0
    here i h =
        let c = i / summary_cells in
        let f = i % summary_cells in
        let hc : c < n = (div-lt_iff_lt-mul some).1 h in
        let hf : f < summary_cells = mod-lt i some in
        ap (λ (z : ℕ). get_or out z 0) (sym (cell_split i))
        ∙ each c f hc hf
        ∙ ap (λ (z : ℕ). get_or (class_record g t z) f 0) (sym (zero-add c))
        ∙ sym (records_at n c 0 f g t hc hf)
        ∙ ap (λ (z : ℕ). get_or (class_records n 0 g t) z 0) (cell_split i)

-- ---- the columns are the records

module _ {g : Shape} {t : Tables} {before out : List ℕ} (o : Tallied g t t.used before) (w : Written g t before (classes g) out) where
  -- Each cell is what the definition counts.
  each_cell : (c f : ℕ) → c < classes g → f < summary_cells → summary_at out c f ≡ get_or (class_record g t c) f 0
  unfolding class_record over_spans pending_slots tally pending_in cached_in summary_cells
  each_cell c zero h l = w.of_spans.at c h ∙ o.of_spans.at c h
  each_cell c (suc zero) h l = w.of_slots.at c h ∙ ap (λ (z : ℕ). z * slots_per_span (slot_size g.sizes c)) (o.of_spans.at c h)
  each_cell c (suc (suc zero)) h l = w.of_used.at c h ∙ o.of_used.at c h
  each_cell c (suc (suc (suc zero))) h l = w.of_cached.at c h
  each_cell c (suc (suc (suc (suc zero)))) h l = w.of_pending.at c h ∙ o.of_pending.at c h
  each_cell c (suc (suc (suc (suc (suc f))))) h l = absurd (let z : ⊥ = omega arith in z)

  -- All spans are counted and all classes are written.
  pub written_all : out ≡ class_records (classes g) 0 g t
  written_all = records_by_cells (classes g) g t out w.long each_cell

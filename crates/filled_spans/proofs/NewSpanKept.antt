-- The next unused span, written new: the table stays filled, every slot of the new span is free, and every other block is as before. Assumes nothing.
use mathlib.Core.Path.{◌≡◌, refl, sym, ap, ap₂, subst, ◌∙◌}
use mathlib.Core.List.{List, [], ◌∷◌, ◌++◌}
use Prim.Native.Nat.{ℕ, suc, ◌+◌, ◌-◌, ◌<◌, ◌≤◌}
use native.Mathlib.Nat.{lt_of_lt_of_le}
use native.Mathlib.Omega.{arith}
use lib.ListN.{length, get_or, replicate, length-append, length-replicate, get_or-replicate, get_or-append}
use lib.Seq.{paste, length-sets, sets-eq, ext_get_or, get_or-append-add}
use Rattle.laws.proofs.PasteLaws.{paste_in}
use Rattle.size_classes.specs.Slots.{most_slots}
use Rattle.occupancy.specs.declared.Occupancy.{Occupancy}
use Rattle.occupancy.specs.Occupied.{occupancy, word_of, fresh_of}
use Rattle.occupancy.specs.Right.{is_taken, Right}
use Rattle.occupancy.proofs.RightLaws.{fresh_right, fresh_free}
use Rattle.tables.specs.declared.ClassHeap.{ClassHeap}
use Rattle.tables.specs.Shape.{Shape, classes, class_heap, bitmap_cells}
use Rattle.tables.specs.Cells.{Tables, bitmap_cell, bitmap_word, local_summary, local_word, remote_summary, span_cell, span_field, class_field, owner_field, occupied_field, previous_field, next_field, class_at, owner_at, occupied_at, previous_at, next_at}
use Rattle.tables.proofs.CellLaws.{summaries_in, span_next, span_same, field_in}
use Rattle.span.specs.Span.{loaded, local_words, new_span}
use Rattle.span.specs.declared.BlockState.TheVariants.{Free}
use Rattle.span.specs.State.{state_of}
use Rattle.span.specs.Room.{WordCells, SpanCells}
use Rattle.span.proofs.CellsThere.{local_there, field_there, part_long}
use Rattle.sound.specs.Sound.{home_of}
use Rattle.sound.specs.Filled.{Filled}
use Rattle.sound.proofs.StateTests.{free_so}
use Rattle.filled_spans.proofs.SpanValues.{class_most, class_within, loaded_word, taken_occupied, next_cells, span_filled_lem}
use Rattle.filled_spans.proofs.FilledKept.{OnlySpan, other_state, filled_after}
use Rattle.filled_spans.proofs.SpanStores.{paste_other, words_in, words_other, words_length}
use Rattle.filled_spans.proofs.ClearedCells.{remote_last, none_right}

-- ---- the cells

module _ (t : Tables) (k : ClassHeap) (within : k.slots ≤ 4096) (cells : SpanCells t.bits t.spans t.used) where
  -- the new span, and the table with it
  abbrev s : ℕ
  s = t.used

  abbrev u : Tables
  u = new_span t k

  -- its words
  abbrev fresh : Occupancy
  fresh = fresh_of k.slots

  abbrev here : List ℕ
  here = fresh.summary ∷ fresh.words

  abbrev row : List ℕ
  row = here ++ replicate 65 0

  -- 65 words of its own, and as many zeros, are the words of a span.
  here_long : length here ≡ 65
  here_long = ap suc (fresh_right k.slots within).long

  row_long : bitmap_cells ≤ length row
  unfolding bitmap_cells
  row_long =
      omega (arith, length-append here (replicate 65 0), length-replicate 65 (let z : ℕ = 0 in z), here_long)

  row_fits : local_summary + bitmap_cells ≤ bitmap_cells
  row_fits = omega arith

  -- Each of its words is one of the row.
  new_row : (i : ℕ) → i < bitmap_cells → bitmap_word u s i ≡ get_or row i 0
  unfolding new_span
  new_row i h =
      words_in t.bits s cells.words local_summary row bitmap_cells (summaries_in (omega arith)) row_fits row_long i i (omega arith) h

  -- Summary and words are fresh, and nothing is pending.
  new_summary : bitmap_word u s local_summary ≡ fresh.summary
  new_summary = new_row local_summary (summaries_in (omega arith))

  new_word : (i : ℕ) → i < 64 → bitmap_word u s (local_word i) ≡ word_of fresh i
  new_word i h =
      new_row (local_word i) (summaries_in (omega arith))
      ∙ ap (λ (z : ℕ). get_or row z 0) (let e : local_word i ≡ suc i = omega arith in e)
      ∙ get_or-append fresh.words (replicate 65 0) 0 i (omega (arith, (fresh_right k.slots within).long))

  new_remote : (i : ℕ) → remote_summary ≤ i → i < bitmap_cells → bitmap_word u s i ≡ 0
  new_remote i l h =
      let m : i < remote_summary + 65 = remote_last h in
      new_row i h
      ∙ ap (λ (z : ℕ). get_or row z 0) (let e : i ≡ length here + (i - remote_summary) = omega (arith, here_long) in e)
      ∙ get_or-append-add here (replicate 65 0) (i - remote_summary) 0
      ∙ get_or-replicate 65 (i - remote_summary) 0 0 (omega arith)

  -- its record
  abbrev fields : List ℕ
  fields = k.class ∷ k.owner ∷ 0 ∷ 0 ∷ 0 ∷ []

  -- There is room for it.
  fields_fit : span_cell s class_field + 5 ≤ length t.spans
  fields_fit = omega (arith, field_there t.spans s cells.fields next_field (omega arith), span_next s 0 4)

  -- Five stores are a copy of five cells.
  new_fields : u.spans ≡ paste t.spans (span_cell s class_field) fields 5
  unfolding new_span
  new_fields = sets-eq fields t.spans (span_cell s class_field) fields_fit

  -- Each field is the one written.
  new_field : (f : ℕ) → f ≤ next_field → span_field u s f ≡ get_or fields f 0
  new_field f h =
      ap₂ (λ (l : List ℕ) (z : ℕ). get_or l z 0) new_fields
      (ap (span_cell s) (let e : f ≡ 0 + f = omega arith in e) ∙ span_next s 0 f)
      ∙ paste_in t.spans (span_cell s class_field) fields 5 f (omega (arith, fields_fit)) (omega arith) (omega arith)

  new_class : class_at u s ≡ k.class
  new_class = new_field class_field (omega arith)

  new_owner : owner_at u s ≡ k.owner
  new_owner = new_field owner_field (omega arith)

  new_count : occupied_at u s ≡ 0
  new_count = new_field occupied_field (omega arith)

  new_previous : previous_at u s ≡ 0
  new_previous = new_field previous_field (omega arith)

  new_next : next_at u s ≡ 0
  new_next = new_field next_field (omega arith)

  -- No cell of another span changed.
  new_cells : OnlySpan t u s
  new_cells =
      record {
        bits_length = unfold new_span in words_length t.bits s cells.words local_summary row bitmap_cells (summaries_in (omega arith)) row_fits row_long;
        spans_length = unfold new_span in length-sets t.spans (span_cell s class_field) fields;
        entries = unfold new_span in refl;
        heads = unfold new_span in refl;
        words =
            λ r i h n.
            unfold new_span in
            words_other t.bits s cells.words local_summary row bitmap_cells (summaries_in (omega arith)) row_fits row_long r i h
            (λ e j l z. n e);
        fields =
            λ r f h n.
            ap (λ (l : List ℕ). get_or l (span_cell r f) 0) new_fields
            ∙ paste_other t.spans (span_cell s class_field) fields 5 (span_cell r f) (omega (arith, fields_fit)) (omega arith)
            (λ j l e.
            n
            (span_same r s (field_in h) (field_in (let x : j ≤ next_field = omega arith in x))
            (e ∙ sym (ap (span_cell s) (let y : j ≡ 0 + j = omega arith in y) ∙ span_next s 0 j))).0);
      }

  -- Its occupancy is a fresh one.
  new_fresh : loaded u s ≡ fresh
  new_fresh =
      let there : WordCells u.bits s = record { there = rw new_cells.bits_length cells.words.there } in
      let many : length (local_words u s) ≡ 64 = part_long u.bits (bitmap_cell s (local_word 0)) (local_there u.bits s there) in
      let long : length fresh.words ≡ 64 = (fresh_right k.slots within).long in
      let words : local_words u s ≡ fresh.words =
      ext_get_or 0 (local_words u s) fresh.words (many ∙ sym long)
      (λ i l. let h : i < 64 = omega arith in loaded_word u s i h ∙ new_word i h) in
      let count : occupied_at u s ≡ fresh.count = new_count ∙ unfold fresh_of in refl in
      λ i. occupancy (new_summary i) (words i) (count i)

-- ---- the step

-- span t .used is written new for a class of a heap
pub record NewRecord (t u : Tables) (k : ClassHeap) : Type 0 where
  pub used : u.used ≡ t.used + 1
  pub class : class_at u t.used ≡ k.class
  pub owner : owner_at u t.used ≡ k.owner
  pub occupied : occupied_at u t.used ≡ 0
  pub previous : previous_at u t.used ≡ 0
  pub next : next_at u t.used ≡ 0

-- what became of the blocks when span t .used, with so many slots, was written new
pub record NewBlocks (g : Shape) (t u : Tables) (slots : ℕ) : Type 0 where
  pub free : (q : ℕ) → q < slots → state_of g u t.used q ≡ Free
  pub others : (r q : ℕ) → q < most_slots → (r ≡ t.used → ⊥) → state_of g u r q ≡ state_of g t r q

module _ (g : Shape) (t : Tables) (f : Filled g t) (unused : t.used < g.spans) (h c : ℕ) (hh : h < g.heaps) (hc : c < classes g) where
  -- the cells of the new span are there
  abbrev cells : SpanCells t.bits t.spans t.used
  cells = next_cells g t f unused

  -- One span more is used.
  new_used : (new_span t (class_heap g h c)).used ≡ t.used + 1
  unfolding new_span
  new_used = refl

  -- It is of that class and heap.
  pub new_home : home_of g (new_span t (class_heap g h c)) t.used ≡ class_heap g h c
  unfolding class_heap
  new_home =
      ap₂ (class_heap g) (new_owner t (class_heap g h c) (class_within g h c) cells) (new_class t (class_heap g h c) (class_within g h c) cells)

  -- No cell of another span changed.
  pub new_only : OnlySpan t (new_span t (class_heap g h c)) t.used
  new_only = new_cells t (class_heap g h c) (class_within g h c) cells

  -- Its record is written, with nothing occupied and no links.
  pub new_record_lem : NewRecord t (new_span t (class_heap g h c)) (class_heap g h c)
  new_record_lem =
      let w = class_within g h c in
      record {
        used = new_used;
        class = new_class t (class_heap g h c) w cells;
        owner = new_owner t (class_heap g h c) w cells;
        occupied = new_count t (class_heap g h c) w cells;
        previous = new_previous t (class_heap g h c) w cells;
        next = new_next t (class_heap g h c) w cells;
      }

  -- Its occupancy is a fresh one.
  pub new_loaded : loaded (new_span t (class_heap g h c)) t.used ≡ fresh_of (class_heap g h c).slots
  new_loaded = new_fresh t (class_heap g h c) (class_within g h c) cells

  -- The table stays filled.
  pub new_kept : Filled g (new_span t (class_heap g h c))
  new_kept =
      let w = class_within g h c in
      let u = new_span t (class_heap g h c) in
      filled_after g t u t.used (new_cells t (class_heap g h c) w cells) f
      (record {
        within = omega (arith, new_used);
        more = omega (arith, new_used);
        old = λ r l n. omega (arith, new_used);
        span =
            span_filled_lem g u t.used (unfold class_heap in rw (new_class t (class_heap g h c) w cells) hc) (unfold class_heap in rw (new_owner t (class_heap g h c) w cells) hh)
            (subst (λ (k : ClassHeap). Right k.slots (loaded u t.used)) (sym new_home)
            (subst (Right (class_heap g h c).slots) (sym (new_fresh t (class_heap g h c) w cells)) (fresh_right (class_heap g h c).slots w)))
            (none_right u t.used (home_of g u t.used).slots (new_remote t (class_heap g h c) w cells));
        previous = omega (arith, new_previous t (class_heap g h c) w cells);
        next = omega (arith, new_next t (class_heap g h c) w cells);
        entries =
            λ x hx d hd i l e. absurd (let z : ⊥ = omega (arith, e, ((f.magazines x hx d hd).entries i l).belongs.used) in z);
      })

  -- Every slot of the new span is free, and every block of another span is as before.
  pub new_states : NewBlocks g t (new_span t (class_heap g h c)) (class_heap g h c).slots
  new_states =
      let w = class_within g h c in
      record {
        free =
            λ q l.
            free_so g (new_span t (class_heap g h c)) t.used q
            (sym (taken_occupied (new_span t (class_heap g h c)) t.used q (lt_of_lt_of_le l (class_most g h c)))
            ∙ ap (λ o. is_taken o q) (new_fresh t (class_heap g h c) w cells)
            ∙ fresh_free (class_heap g h c).slots q w l);
        others = λ r q l n. other_state g t (new_span t (class_heap g h c)) t.used (new_cells t (class_heap g h c) w cells) r n q l;
      }

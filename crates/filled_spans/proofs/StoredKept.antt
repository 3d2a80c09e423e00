-- An occupancy stored in a used span: what stands in the span's cells then, when the table stays filled, and the states of its blocks. Assumes
-- nothing.
use mathlib.Core.Path.{◌≡◌, refl, sym, ap, subst, ◌∙◌}
use mathlib.Core.Bool.{true}
use mathlib.Core.List.{List, ◌∷◌}
use Prim.Native.Nat.{ℕ, suc, ◌+◌, ◌/◌, ◌%◌, ◌<◌, ◌≤◌}
use native.Mathlib.Decide.{ℕ_discrete}
use native.Mathlib.Omega.{arith}
use lib.ListN.{length, length-set}
use lib.Seq.{ext_get_or}
use Rattle.laws.specs.Word.{is_set}
use Rattle.size_classes.specs.Slots.{most_slots}
use Rattle.occupancy.specs.declared.Occupancy.{Occupancy}
use Rattle.occupancy.specs.Occupied.{occupancy, word_of}
use Rattle.occupancy.specs.Right.{is_taken, Right}
use Rattle.tables.specs.Shape.{Shape, bitmap_cells}
use Rattle.tables.specs.Cells.{Tables, bitmap_cell, bitmap_word, local_summary, local_word, remote_summary, remote_word, occupied_field, occupied_at}
use Rattle.tables.proofs.CellLaws.{remote_in, summaries_in}
use Rattle.span.specs.Span.{loaded, local_words, stored}
use Rattle.span.specs.declared.BlockState.{BlockState}
use Rattle.span.specs.State.{is_occupied, is_pending, state_of}
use Rattle.span.specs.Room.{WordCells, SpanCells}
use Rattle.span.proofs.CellsThere.{local_there, part_long}
use Rattle.sound.specs.Sound.{home_of}
use Rattle.sound.specs.Filled.{Filled}
use Rattle.sound.specs.States.{Becomes}
use Rattle.sound.proofs.StateTests.{is_kept}
use Rattle.filled_spans.proofs.SpanValues.{slot_place, loaded_word, taken_occupied, filled_cells}
use Rattle.filled_spans.proofs.FilledKept.{OnlyOccupancy, other_state}
use Rattle.filled_spans.proofs.OwnSpan.{kept_means, own_state, filled_own}
use Rattle.filled_spans.proofs.SpanStores.{words_in, words_other, words_length, field_in_place, field_other}

module _ (t : Tables) (s : ℕ) (cells : SpanCells t.bits t.spans s) (o : Occupancy) (long : length o.words ≡ 64) where
  -- the row that is copied
  abbrev row : List ℕ
  row = o.summary ∷ o.words

  -- There are 65 words to copy, and a span has so many.
  row_fits : local_summary + 65 ≤ bitmap_cells
  row_fits = omega (arith, summaries_in {i = remote_summary} (omega arith))

  row_long : 65 ≤ length row
  row_long = omega arith

  -- Summary and words are the stored ones.
  pub stored_summary : bitmap_word (stored t s o) s local_summary ≡ o.summary
  unfolding stored
  stored_summary =
      words_in t.bits s cells.words local_summary row 65 (summaries_in (omega arith)) row_fits row_long local_summary 0 refl (omega arith)

  pub stored_word : (i : ℕ) → i < 64 → bitmap_word (stored t s o) s (local_word i) ≡ word_of o i
  unfolding stored
  stored_word i h =
      words_in t.bits s cells.words local_summary row 65 (summaries_in (omega arith)) row_fits row_long (local_word i) (suc i) (omega arith)
      (omega arith)

  -- The remote side of the span, and the words of every other span, stay.
  stored_other :
      (r i : ℕ) → i < bitmap_cells → (r ≡ s → remote_summary ≤ i) → bitmap_word (stored t s o) r i ≡ bitmap_word t r i
  unfolding stored
  stored_other r i h apart =
      words_other t.bits s cells.words local_summary row 65 (summaries_in (omega arith)) row_fits row_long r i h
      (λ e j l k. let z : ⊥ = omega (arith, apart e) in z)

  pub stored_remote : (i : ℕ) → remote_summary ≤ i → i < bitmap_cells → bitmap_word (stored t s o) s i ≡ bitmap_word t s i
  stored_remote i l h = stored_other s i h (λ e. l)

  -- A slot is pending as before.
  pub stored_pending : (q : ℕ) → q < most_slots → is_pending (stored t s o) s q ≡ is_pending t s q
  stored_pending q h =
      ap (λ (z : ℕ). is_set z (q % 64)) (stored_remote (remote_word (q / 64)) (omega arith) (remote_in (slot_place h)))

  -- Nothing but the span's words and its count changed.
  pub stored_only : OnlyOccupancy t (stored t s o) s
  unfolding stored
  stored_only =
      record {
        span =
            record {
              bits_length =
                  words_length t.bits s cells.words local_summary row 65 (summaries_in (omega arith)) row_fits row_long;
              spans_length = simp length-set;
              entries = refl;
              heads = refl;
              words = λ r i h n. stored_other r i h (λ e. absurd (n e));
              fields = λ r k h n. field_other t.spans s cells.fields occupied_field o.count (omega arith) r k h (λ e z. n e);
            };
        used = refl;
        own = λ k h n. field_other t.spans s cells.fields occupied_field o.count (omega arith) s k h (λ e z. n z);
      }

  -- The count is the stored one.
  pub stored_count : occupied_at (stored t s o) s ≡ o.count
  unfolding stored
  stored_count = field_in_place t.spans s cells.fields occupied_field o.count (omega arith)

  -- What is stored is loaded again.
  pub stored_loaded : loaded (stored t s o) s ≡ o
  stored_loaded =
      let u = stored t s o in
      let there : WordCells u.bits s = record { there = rw stored_only.span.bits_length cells.words.there } in
      let many : length (local_words u s) ≡ 64 = part_long u.bits (bitmap_cell s (local_word 0)) (local_there u.bits s there) in
      let words : local_words u s ≡ o.words =
      ext_get_or 0 (local_words u s) o.words (many ∙ sym long)
      (λ i l. let h : i < 64 = omega arith in loaded_word u s i h ∙ stored_word i h) in
      λ i. occupancy (stored_summary i) (words i) (stored_count i)

  -- A slot is occupied where it is taken in what was stored.
  pub stored_occupied : (q : ℕ) → q < most_slots → is_occupied (stored t s o) s q ≡ is_taken o q
  stored_occupied q h = ap (λ (z : ℕ). is_set z (q % 64)) (stored_word (q / 64) (slot_place h))

module _ (g : Shape) (t : Tables) (f : Filled g t) (s : ℕ) (h : s < t.used) (o : Occupancy) (r : Right (home_of g t s).slots o) where
  -- the span's cells are there
  abbrev cells : SpanCells t.bits t.spans s
  cells = filled_cells g t f s h

  -- A right occupancy in which the pending slots and the cached slots of the span are taken keeps the table filled.
  pub stored_kept :
      ((q : ℕ) → q < most_slots → is_pending t s q ≡ true → is_taken o q ≡ true) →
      ((q : ℕ) → q < most_slots → is_kept g t s q ≡ true → is_taken o q ≡ true) →
      Filled g (stored t s o)
  stored_kept pending kept =
      let u = stored t s o in
      let c = f.spans s h in
      filled_own g t u s (stored_only t s cells o r.long) f h
      (subst (Right (home_of g t s).slots) (sym (stored_loaded t s cells o r.long)) r)
      (record {
        word = λ i l m. rw (stored_remote t s cells o r.long i l m) (c.word i m);
        summary =
            λ i l.
            rw (
              stored_remote t s cells o r.long remote_summary (omega arith) (summaries_in (omega arith)),
              stored_remote t s cells o r.long (remote_word i) (omega arith) (remote_in l),
            ) (c.remote i l);
        held =
            λ q l e.
            let p = sym (stored_pending t s cells o r.long q l) ∙ e in
            ((c.pending q l p).0, stored_occupied t s cells o r.long q l ∙ pending q l p);
      })
      (λ q l e. (
        stored_occupied t s cells o r.long q l ∙ kept q l e,
        stored_pending t s cells o r.long q l ∙ (kept_means g t f s h q l e).1,
      ))

  -- A block whose slot is taken as before keeps its state.
  pub stored_same : (q : ℕ) → q < most_slots → is_taken o q ≡ is_taken (loaded t s) q → state_of g (stored t s o) s q ≡ state_of g t s q
  stored_same q l e =
      own_state g t (stored t s o) s (stored_only t s cells o r.long) q
      (stored_occupied t s cells o r.long q l ∙ e ∙ taken_occupied t s q l) (stored_pending t s cells o r.long q l)

  -- Where the slots of the span that are not named are taken as before, and the named come to a state, that is what became of the blocks.
  pub stored_becomes :
      (Named : ℕ → ℕ → Type 0) {state : BlockState} →
      ((i q : ℕ) → Named i q → i ≡ s) →
      ((q : ℕ) → q < most_slots → Named s q → state_of g (stored t s o) s q ≡ state) →
      ((q : ℕ) → q < most_slots → (Named s q → ⊥) → is_taken o q ≡ is_taken (loaded t s) q) →
      Becomes g t (stored t s o) Named state
  stored_becomes Named {state} here named same =
      record {
        named =
            λ i q u l n.
            let e = here i q n in
            subst (λ (z : ℕ). state_of g (stored t s o) z q ≡ state) (sym e) (named q l (subst (λ (z : ℕ). Named z q) e n));
        others =
            λ i q u l n.
            elim (ℕ_discrete i s) [
              | yes e ↦
                  subst (λ (z : ℕ). state_of g (stored t s o) z q ≡ state_of g t z q) (sym e)
                  (stored_same q l (same q l (λ m. n (subst (λ (z : ℕ). Named z q) (sym e) m))))
              | no z ↦ other_state g t (stored t s o) s (stored_only t s cells o r.long).span i z q l
            ];
      }

-- The fold of a span's pending frees: the table stays filled, every pending block of the span is free and none is pending, every other block is as
-- before, and the count falls by the pending ones. Assumes nothing.
use mathlib.Core.Path.{◌≡◌, refl, sym, ap, ap₂, subst, ◌∙◌}
use mathlib.Core.Bool.{Bool, true, false, true≢false, ◌&&◌, not}
use mathlib.Core.Logic.{⊎_elim}
use Prim.Native.Nat.{ℕ, ◌+◌, ◌/◌, ◌%◌, ◌<◌, ◌≤◌}
use native.Mathlib.Nat.{add-zero}
use native.Mathlib.Decide.{ℕ_discrete}
use native.Mathlib.Omega.{arith}
use lib.Dec.{eqb, leb}
use lib.Count.{count_trailing_zeros}
use lib.ListN.{get_or}
use borrow.Author.Tests.{leb-true, leb-false, eq-eqb, eqb-true}
use Rattle.laws.specs.Choice.{sum}
use Rattle.laws.specs.Word.{is_set, popcount}
use Rattle.laws.proofs.CondLaws.{and_true, cond_both}
use Rattle.laws.proofs.FirstLaws.{tested}
use Rattle.laws.proofs.SumLaws.{sum_same, sum_none}
use Rattle.laws.proofs.SumSteps.{sum_through}
use Rattle.laws.proofs.BitLaws.{trailing_at}
use Rattle.laws.proofs.WordLaws.{ones_none, ones_some}
use Rattle.size_classes.specs.Slots.{most_slots}
use Rattle.occupancy.specs.declared.Occupancy.{Occupancy}
use Rattle.occupancy.specs.Occupied.{fold_in}
use Rattle.occupancy.specs.Right.{is_taken, Right}
use Rattle.occupancy.proofs.ReleaseLaws.{fold_right, fold_taken, fold_count}
use Rattle.tables.specs.Shape.{Shape, bitmap_cells}
use Rattle.tables.specs.Cells.{Tables, bitmap_word, remote_summary, remote_word, occupied_at}
use Rattle.tables.proofs.CellLaws.{remote_in, summaries_in}
use Rattle.span.specs.Span.{loaded, pending_words, stored, has_pending, clear_pending, reclaim_pending, folded}
use Rattle.span.specs.declared.BlockState.TheVariants.{Free, Pending}
use Rattle.span.specs.State.{is_occupied, is_pending, state_of}
use Rattle.span.specs.Room.{WordCells, SpanCells}
use Rattle.sound.specs.Sound.{home_of}
use Rattle.sound.specs.Filled.{Filled}
use Rattle.sound.specs.States.{Becomes, SlotsOf}
use Rattle.sound.proofs.StateTests.{pending_says, pending_so, free_so}
use Rattle.filled_spans.proofs.SpanValues.{slot_place, slot_below, pending_word, taken_occupied, listed_pending, filled_cells, filled_right, filled_pending}
use Rattle.filled_spans.proofs.FilledKept.{OnlyOccupancy, only_none, only_then, other_state}
use Rattle.filled_spans.proofs.OwnSpan.{kept_means, own_state, filled_own}
use Rattle.filled_spans.proofs.StoredKept.{stored_only, stored_loaded}
use Rattle.filled_spans.proofs.ClearedCells.{zero_clear, none_right, cleared_none, cleared_only, cleared_loaded}

-- the pending slots of span s
abbrev pub pending_count : Tables → ℕ → ℕ
pending_count t s = sum 64 (λ i. popcount (bitmap_word t s (remote_word i)))

-- slot q of span s is pending, before the fold
abbrev pub WasPending : Shape → Tables → ℕ → ℕ → Type 0
WasPending g t s q = state_of g t s q ≡ Pending

module _ (g : Shape) (t : Tables) (f : Filled g t) (s : ℕ) (h : s < t.used) where
  -- the occupancy without the pending slots, and the table where it is stored
  abbrev rest : Occupancy
  rest = fold_in (loaded t s) (pending_words t s)

  abbrev between : Tables
  between = stored t s rest

  -- the span's cells are there, before and then
  abbrev cells : SpanCells t.bits t.spans s
  cells = filled_cells g t f s h

  -- That occupancy is right, and its store changes the span alone.
  right : Right (home_of g t s).slots rest
  right = fold_right (home_of g t s).slots (pending_words t s) (loaded t s) (filled_right g t f s h) (filled_pending g t f s h)

  storing : OnlyOccupancy t between s
  storing = stored_only t s cells rest right.long

  there : WordCells between.bits s
  there = record { there = rw storing.span.bits_length cells.words.there }

  -- Nothing but the span's words and its count changed.
  pub reclaim_only : OnlyOccupancy t (reclaim_pending t s) s
  unfolding reclaim_pending
  reclaim_only = only_then t between (clear_pending between s) s storing (cleared_only between s there)

  -- Its occupancy is the one without the pending slots.
  reclaim_loaded : loaded (reclaim_pending t s) s ≡ rest
  unfolding reclaim_pending
  reclaim_loaded = cleared_loaded between s there ∙ stored_loaded t s cells rest right.long

  -- A slot is occupied where it was and was not pending.
  reclaim_bit : (q : ℕ) → q < most_slots → is_occupied (reclaim_pending t s) s q ≡ (is_occupied t s q && not (is_pending t s q))
  reclaim_bit q l =
      sym (taken_occupied (reclaim_pending t s) s q l)
      ∙ ap (λ o. is_taken o q) reclaim_loaded
      ∙ fold_taken (home_of g t s).slots (pending_words t s) (loaded t s) (filled_right g t f s h) (filled_pending g t f s h) q (slot_below l)
      ∙ ap₂ (λ (a b : Bool). a && not b) (taken_occupied t s q l) (listed_pending t s q l)

  -- No remote word is left.
  reclaim_words : (i : ℕ) → remote_summary ≤ i → i < bitmap_cells → bitmap_word (reclaim_pending t s) s i ≡ 0
  unfolding reclaim_pending
  reclaim_words i l m = cleared_none between s there i l m

  -- Nothing of the span is pending afterwards, by its slots and by its summary.
  pub reclaim_none : (q : ℕ) → q < most_slots → is_pending (reclaim_pending t s) s q ≡ false
  reclaim_none q l =
      ap (λ (z : ℕ). is_set z (q % 64)) (reclaim_words (remote_word (q / 64)) (omega arith) (remote_in (slot_place l))) ∙ zero_clear (q % 64)

  pub reclaim_had : has_pending (reclaim_pending t s) s ≡ false
  reclaim_had = ap (leb 1) (reclaim_words remote_summary (omega arith) (summaries_in (omega arith)))

  -- The table stays filled.
  pub reclaim_kept : Filled g (reclaim_pending t s)
  reclaim_kept =
      filled_own g t (reclaim_pending t s) s reclaim_only f h (subst (Right (home_of g t s).slots) (sym reclaim_loaded) right)
      (none_right (reclaim_pending t s) s (home_of g t s).slots reclaim_words)
      (λ q l e.
      let k = kept_means g t f s h q l e in
      (reclaim_bit q l ∙ ap₂ (λ (a b : Bool). a && not b) k.0 k.1, reclaim_none q l))

  -- Every pending block of the span is free, and every other block is as before.
  pub reclaim_states : Becomes g t (reclaim_pending t s) (SlotsOf s (WasPending g t s)) Free
  reclaim_states =
      record {
        named =
            λ r q u l e.
            let k = pending_says g t s q e.slot in
            ap (λ (x : ℕ). state_of g (reclaim_pending t s) x q) e.span
            ∙ free_so g (reclaim_pending t s) s q
            (reclaim_bit q l ∙ ap₂ (λ (a b : Bool). a && not b) k.occupied k.pending);
        others = λ r q u l n. go r q l (λ e p. n (record { span = e; slot = p })) (ℕ_discrete r s);
      }
    where
      clear : (q : ℕ) → q < most_slots → (WasPending g t s q → ⊥) → is_pending t s q ≡ false
      clear q l n =
          ⊎_elim (λ p. absurd (n (pending_so g t s q (record { occupied = ((f.spans s h).pending q l p).1; pending = p })))) (λ p. p)
          (tested (is_pending t s q))

      go : (r q : ℕ) → q < most_slots → (r ≡ s → WasPending g t s q → ⊥) → Dec (r ≡ s) → state_of g (reclaim_pending t s) r q ≡ state_of g t r q
      go r q l n (yes e) =
          subst (λ (x : ℕ). state_of g (reclaim_pending t s) x q ≡ state_of g t x q) (sym e)
          (own_state g t (reclaim_pending t s) s reclaim_only q
          (reclaim_bit q l ∙ ap (λ (b : Bool). is_occupied t s q && not b) (clear q l (n e)) ∙ and_true (is_occupied t s q))
          (reclaim_none q l ∙ sym (clear q l (n e))))
      go r q l n (no z) = other_state g t (reclaim_pending t s) s reclaim_only.span r z q l

  -- The count falls by the pending slots.
  pub reclaim_occupied : occupied_at (reclaim_pending t s) s + pending_count t s ≡ occupied_at t s
  reclaim_occupied =
      ap₂ ◌+◌ (ap (λ o. o.count) reclaim_loaded)
      (sum_same 64 (λ i. popcount (bitmap_word t s (remote_word i))) (λ i. popcount (get_or (pending_words t s) i 0))
      (λ i l. ap popcount (sym (pending_word t s i l))))
      ∙ fold_count (home_of g t s).slots (pending_words t s) (loaded t s) (filled_right g t f s h) (filled_pending g t f s h)

  -- ---- the same, where there are any

  -- With a set summary some slot is pending, so the fold lowers the count.
  pub pending_some : has_pending t s ≡ true → 0 < pending_count t s
  pending_some e =
      let x = bitmap_word t s remote_summary in
      let c = f.spans s h in
      let set = trailing_at 64 x (omega (arith, leb-true 1 x e)) (c.word remote_summary (summaries_in (omega arith))) in
      let i = count_trailing_zeros 64 x in
      let word = bitmap_word t s (remote_word i) in
      let some : not (eqb word 0) ≡ true = sym (c.remote i set.0) ∙ ap (λ (z : ℕ). eqb z 1) set.1 in
      let none : word ≡ 0 → ⊥ = λ z. true≢false (sym some ∙ ap not (eq-eqb word 0 z)) in
      omega (
        arith,
        ones_some 64 word (c.word (remote_word i) (remote_in set.0)) none,
        sum_through (λ j. popcount (bitmap_word t s (remote_word j))) i 64 set.0,
      )

  -- With a clear summary no word is pending, and no slot.
  unset_word : has_pending t s ≡ false → (i : ℕ) → i < 64 → bitmap_word t s (remote_word i) ≡ 0
  unset_word e i l =
      let z : bitmap_word t s remote_summary ≡ 0 = omega (arith, leb-false 1 (bitmap_word t s remote_summary) e) in
      eqb-true (bitmap_word t s (remote_word i)) 0
      (so (eqb (bitmap_word t s (remote_word i)) 0) (sym ((f.spans s h).remote i l) ∙ ap (λ (x : ℕ). is_set x i) z ∙ zero_clear i))
    where
      so : (b : Bool) → not b ≡ false → b ≡ true
      so true e = refl
      so false e = absurd (true≢false e)

  pub unset_slot : has_pending t s ≡ false → (q : ℕ) → q < most_slots → is_pending t s q ≡ false
  unset_slot e q l = ap (λ (z : ℕ). is_set z (q % 64)) (unset_word e (q / 64) (slot_place l)) ∙ zero_clear (q % 64)

  -- What holds of a span with none pending, and of the fold, holds where any are folded.
  by_pending : (P : Tables → Type 0) → P (reclaim_pending t s) → (has_pending t s ≡ false → P t) → P (folded t s)
  unfolding folded
  by_pending P some none = cond_both P (has_pending t s) (reclaim_pending t s) t (λ e. some) none

  -- Nothing but the span's words and its count changed.
  pub folded_only : OnlyOccupancy t (folded t s) s
  folded_only = by_pending (λ u. OnlyOccupancy t u s) reclaim_only (λ e. only_none t s)

  -- The table stays filled.
  pub folded_kept : Filled g (folded t s)
  folded_kept = by_pending (Filled g) reclaim_kept (λ e. f)

  -- Every pending block of the span is free, and every other block is as before.
  pub folded_states : Becomes g t (folded t s) (SlotsOf s (WasPending g t s)) Free
  folded_states =
      by_pending (λ u. Becomes g t u (SlotsOf s (WasPending g t s)) Free) reclaim_states
      (λ e.
      record {
        named = λ r q u l p. absurd (true≢false (sym (pending_says g t s q p.slot).pending ∙ unset_slot e q l));
        others = λ r q u l n. refl;
      })

  -- Nothing of the span is pending afterwards, by its slots and by its summary.
  pub folded_none : (q : ℕ) → q < most_slots → is_pending (folded t s) s q ≡ false
  folded_none = by_pending (λ u. (q : ℕ) → q < most_slots → is_pending u s q ≡ false) reclaim_none unset_slot

  pub folded_had : has_pending (folded t s) s ≡ false
  folded_had = by_pending (λ u. has_pending u s ≡ false) reclaim_had (λ e. e)

  -- The count falls by the pending slots.
  pub folded_occupied : occupied_at (folded t s) s + pending_count t s ≡ occupied_at t s
  folded_occupied =
      by_pending (λ u. occupied_at u s + pending_count t s ≡ occupied_at t s) reclaim_occupied
      (λ e.
      ap (λ (z : ℕ). occupied_at t s + z)
      (sum_none 64 (λ i. popcount (bitmap_word t s (remote_word i))) (λ i l. ap popcount (unset_word e i l) ∙ ones_none 64))
      ∙ add-zero (occupied_at t s))

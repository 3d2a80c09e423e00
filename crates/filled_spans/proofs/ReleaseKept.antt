-- A slot back to its span: the table stays filled, the block is free, and every other block is as before. Assumes nothing.
use mathlib.Core.Path.{◌≡◌, refl, sym, ap, subst, ◌∙◌}
use mathlib.Core.Bool.{true, true≢false}
use Prim.Native.Nat.{ℕ, ◌+◌, ◌<◌}
use native.Mathlib.Nat.{lt_of_lt_of_le}
use Rattle.size_classes.specs.Slots.{most_slots}
use Rattle.occupancy.specs.Occupied.{release_slot}
use Rattle.occupancy.specs.Right.{is_taken, Right}
use Rattle.occupancy.proofs.ReleaseLaws.{release_right, release_free, release_others, release_count}
use Rattle.tables.specs.Shape.{Shape}
use Rattle.tables.specs.Cells.{Tables, occupied_at}
use Rattle.span.specs.Span.{loaded, dealloc_slot}
use Rattle.span.specs.declared.BlockState.TheVariants.{Free, Out}
use Rattle.span.specs.State.{is_occupied, is_pending, state_of}
use Rattle.sound.specs.Sound.{home_of}
use Rattle.sound.specs.Filled.{Filled}
use Rattle.sound.specs.States.{Becomes, Block}
use Rattle.sound.proofs.StateTests.{is_kept, out_says, free_so}
use Rattle.filled_spans.proofs.SpanValues.{home_most, taken_occupied, filled_cells, filled_right}
use Rattle.filled_spans.proofs.FilledKept.{OnlyOccupancy}
use Rattle.filled_spans.proofs.OwnSpan.{kept_means}
use Rattle.filled_spans.proofs.StoredKept.{stored_occupied, stored_only, stored_count, stored_kept, stored_becomes}

module _ (g : Shape) (t : Tables) (f : Filled g t) (s : ℕ) (h : s < t.used) (q : ℕ) (inside : q < (home_of g t s).slots) (out : state_of g t s q ≡ Out) where
  -- The slot is one of a span, and taken.
  below : q < most_slots
  below = lt_of_lt_of_le inside (home_most g t s)

  taken : is_taken (loaded t s) q ≡ true
  taken = taken_occupied t s q below ∙ (out_says g t s q out).occupied

  -- The occupancy without it is right, and another slot is taken as before.
  right : Right (home_of g t s).slots (release_slot (loaded t s) q)
  right = release_right (home_of g t s).slots (loaded t s) (filled_right g t f s h) q inside taken

  others : (p : ℕ) → (p ≡ q → ⊥) → is_taken (release_slot (loaded t s) q) p ≡ is_taken (loaded t s) p
  others p n = release_others (home_of g t s).slots (loaded t s) (filled_right g t f s h) q inside taken p n

  -- A slot other than it that was occupied is taken still.
  stays : (p : ℕ) → p < most_slots → (p ≡ q → ⊥) → is_occupied t s p ≡ true → is_taken (release_slot (loaded t s) q) p ≡ true
  stays p l n e = others p n ∙ taken_occupied t s p l ∙ e

  -- Nothing but the span's words and its count changed.
  pub release_only : OnlyOccupancy t (dealloc_slot t s q) s
  unfolding dealloc_slot
  release_only = stored_only t s (filled_cells g t f s h) (release_slot (loaded t s) q) right.long

  -- The table stays filled.
  pub release_kept : Filled g (dealloc_slot t s q)
  unfolding dealloc_slot
  release_kept =
      let was = out_says g t s q out in
      stored_kept g t f s h (release_slot (loaded t s) q) right
      (λ p l e.
      stays p l (λ z. true≢false (sym (subst (λ (x : ℕ). is_pending t s x ≡ true) z e) ∙ was.not_pending)) ((f.spans s h).pending p l e).1)
      (λ p l e.
      stays p l (λ z. true≢false (sym (subst (λ (x : ℕ). is_kept g t s x ≡ true) z e) ∙ was.not_kept)) (kept_means g t f s h p l e).0)

  -- The block is free, and every other block is as before.
  pub release_states : Becomes g t (dealloc_slot t s q) (Block s q) Free
  unfolding dealloc_slot
  release_states =
      stored_becomes g t f s h (release_slot (loaded t s) q) right (Block s q) (λ i p e. e.span)
      (λ p l e.
      free_so g (dealloc_slot t s q) s p
      (stored_occupied t s (filled_cells g t f s h) (release_slot (loaded t s) q) right.long p l
      ∙ ap (is_taken (release_slot (loaded t s) q)) e.slot
      ∙ release_free (home_of g t s).slots (loaded t s) (filled_right g t f s h) q inside taken))
      (λ p l n. others p (λ e. n (record { span = refl; slot = e })))

  -- One slot fewer is occupied.
  pub release_occupied : occupied_at (dealloc_slot t s q) s + 1 ≡ occupied_at t s
  unfolding dealloc_slot
  release_occupied =
      ap (λ (z : ℕ). z + 1) (stored_count t s (filled_cells g t f s h) (release_slot (loaded t s) q) right.long)
      ∙ release_count (home_of g t s).slots (loaded t s) (filled_right g t f s h) q inside taken

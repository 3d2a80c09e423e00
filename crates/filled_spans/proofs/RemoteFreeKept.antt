-- A free by another heap: the table stays filled, the block is pending, and every other block is as before. Assumes nothing.
use mathlib.Core.Path.{◌≡◌, refl, sym, ap, ap₂, subst, ◌∙◌}
use mathlib.Core.Bool.{true, true≢false, not}
use Prim.Native.Nat.{ℕ, ◌/◌, ◌%◌, ◌^◌, ◌<◌, ◌≤◌}
use native.Mathlib.Nat.{lt_of_lt_of_le, mod-lt}
use native.Mathlib.Decide.{ℕ_discrete}
use native.Mathlib.Omega.{arith}
use lib.Dec.{eqb, lit<}
use lib.ListN.{set, length-set}
use lib.Seq.{get_or-set_same, get_or-set_other}
use borrow.Author.Tests.{ne_eqb}
use Rattle.laws.specs.Word.{bit_at, is_set, set_bit}
use Rattle.laws.proofs.BitLaws.{bit_zero, bit_set_same, bit_set_other, set_lt}
use Rattle.size_classes.specs.Slots.{most_slots}
use Rattle.occupancy.specs.Right.{Right}
use Rattle.tables.specs.Shape.{Shape, bitmap_cells}
use Rattle.tables.specs.Cells.{Tables, bitmap_cell, bitmap_word, local_word, remote_summary, remote_word}
use Rattle.tables.proofs.CellLaws.{bitmap_same, local_in, remote_in, summaries_in}
use Rattle.span.specs.Span.{loaded, remote_free}
use Rattle.span.specs.declared.BlockState.TheVariants.{Pending, Out}
use Rattle.span.specs.State.{is_occupied, is_pending, state_of}
use Rattle.span.specs.Room.{WordCells}
use Rattle.span.proofs.CellsThere.{word_there}
use Rattle.sound.specs.Sound.{home_of}
use Rattle.sound.specs.Filled.{Filled}
use Rattle.sound.specs.States.{Becomes, Block}
use Rattle.sound.proofs.StateTests.{is_kept, out_says, pending_so}
use Rattle.filled_spans.proofs.SpanValues.{slot_place, home_most, same_loaded, filled_cells, filled_right, RemoteRight, filled_remote}
use Rattle.filled_spans.proofs.FilledKept.{OnlyOccupancy, other_state}
use Rattle.filled_spans.proofs.OwnSpan.{kept_means, own_state, filled_own}

-- A word with a bit set is not 0.
set_some : (x i : ℕ) → set_bit x i ≡ 0 → ⊥
set_some x i e = omega (arith, sym (bit_set_same x i) ∙ ap (λ (z : ℕ). bit_at z i) e ∙ bit_zero i)

-- ---- the cells

module _ (t : Tables) (s : ℕ) (cells : WordCells t.bits s) (q : ℕ) (h : q < most_slots) where
  -- which remote word the slot is in
  abbrev at : ℕ
  at = remote_word (q / 64)

  -- It is one of the span, and not the summary.
  at_in : at < bitmap_cells
  at_in = remote_in (slot_place h)

  summary_in : remote_summary < bitmap_cells
  summary_in = summaries_in (omega arith)

  -- The slot's remote word has the slot's bit set.
  remote_word_lem : bitmap_word (remote_free t s q) s at ≡ set_bit (bitmap_word t s at) (q % 64)
  unfolding remote_free
  remote_word_lem =
      get_or-set_other (set t.bits (bitmap_cell s at) (set_bit (bitmap_word t s at) (q % 64))) (bitmap_cell s remote_summary) (bitmap_cell s at)
      (set_bit (bitmap_word t s remote_summary) (q / 64)) 0
      (λ e. let k : at ≡ remote_summary = (bitmap_same s s at_in summary_in e).1 in let z : ⊥ = omega arith in z)
      ∙ get_or-set_same t.bits (bitmap_cell s at) (set_bit (bitmap_word t s at) (q % 64)) 0 (word_there t.bits s cells at_in)

  -- The remote summary has the word's bit set.
  remote_summary_lem : bitmap_word (remote_free t s q) s remote_summary ≡ set_bit (bitmap_word t s remote_summary) (q / 64)
  unfolding remote_free
  remote_summary_lem =
      get_or-set_same (set t.bits (bitmap_cell s at) (set_bit (bitmap_word t s at) (q % 64))) (bitmap_cell s remote_summary)
      (set_bit (bitmap_word t s remote_summary) (q / 64)) 0 (simp length-set (word_there t.bits s cells summary_in))

  -- Every other word of every span stays.
  remote_other :
      (r i : ℕ) →
      i < bitmap_cells →
      (r ≡ s → i ≡ at → ⊥) →
      (r ≡ s → i ≡ remote_summary → ⊥) →
      bitmap_word (remote_free t s q) r i ≡ bitmap_word t r i
  unfolding remote_free
  remote_other r i hi a b =
      get_or-set_other (set t.bits (bitmap_cell s at) (set_bit (bitmap_word t s at) (q % 64))) (bitmap_cell s remote_summary) (bitmap_cell r i)
      (set_bit (bitmap_word t s remote_summary) (q / 64)) 0 (λ e. let k = bitmap_same r s hi summary_in e in b k.0 k.1)
      ∙ get_or-set_other t.bits (bitmap_cell s at) (bitmap_cell r i) (set_bit (bitmap_word t s at) (q % 64)) 0
      (λ e. let k = bitmap_same r s hi at_in e in a k.0 k.1)

  -- Nothing but the span's words changed.
  pub remote_only : OnlyOccupancy t (remote_free t s q) s
  unfolding remote_free
  remote_only =
      record {
        span =
            record {
              bits_length = simp length-set;
              spans_length = refl;
              entries = refl;
              heads = refl;
              words = λ r i l n. remote_other r i l (λ e z. n e) (λ e z. n e);
              fields = λ r k l n. refl;
            };
        used = refl;
        own = λ k l n. refl;
      }

  -- The occupancy stays.
  pub remote_loaded : loaded (remote_free t s q) s ≡ loaded t s
  remote_loaded =
      same_loaded t (remote_free t s q) s cells remote_only.span.bits_length
      (λ i l.
      remote_other s i (summaries_in (omega arith)) (λ e z. let y : ⊥ = omega arith in y) (λ e z. let y : ⊥ = omega arith in y))
      (unfold remote_free in refl)

  -- Every slot is occupied as before.
  pub remote_occupied : (p : ℕ) → p < most_slots → is_occupied (remote_free t s q) s p ≡ is_occupied t s p
  remote_occupied p l =
      let k = slot_place l in
      ap (λ (z : ℕ). is_set z (p % 64))
      (remote_other s (local_word (p / 64)) (local_in k) (λ e z. let y : ⊥ = omega arith in y) (λ e z. let y : ⊥ = omega arith in y))

  -- The slot is pending, and every other is as before.
  pub remote_pending : is_pending (remote_free t s q) s q ≡ true
  remote_pending = ap (λ (z : ℕ). is_set z (q % 64)) remote_word_lem ∙ ap (λ (z : ℕ). eqb z 1) (bit_set_same (bitmap_word t s at) (q % 64))

  pub remote_others : (p : ℕ) → p < most_slots → (p ≡ q → ⊥) → is_pending (remote_free t s q) s p ≡ is_pending t s p
  remote_others p l n = go (ℕ_discrete (p / 64) (q / 64))
    where
      go : Dec (p / 64 ≡ q / 64) → is_pending (remote_free t s q) s p ≡ is_pending t s p
      go (yes e) =
          ap (λ (z : ℕ). is_set (bitmap_word (remote_free t s q) s (remote_word z)) (p % 64)) e
          ∙ ap (λ (z : ℕ). is_set z (p % 64)) remote_word_lem
          ∙ ap (λ (z : ℕ). eqb z 1) (bit_set_other (bitmap_word t s at) (q % 64) (p % 64) (λ z. n (let y : p ≡ q = omega arith in y)))
          ∙ ap (λ (z : ℕ). is_set (bitmap_word t s (remote_word z)) (p % 64)) (sym e)
      go (no z) =
          ap (λ (y : ℕ). is_set y (p % 64))
          (remote_other s (remote_word (p / 64)) (remote_in (slot_place l)) (λ e y. z (let x : p / 64 ≡ q / 64 = omega arith in x))
          (λ e y. let x : ⊥ = omega arith in x))

  -- The remote words stay right, if the slot is an occupied one of the span.
  remote_right : (slots : ℕ) → q < slots → is_occupied t s q ≡ true → RemoteRight t s slots → RemoteRight (remote_free t s q) s slots
  remote_right slots inside taken c =
      record {
        word = λ i l m. small i l m (ℕ_discrete i at) (ℕ_discrete i remote_summary);
        summary = λ i l. right i l (ℕ_discrete i (q / 64));
        held = λ p l e. held p l e (ℕ_discrete p q);
      }
    where
      small : (i : ℕ) → remote_summary ≤ i → i < bitmap_cells → Dec (i ≡ at) → Dec (i ≡ remote_summary) → bitmap_word (remote_free t s q) s i < 2 ^ 64
      small i l m (yes e) d =
          rw (e, remote_word_lem) (set_lt (bitmap_word t s at) (q % 64) (c.word at (omega arith) at_in) (mod-lt q (lit< tt)))
      small i l m (no n) (yes e) =
          rw (e, remote_summary_lem)
          (set_lt (bitmap_word t s remote_summary) (q / 64) (c.word remote_summary (omega arith) summary_in) (slot_place h))
      small i l m (no n) (no z) = rw (remote_other s i m (λ e y. n y) (λ e y. z y)) (c.word i l m)

      right : (i : ℕ) → i < 64 → Dec (i ≡ q / 64)
          → is_set (bitmap_word (remote_free t s q) s remote_summary) i ≡ not (eqb (bitmap_word (remote_free t s q) s (remote_word i)) 0)
      right i l (yes e) =
          ap₂ (λ (x y : ℕ). is_set x y) remote_summary_lem e
          ∙ ap (λ (z : ℕ). eqb z 1) (bit_set_same (bitmap_word t s remote_summary) (q / 64))
          ∙ sym
          (ap (λ (z : ℕ). not (eqb (bitmap_word (remote_free t s q) s (remote_word z)) 0)) e
          ∙ ap (λ (z : ℕ). not (eqb z 0)) remote_word_lem
          ∙ ap not (ne_eqb (set_bit (bitmap_word t s at) (q % 64)) 0 (set_some (bitmap_word t s at) (q % 64))))
      right i l (no n) =
          ap (λ (z : ℕ). is_set z i) remote_summary_lem
          ∙ ap (λ (z : ℕ). eqb z 1) (bit_set_other (bitmap_word t s remote_summary) (q / 64) i n)
          ∙ c.summary i l
          ∙ ap (λ (z : ℕ). not (eqb z 0))
          (sym
          (remote_other s (remote_word i) (remote_in l) (λ e y. n (let x : i ≡ q / 64 = omega arith in x)) (λ e y. let x : ⊥ = omega arith in x)))

      held : (p : ℕ) → p < most_slots → is_pending (remote_free t s q) s p ≡ true → Dec (p ≡ q) → (p < slots) × (is_occupied (remote_free t s q) s p ≡ true)
      held p l e (yes z) = (omega arith, remote_occupied p l ∙ ap (is_occupied t s) z ∙ taken)
      held p l e (no n) = let k = c.held p l (sym (remote_others p l n) ∙ e) in (k.0, remote_occupied p l ∙ k.1)

-- ---- the step

module _ (g : Shape) (t : Tables) (f : Filled g t) (s : ℕ) (h : s < t.used) (q : ℕ) (inside : q < (home_of g t s).slots) (out : state_of g t s q ≡ Out) where
  -- the span's cells are there, and the slot is one of a span
  abbrev cells : WordCells t.bits s
  cells = (filled_cells g t f s h).words

  below : q < most_slots
  below = lt_of_lt_of_le inside (home_most g t s)

  -- The table stays filled.
  pub remote_kept : Filled g (remote_free t s q)
  remote_kept =
      let was = out_says g t s q out in
      filled_own g t (remote_free t s q) s (remote_only t s cells q below) f h
      (subst (Right (home_of g t s).slots) (sym (remote_loaded t s cells q below)) (filled_right g t f s h))
      (remote_right t s cells q below (home_of g t s).slots inside was.occupied
      (filled_remote g t f s h))
      (λ p l e.
      let k = kept_means g t f s h p l e in (
        remote_occupied t s cells q below p l ∙ k.0,
        remote_others t s cells q below p l (λ z. true≢false (sym (subst (λ (x : ℕ). is_kept g t s x ≡ true) z e) ∙ was.not_kept)) ∙ k.1,
      ))

  -- The block is pending, and every other block is as before.
  pub remote_states : Becomes g t (remote_free t s q) (Block s q) Pending
  remote_states =
      record {
        named =
            λ r p u l e.
            ap₂ (state_of g (remote_free t s q)) e.span e.slot
            ∙ pending_so g (remote_free t s q) s q
            (record {
              occupied = remote_occupied t s cells q below q below ∙ (out_says g t s q out).occupied;
              pending = remote_pending t s cells q below;
            });
        others = λ r p u l n. go r p l (λ e d. n (record { span = e; slot = d })) (ℕ_discrete r s);
      }
    where
      go : (r p : ℕ) → p < most_slots → (r ≡ s → p ≡ q → ⊥) → Dec (r ≡ s) → state_of g (remote_free t s q) r p ≡ state_of g t r p
      go r p l n (yes e) =
          subst (λ (x : ℕ). state_of g (remote_free t s q) x p ≡ state_of g t x p) (sym e)
          (own_state g t (remote_free t s q) s (remote_only t s cells q below) p (remote_occupied t s cells q below p l)
          (remote_others t s cells q below p l (n e)))
      go r p l n (no z) = other_state g t (remote_free t s q) s (remote_only t s cells q below).span r z p l

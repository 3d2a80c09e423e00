-- A public call by the number of its table: a refusal, or the call on a sound table. Assumes nothing.
use mathlib.Core.Path.{◌≡◌, refl, sym, ap, subst, ◌∙◌}
use mathlib.Core.Bool.{Bool, true, false}
use mathlib.Core.List.{List}
use mathlib.Core.Logic.{⊎_elim}
use Prim.Native.Nat.{ℕ, ◌*◌, ◌/◌, ◌%◌, ◌≤◌}
use native.Mathlib.Omega.{arith}
use borrow.Author.Tests.{leb-true}
use lib.ListN.{length}
use lib.Dec.{eqb, leb}
use Rattle.laws.proofs.FirstLaws.{tested}
use Rattle.laws.proofs.SomeLaws.{and_both}
use Rattle.size_classes.specs.SlotSizes.{slot_sizes}
use Rattle.size_classes.specs.Slots.{most_slots}
use Rattle.size_classes.proofs.SlotSizeLaws.{slot_sizes_admissible}
use Rattle.tables.specs.Shape.{Shape, shape, base_shape, most_spans}
use Rattle.tables.specs.Cells.{Tables, as_stated}
use Rattle.tables.proofs.StatedLaws.{stated_passed}
use Rattle.laws.specs.Choice.{Says}
use Rattle.sound.specs.Sound.{Sound}
use Rattle.sound.specs.Decided.{is_sound}
use Rattle.sound_laws.proofs.SoundTested.{sound_says}
use Rattle.guard.specs.Guard.{sound_number}
use Rattle.guard.proofs.GuardLaws.{not_stated_lem, found_sound, found_unsound, zero_means}
use Rattle.calls.specs.Outcome.{Outcome, refused}
use Rattle.calls.specs.Batch.{record_bytes, answer_cells, Batched, batched, batch_from, whole_records, batch}
use Rattle.calls.specs.Calls.{guarded, allocate_sound, allocate, free_sound, free}
use Rattle.sound_calls.specs.Lent.{Lent}

-- A table whose number is not 0 is refused with it.
module _ (g : Shape) (t : Tables) (o : Outcome) (n : ℕ) (e : n ≡ sound_number g t) where
  as_unsound : as_stated g t ≡ true → is_sound g t ≡ false → refused 2 t ≡ guarded g t o
  unfolding guarded
  as_unsound s d = rw (s, d)

  as_not_stated : as_stated g t ≡ false → refused 1 t ≡ guarded g t o
  unfolding guarded
  as_not_stated s = rw s

  guard_refuses : (n ≡ 0 → ⊥) → refused n t ≡ guarded g t o
  guard_refuses z =
      ⊎_elim
      (λ s.
      ⊎_elim (λ d. absurd (z (e ∙ sym (found_sound g t s d))))
      (λ d. ap (λ (m : ℕ). refused m t) (e ∙ sym (found_unsound g t s d)) ∙ as_unsound s d) (tested (is_sound g t)))
      (λ s. ap (λ (m : ℕ). refused m t) (e ∙ sym (not_stated_lem g t s)) ∙ as_not_stated s)
      (tested (as_stated g t))

  -- One whose number is 0 is answered as a sound one.
  guard_passes : n ≡ 0 → o ≡ guarded g t o
  unfolding guarded
  guard_passes z = let w = zero_means g t (sym e ∙ z) in rw (w.0, w.1)

-- A table of the base shape with number 0 is one that the calls on sound tables ask for.
pub sound_lent : (heaps spans : ℕ) (t : Tables) → 0 ≡ sound_number (base_shape heaps spans) t → Lent (base_shape heaps spans) t
unfolding most_spans most_slots
sound_lent heaps spans t e =
    let g = base_shape heaps spans in
    let w = zero_means g t (sym e) in
    record {
      sizes = slot_sizes_admissible;
      stated = w.0;
      sound = subst (λ (b : Bool). Says b (Sound g t)) w.1 (sound_says g t);
      few = omega (arith, (stated_passed g t w.0).shape.few_spans);
    }

-- ---- the calls, by that number

module _ (heaps spans : ℕ) (t : Tables) where
  pub allocate_refused :
      (n : ℕ) → n ≡ sound_number (base_shape heaps spans) t → (heap size alignment : ℕ) (ws : List ℕ) → (n ≡ 0 → ⊥) →
      refused n t ≡ allocate (base_shape heaps spans) t heap size alignment ws
  unfolding allocate
  allocate_refused n e heap size alignment ws z = guard_refuses (base_shape heaps spans) t _ n e z

  pub allocate_passed :
      (heap size alignment : ℕ) (ws : List ℕ) (o : Outcome) → 0 ≡ sound_number (base_shape heaps spans) t →
      o ≡ allocate_sound (base_shape heaps spans) t heap size alignment ws → o ≡ allocate (base_shape heaps spans) t heap size alignment ws
  unfolding allocate
  allocate_passed heap size alignment ws o e a = a ∙ guard_passes (base_shape heaps spans) t _ 0 e refl

  pub free_refused :
      (n : ℕ) → n ≡ sound_number (base_shape heaps spans) t → (heap s offset : ℕ) → (n ≡ 0 → ⊥) →
      refused n t ≡ free (base_shape heaps spans) t heap s offset
  unfolding free
  free_refused n e heap s offset z = guard_refuses (base_shape heaps spans) t _ n e z

  pub free_passed :
      (heap s offset : ℕ) (o : Outcome) → 0 ≡ sound_number (base_shape heaps spans) t →
      o ≡ free_sound (base_shape heaps spans) t heap s offset → o ≡ free (base_shape heaps spans) t heap s offset
  unfolding free
  free_passed heap s offset o e a = a ∙ guard_passes (base_shape heaps spans) t _ 0 e refl

  -- The number, and lengths as stated, of a view of the table, by a list of slot sizes that is 01's.
  pub by_view :
      {l m : List ℕ} {v : Tables} (n : ℕ) → l ≡ slot_sizes → m ≡ l → v ≡ t → n ≡ sound_number (shape m 1024 heaps spans) v →
      n ≡ sound_number (base_shape heaps spans) t
  unfolding most_spans
  by_view n e f g s = rw (f, e, g) at s

  pub stated_by :
      {l m : List ℕ} {v : Tables} (r : Bool) → l ≡ slot_sizes → m ≡ l → v ≡ t → r ≡ as_stated (shape m 1024 heaps spans) v →
      r ≡ as_stated (base_shape heaps spans) t
  unfolding most_spans
  stated_by r e f g s = rw (f, e, g) at s

-- ---- a batch, by its tests

module _ (heaps spans : ℕ) (t : Tables) (bytes answers : List ℕ) where
  pub batch_one_lem : as_stated (base_shape heaps spans) t ≡ false → batched 1 answers t ≡ batch (base_shape heaps spans) t bytes answers
  unfolding batch
  batch_one_lem s = rw s

  module _ (stated : as_stated (base_shape heaps spans) t ≡ true) where
    pub batch_ten_lem : whole_records bytes answers ≡ false → batched 10 answers t ≡ batch (base_shape heaps spans) t bytes answers
    unfolding batch
    batch_ten_lem m = rw (stated, m)

    module _ (whole : whole_records bytes answers ≡ true) (n : ℕ) (e : n ≡ sound_number (base_shape heaps spans) t) where
      as_two : is_sound (base_shape heaps spans) t ≡ false → batched 2 answers t ≡ batch (base_shape heaps spans) t bytes answers
      unfolding batch
      as_two d = rw (stated, whole, d)

      pub batch_two_lem : (n ≡ 0 → ⊥) → batched n answers t ≡ batch (base_shape heaps spans) t bytes answers
      batch_two_lem z =
          ⊎_elim (λ d. absurd (z (e ∙ sym (found_sound (base_shape heaps spans) t stated d))))
          (λ d. ap (λ (m : ℕ). batched m answers t) (e ∙ sym (found_unsound (base_shape heaps spans) t stated d)) ∙ as_two d)
          (tested (is_sound (base_shape heaps spans) t))

    module _ (whole : whole_records bytes answers ≡ true) where
      pub batch_passed :
          0 ≡ sound_number (base_shape heaps spans) t → (b : Batched) →
          b ≡ batch_from (length bytes / record_bytes) 0 (base_shape heaps spans) t bytes answers → b ≡ batch (base_shape heaps spans) t bytes answers
      unfolding batch
      batch_passed e b a = let w = zero_means (base_shape heaps spans) t (sym e) in rw (stated, whole, w.1) a

-- Whole records have room for their answers.
pub whole_fits : (bytes answers : List ℕ) → whole_records bytes answers ≡ true → length bytes / record_bytes * answer_cells ≤ length answers
unfolding whole_records
whole_fits bytes answers e =
    leb-true (length bytes / record_bytes * answer_cells) (length answers)
    (and_both (eqb (length bytes % record_bytes) 0) (leb (length bytes / record_bytes * answer_cells) (length answers)) e).1

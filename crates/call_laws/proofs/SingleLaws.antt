-- The single calls on any table: what they do on a sound one, or a refusal that changes nothing. A table after a call is the one before it, or sound.
-- Assumes nothing.
use mathlib.Core.Path.{◌≡◌, refl, ap}
use mathlib.Core.Bool.{true}
use mathlib.Core.List.{List}
use mathlib.Core.Logic.{◌⊎◌, inl, inr, ⊎_elim}
use Prim.Native.Nat.{ℕ, ◌<◌, ◌≤◌}
use native.Mathlib.Omega.{arith}
use borrow.Author.Tests.{leb-true}
use lib.ListN.{length}
use lib.Dec.{leb}
use Rattle.laws.proofs.CondLaws.{cond_both}
use Rattle.laws.proofs.SomeLaws.{and_both, and_four}
use Rattle.size_classes.specs.Class.{in_range, smallest_class}
use Rattle.size_classes.specs.Slots.{most_slots}
use Rattle.size_classes.proofs.SlotSizeLaws.{slot_sizes_admissible}
use Rattle.tables.specs.Shape.{Shape, most_heaps, most_spans, base_shape}
use Rattle.tables.specs.Cells.{Tables, right_shape, right_lengths, as_stated}
use Rattle.sound.specs.Sound.{Sound}
use Rattle.sound.specs.Decided.{is_sound}
use Rattle.sound_laws.proofs.SoundTested.{sound_says, sound_passes}
use Rattle.calls.specs.Outcome.{Outcome, refused}
use Rattle.calls.specs.Calls.{guarded, words_needed, allocate_sound, allocate, free_sound, free}
use Rattle.calls.specs.Run.{Call, allocation, release, malformed, perform, perform_sound}
use Rattle.sound_calls.specs.Lent.{Lent}
use Rattle.call_laws.specs.Served.{Served}
use Rattle.call_laws.specs.Exhausted.{Exhausted}
use Rattle.call_laws.specs.Answers.{Refusal, Given, Returned}
use Rattle.call_laws.proofs.AllocationLaws.{refusal_is, allocate_sound_lent, allocate_sound_cases, six_exactly_sound}
use Rattle.call_laws.proofs.FreeLaws.{free_sound_lent, free_sound_cases}

-- 01's list and limit are served.
pub base_served : (heaps spans : ℕ) → Served (base_shape heaps spans)
unfolding right_shape most_spans most_slots
base_served heaps spans =
    record {
      sizes = slot_sizes_admissible;
      few =
          λ e.
          let r = and_four (leb 1 heaps) (leb heaps most_heaps) (leb 1 spans) (leb spans most_spans) e in
          omega (arith, leb-true spans most_spans r.3);
    }

-- A call is accepted or refused, by its number.
refusal_number : {t : Tables} {o : Outcome} → Refusal t o → o.answer.number ≡ 0 → ⊥
refusal_number r z = omega (arith, z, r.some)

-- A refusal keeps the table.
pub refusal_keeps : {t : Tables} {o : Outcome} → Refusal t o → o.table ≡ t
refusal_keeps r = ap (λ (o : Outcome). o.table) r.is

-- On a sound table as stated the checks pass.
pub guard_passes : {g : Shape} {t : Tables} → as_stated g t ≡ true → Sound g t → (o : Outcome) → guarded g t o ≡ o
unfolding guarded
guard_passes {g} {t} stated sound o = rw (stated, sound_passes g t sound)

module _ {g : Shape} (w : Served g) (t : Tables) where
  -- A table that is as stated and sound is lent as the calls ask,
  pub lent_here : as_stated g t ≡ true → Sound g t → Lent g t
  unfolding as_stated
  lent_here stated sound =
      record { sizes = w.sizes; stated = stated; sound = sound; few = w.few (and_both (right_shape g) (right_lengths g t) stated).0 }

  -- and so is one that passes the checks.
  pub lent_checked : as_stated g t ≡ true → is_sound g t ≡ true → Lent g t
  lent_checked stated e = lent_here stated (rw e at (sound_says g t))

  -- What holds of a call on a lent table and of every refusal holds of the guarded call.
  pub by_guard : (P : Outcome → Type 0) (o : Outcome) → (Lent g t → P o) → ((n : ℕ) → 0 < n → P (refused n t)) → P (guarded g t o)
  unfolding guarded
  by_guard P o done not =
      cond_both P (as_stated g t) _ _
      (λ a. cond_both P (is_sound g t) _ _ (λ b. done (lent_checked a b)) (λ b. not 2 (omega arith)))
      (λ a. not 1 (omega arith))

  -- ---- allocate

  module _ (heap size alignment : ℕ) (words : List ℕ) where
    -- An allocation gives a block of a sound table, or is a refusal.
    pub allocate_cases : (Lent g t × Given g t heap size alignment words (allocate g t heap size alignment words)) ⊎ Refusal t (allocate g t heap size alignment words)
    unfolding allocate
    allocate_cases =
        by_guard (λ (o : Outcome). (Lent g t × Given g t heap size alignment words o) ⊎ Refusal t o) (allocate_sound g t heap size alignment words)
        (λ x. ⊎_elim (λ a. inl (x, a)) inr (allocate_sound_cases x heap size alignment words)) (λ n l. inr (refusal_is n t l))

    -- A refused allocation answers its number and zeros and changes nothing.
    pub allocate_refusal : ((allocate g t heap size alignment words).answer.number ≡ 0 → ⊥) → Refusal t (allocate g t heap size alignment words)
    allocate_refusal n = ⊎_elim (λ a. absurd (n a.1.number)) (λ r. r) allocate_cases

    -- An accepted one found a sound table and gives a block of it.
    pub allocate_accepted : (allocate g t heap size alignment words).answer.number ≡ 0 → Lent g t × Given g t heap size alignment words (allocate g t heap size alignment words)
    allocate_accepted z = ⊎_elim (λ a. a) (λ r. absurd (refusal_number r z)) allocate_cases

    -- The table afterwards is the one before, or sound.
    pub allocate_kept : ((allocate g t heap size alignment words).table ≡ t) ⊎ Sound g (allocate g t heap size alignment words).table
    unfolding allocate
    allocate_kept =
        by_guard (λ (o : Outcome). (o.table ≡ t) ⊎ Sound g o.table) (allocate_sound g t heap size alignment words)
        (λ x. inr (allocate_sound_lent x heap size alignment words).sound) (λ n l. inl refl)

    -- 6 is given on a sound table exactly where the class of the heap is exhausted.
    pub allocate_six :
        as_stated g t ≡ true → Sound g t → heap < g.heaps → words_needed ≤ length words → in_range g.sizes size alignment ≡ true →
        ((allocate g t heap size alignment words).answer.number ≡ 6 → Exhausted g t heap (smallest_class g.sizes size alignment)) ×
        (Exhausted g t heap (smallest_class g.sizes size alignment) → (allocate g t heap size alignment words).answer.number ≡ 6)
    unfolding allocate
    allocate_six stated sound hh lent range =
        rw (guard_passes stated sound (allocate_sound g t heap size alignment words))
        (six_exactly_sound (lent_here stated sound) heap size alignment words hh lent range)

  -- ---- free

  module _ (heap s start : ℕ) where
    -- A free brings back the block of a sound table that it names, or is a refusal.
    pub free_cases : (Lent g t × Returned g t s start (free g t heap s start)) ⊎ Refusal t (free g t heap s start)
    unfolding free
    free_cases =
        by_guard (λ (o : Outcome). (Lent g t × Returned g t s start o) ⊎ Refusal t o) (free_sound g t heap s start)
        (λ x. ⊎_elim (λ a. inl (x, a)) inr (free_sound_cases x heap s start)) (λ n l. inr (refusal_is n t l))

    -- A refused free answers its number and zeros and changes nothing.
    pub free_refusal : ((free g t heap s start).answer.number ≡ 0 → ⊥) → Refusal t (free g t heap s start)
    free_refusal n = ⊎_elim (λ a. absurd (n a.1.number)) (λ r. r) free_cases

    -- An accepted one found a sound table and brings the block back.
    pub free_accepted : (free g t heap s start).answer.number ≡ 0 → Lent g t × Returned g t s start (free g t heap s start)
    free_accepted z = ⊎_elim (λ a. a) (λ r. absurd (refusal_number r z)) free_cases

    -- The table afterwards is the one before, or sound.
    pub free_kept : ((free g t heap s start).table ≡ t) ⊎ Sound g (free g t heap s start).table
    unfolding free
    free_kept =
        by_guard (λ (o : Outcome). (o.table ≡ t) ⊎ Sound g o.table) (free_sound g t heap s start) (λ x. inr (free_sound_lent x heap s start).sound)
        (λ n l. inl refl)

  -- ---- any call

  -- The table after a call is the one before, or sound.
  pub perform_kept : (c : Call) → ((perform g t c).table ≡ t) ⊎ Sound g (perform g t c).table
  perform_kept (allocation heap size alignment words) = allocate_kept heap size alignment words
  perform_kept (release heap s start) = free_kept heap s start
  perform_kept malformed = inl refl

  -- A refused call answers its number and zeros and changes nothing.
  pub perform_refusal : (c : Call) → ((perform g t c).answer.number ≡ 0 → ⊥) → Refusal t (perform g t c)
  perform_refusal (allocation heap size alignment words) n = allocate_refusal heap size alignment words n
  perform_refusal (release heap s start) n = free_refusal heap s start n
  perform_refusal malformed n = refusal_is 9 t (omega arith)

module _ {g : Shape} {t : Tables} (x : Lent g t) where
  -- On a sound table a call with its checks is the call without them.
  pub perform_sound_lem : (c : Call) → perform g t c ≡ perform_sound g t c
  unfolding allocate free
  perform_sound_lem (allocation heap size alignment words) = guard_passes x.stated x.sound (allocate_sound g t heap size alignment words)
  perform_sound_lem (release heap s start) = guard_passes x.stated x.sound (free_sound g t heap s start)
  perform_sound_lem malformed = refl

  -- The table after a call on a lent table is lent again.
  pub perform_lent : (c : Call) → Lent g (perform_sound g t c).table
  perform_lent (allocation heap size alignment words) = allocate_sound_lent x heap size alignment words
  perform_lent (release heap s start) = free_sound_lent x heap s start
  perform_lent malformed = x

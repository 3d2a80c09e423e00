-- Frees by any caller: each is a refusal, which changes nothing, or brings back the block that it names, which was out; and a sound table stays sound.
-- Assumes nothing.
use mathlib.Core.Path.{◌≡◌, refl, sym, ap, ap₂, ◌∙◌}
use mathlib.Core.Logic.{◌⊎◌, inl, inr}
use Prim.Native.Nat.{ℕ, ◌*◌, ◌/◌, ◌<◌}
use native.Mathlib.Omega.{arith}
use lib.Dec.{ltb}
use Rattle.laws.proofs.CondLaws.{cond_both}
use Rattle.tables.specs.Shape.{Shape}
use Rattle.tables.specs.Cells.{Tables}
use Rattle.span.specs.State.{state_of, is_out}
use Rattle.calls.specs.Outcome.{Outcome, refused}
use Rattle.calls.specs.Calls.{slot_size_at, names_slot, freed, free_sound}
use Rattle.sound_calls.specs.Lent.{Lent}
use Rattle.sound_calls.proofs.FreeTests.{out_state_lem}
use Rattle.call_laws.specs.Answers.{Refusal, NamesOut, Returned}
use Rattle.call_laws.proofs.ClassCalls.{dealloc_small_lent, dealloc_goes}
use Rattle.call_laws.proofs.NamedLaws.{named_starts, named_out, named_kept}
use Rattle.call_laws.proofs.AllocationLaws.{refusal_is}

module _ {g : Shape} {t : Tables} (x : Lent g t) (heap s start : ℕ) where
  -- What holds of the free of a block that is out and of every refusal holds of every free.
  by_name : (P : Outcome → Type 0) → (NamesOut g t s start → P (freed g t heap s start)) → ((n : ℕ) → 0 < n → P (refused n t)) → P (free_sound g t heap s start)
  unfolding free_sound
  by_name P done not =
      cond_both P (ltb heap g.heaps) _ _
      (λ a.
      cond_both P (names_slot g t s start) _ _
      (λ b.
      cond_both P (is_out g t s (start / slot_size_at g t s)) _ _
      (λ c. done (record { names = b; out = out_state_lem (state_of g t s (start / slot_size_at g t s)) c })) (λ c. not 8 (omega arith)))
      (λ b. not 7 (omega arith)))
      (λ a. not 3 (omega arith))

  freed_lent : NamesOut g t s start → Lent g (freed g t heap s start).table
  unfolding freed
  freed_lent n = dealloc_small_lent x (named_out n) heap

  freed_returned : NamesOut g t s start → Returned g t s start (freed g t heap s start)
  unfolding freed
  freed_returned n = record { number = refl; span = refl; offset = refl; used = refl; named = n; goes = dealloc_goes x (named_out n) heap }

  -- The table after a free is lent again.
  pub free_sound_lent : Lent g (free_sound g t heap s start).table
  free_sound_lent = by_name (λ (o : Outcome). Lent g o.table) freed_lent (λ n l. x)

  -- A free on a sound table brings back the block that it names, or is a refusal.
  pub free_sound_cases : Returned g t s start (free_sound g t heap s start) ⊎ Refusal t (free_sound g t heap s start)
  free_sound_cases = by_name (λ (o : Outcome). Returned g t s start o ⊎ Refusal t o) (λ n. inl (freed_returned n)) (λ n l. inr (refusal_is n t l))

-- ---- the block that goes back, by its span and its offset

module _ {g : Shape} {t : Tables} {s start : ℕ} {o : Outcome} (a : Returned g t s start o) (y : Lent g o.table) where
  -- Every other block that was out stays out.
  pub returned_kept : {r from : ℕ} → (r ≡ s → from ≡ start → ⊥) → NamesOut g t r from → NamesOut g o.table r from
  returned_kept {r} {from} d n =
      named_kept y a.goes.spans n
      (a.goes.kept r (from / slot_size_at g t r) (named_out n)
      (λ e q. d e (same_start e q)))
    where
      same_start : r ≡ s → from / slot_size_at g t r ≡ start / slot_size_at g t s → from ≡ start
      same_start e q = (named_starts n).at ∙ ap₂ ◌*◌ q (ap (slot_size_at g t) e) ∙ sym (named_starts a.named).at

-- Every allocation, free and batch is answered by 01's table, each number exactly where its row says. Assumes nothing.
use mathlib.Core.Path.{◌≡◌, refl, sym, ap, subst, ◌∙◌}
use mathlib.Core.Bool.{false, true≢false}
use mathlib.Core.List.{List}
use mathlib.Core.Logic.{⊎_elim}
use Prim.Native.Nat.{ℕ, zero, suc, ◌/◌, ◌<◌}
use native.Mathlib.Omega.{arith}
use borrow.Author.Tests.{lt-ltb, le-ltb, ltb-true, ltb-false, le-leb, lt-leb, leb-true, leb-false}
use lib.ListN.{length}
use lib.Dec.{leb, ltb}
use Rattle.laws.proofs.CondLaws.{cond_both}
use Rattle.laws.proofs.FirstLaws.{tested}
use Rattle.size_classes.specs.Class.{in_range, smallest_class}
use Rattle.size_classes.proofs.ClassLaws.{range_holds, holds_range, range_fails, fails_range}
use Rattle.size_classes.proofs.ClassTheorems.{range_smallest}
use Rattle.tables.specs.Shape.{Shape, class_heap}
use Rattle.tables.specs.Cells.{Tables, as_stated}
use Rattle.span.specs.State.{state_of, is_out, out_state}
use Rattle.sound.specs.Decided.{is_sound}
use Rattle.sound_laws.proofs.SoundTested.{sound_says, sound_passes, unsound_fails}
use Rattle.calls.specs.Outcome.{Outcome}
use Rattle.calls.specs.Heap.{alloc_small}
use Rattle.calls.specs.Calls.{guarded, words_needed, allocate_sound, allocate, slot_size_at, names_slot, freed, free_sound, free}
use Rattle.calls.specs.Batch.{Batched, whole_records, batch_from, batch}
use Rattle.sound_calls.specs.Lent.{Lent}
use Rattle.sound_calls.proofs.FreeTests.{out_state_lem}
use Rattle.call_laws.specs.Served.{Served}
use Rattle.call_laws.specs.Exhausted.{Exhausted}
use Rattle.call_laws.specs.Numbers.{Reason, done, not_stated, unsound, no_heap, few_words, too_large, exhausted, no_slot, not_out, bad_record, not_whole, number_of, Checked, InOrder, AllocatedWhen, FreedWhen, BatchedWhen, ByTheTable}
use Rattle.call_laws.proofs.ClassCalls.{alloc_small_cases, six_exhausted, exhausted_six}
use Rattle.call_laws.proofs.SingleLaws.{lent_here}

-- ---- the table

-- the row of a number
row_of : ℕ → Reason
row_of zero = done
row_of (suc zero) = not_stated
row_of (suc (suc zero)) = unsound
row_of (suc (suc (suc zero))) = no_heap
row_of (suc (suc (suc (suc zero)))) = few_words
row_of (suc (suc (suc (suc (suc zero))))) = too_large
row_of (suc (suc (suc (suc (suc (suc zero)))))) = exhausted
row_of (suc (suc (suc (suc (suc (suc (suc zero))))))) = no_slot
row_of (suc (suc (suc (suc (suc (suc (suc (suc zero)))))))) = not_out
row_of (suc (suc (suc (suc (suc (suc (suc (suc (suc zero))))))))) = bad_record
row_of (suc (suc (suc (suc (suc (suc (suc (suc (suc (suc n)))))))))) = not_whole

row_back : (r : Reason) → row_of (number_of r) ≡ r
unfolding row_of
row_back done = refl
row_back not_stated = refl
row_back unsound = refl
row_back no_heap = refl
row_back few_words = refl
row_back too_large = refl
row_back exhausted = refl
row_back no_slot = refl
row_back not_out = refl
row_back bad_record = refl
row_back not_whole = refl

-- a number's row, and that it holds
record Found (number : ℕ) (When : Reason → Type 0) : Type 0 where
  reason : Reason
  is : number ≡ number_of reason
  holds : When reason

-- One row holds, and each that holds gives its number: so each number is given exactly where its row holds.
by_the_table : (number : ℕ) (When : Reason → Type 0) → Found number When → ((r : Reason) → When r → number ≡ number_of r) → ByTheTable number When
by_the_table number When f when =
    record {
      reason = f.reason;
      is = f.is;
      given = λ r e. subst When (sym (row_back f.reason) ∙ ap row_of (sym f.is ∙ e) ∙ row_back r) f.holds;
      when = when;
    }

-- ---- allocations

module _ {g : Shape} (w : Served g) (t : Tables) (heap size alignment : ℕ) (words : List ℕ) where
  abbrev Allocates : Reason → Type 0
  Allocates = AllocatedWhen g t heap size alignment words

  abbrev class : ℕ
  class = smallest_class g.sizes size alignment

  abbrev in_class : Outcome
  in_class = alloc_small g.spans t (class_heap g heap class) words

  module _ (i : InOrder g t heap size alignment words) where
    lent : Lent g t
    lent = lent_here w t i.checked.stated i.checked.sound

    class_in : class < length g.sizes
    class_in = (range_smallest g.sizes w.sizes size alignment (holds_range g.sizes size alignment i.holds i.aligned)).class

    -- In order, a block is given or the class of the heap is exhausted.
    class_found : Found in_class.answer.number Allocates
    class_found =
        ⊎_elim
        (λ d. record { reason = exhausted; is = d.number; holds = (i, (six_exhausted lent i.exists class_in words d.number).1) })
        (λ a.
        record {
          reason = done;
          is = a.number;
          holds = (i, λ y. let z : ⊥ = omega (arith, a.number, exhausted_six lent i.exists class_in words y) in z);
        })
        (alloc_small_cases lent i.exists class_in words)

    in_class_lem : allocate g t heap size alignment words ≡ in_class
    unfolding allocate guarded allocate_sound
    in_class_lem =
        rw (
          i.checked.stated,
          sound_passes g t i.checked.sound,
          lt-ltb heap g.heaps i.exists,
          le-leb words_needed (length words) i.lent,
          holds_range g.sizes size alignment i.holds i.aligned,
        )

    -- A block is given where it is not exhausted.
    class_done : (Exhausted g t heap class → ⊥) → in_class.answer.number ≡ 0
    class_done n =
        ⊎_elim (λ d. absurd (n (six_exhausted lent i.exists class_in words d.number).1)) (λ a. a.number)
        (alloc_small_cases lent i.exists class_in words)

  allocation_found : Found (allocate g t heap size alignment words).answer.number Allocates
  unfolding allocate guarded allocate_sound
  allocation_found =
      let P : Outcome → Type 0 = λ o. Found o.answer.number Allocates in
      cond_both P (as_stated g t) _ _
      (λ a.
      cond_both P (is_sound g t) _ _
      (λ b.
      let c : Checked g t = record { stated = a; sound = rw b at (sound_says g t) } in
      cond_both P (ltb heap g.heaps) _ _
      (λ h.
      let exists = ltb-true heap g.heaps h in
      cond_both P (leb words_needed (length words)) _ _
      (λ l.
      let enough = leb-true words_needed (length words) l in
      cond_both P (in_range g.sizes size alignment) _ _
      (λ r.
      let s = range_holds g.sizes size alignment r in
      class_found (record { checked = c; exists = exists; lent = enough; holds = s.0; aligned = s.1 }))
      (λ r. record { reason = too_large; is = refl; holds = (c, exists, enough, range_fails g.sizes size alignment r) }))
      (λ l. record { reason = few_words; is = refl; holds = (c, exists, leb-false words_needed (length words) l) }))
      (λ h. record { reason = no_heap; is = refl; holds = (c, ltb-false heap g.heaps h) }))
      (λ b. record { reason = unsound; is = refl; holds = (a, rw b at (sound_says g t)) }))
      (λ a. record { reason = not_stated; is = refl; holds = a })

  allocation_when : (r : Reason) → Allocates r → (allocate g t heap size alignment words).answer.number ≡ number_of r
  unfolding allocate guarded allocate_sound
  allocation_when done x = ap (λ (o : Outcome). o.answer.number) (in_class_lem x.0) ∙ class_done x.0 x.1
  allocation_when not_stated x = rw x
  allocation_when unsound x = rw (x.0, unsound_fails g t x.1)
  allocation_when no_heap x = rw (x.0.stated, sound_passes g t x.0.sound, le-ltb heap g.heaps x.1)
  allocation_when few_words x =
      rw (x.0.stated, sound_passes g t x.0.sound, lt-ltb heap g.heaps x.1, lt-leb words_needed (length words) x.2)
  allocation_when too_large x =
      rw (
        x.0.stated,
        sound_passes g t x.0.sound,
        lt-ltb heap g.heaps x.1,
        le-leb words_needed (length words) x.2,
        fails_range g.sizes size alignment x.3,
      )
  allocation_when exhausted x =
      ap (λ (o : Outcome). o.answer.number) (in_class_lem x.0) ∙ exhausted_six (lent x.0) x.0.exists (class_in x.0) words x.1
  allocation_when no_slot x = absurd x
  allocation_when not_out x = absurd x
  allocation_when bad_record x = absurd x
  allocation_when not_whole x = absurd x

  -- Every allocation is answered by the table.
  pub allocation_by_table : ByTheTable (allocate g t heap size alignment words).answer.number (AllocatedWhen g t heap size alignment words)
  allocation_by_table = by_the_table (allocate g t heap size alignment words).answer.number Allocates allocation_found allocation_when

-- ---- frees

module _ (g : Shape) (t : Tables) (heap s start : ℕ) where
  abbrev Releases : Reason → Type 0
  Releases = FreedWhen g t heap s start

  free_found : Found (free g t heap s start).answer.number Releases
  unfolding free guarded free_sound freed
  free_found =
      let P : Outcome → Type 0 = λ o. Found o.answer.number Releases in
      let state = state_of g t s (start / slot_size_at g t s) in
      cond_both P (as_stated g t) _ _
      (λ a.
      cond_both P (is_sound g t) _ _
      (λ b.
      let c : Checked g t = record { stated = a; sound = rw b at (sound_says g t) } in
      cond_both P (ltb heap g.heaps) _ _
      (λ h.
      let exists = ltb-true heap g.heaps h in
      cond_both P (names_slot g t s start) _ _
      (λ n.
      cond_both P (is_out g t s (start / slot_size_at g t s)) _ _
      (λ o. record { reason = done; is = refl; holds = (c, exists, record { names = n; out = out_state_lem state o }) })
      (λ o. record { reason = not_out; is = refl; holds = (c, exists, n, λ m. true≢false (sym (ap out_state m.out) ∙ o)) }))
      (λ n. record { reason = no_slot; is = refl; holds = (c, exists, n) }))
      (λ h. record { reason = no_heap; is = refl; holds = (c, ltb-false heap g.heaps h) }))
      (λ b. record { reason = unsound; is = refl; holds = (a, rw b at (sound_says g t)) }))
      (λ a. record { reason = not_stated; is = refl; holds = a })

  free_when : (r : Reason) → Releases r → (free g t heap s start).answer.number ≡ number_of r
  unfolding free guarded free_sound freed
  free_when done x =
      rw (x.0.stated, sound_passes g t x.0.sound, lt-ltb heap g.heaps x.1, x.2.names, x.2.out)
  free_when not_stated x = rw x
  free_when unsound x = rw (x.0, unsound_fails g t x.1)
  free_when no_heap x = rw (x.0.stated, sound_passes g t x.0.sound, le-ltb heap g.heaps x.1)
  free_when few_words x = absurd x
  free_when too_large x = absurd x
  free_when exhausted x = absurd x
  free_when no_slot x = rw (x.0.stated, sound_passes g t x.0.sound, lt-ltb heap g.heaps x.1, x.2)
  free_when not_out x =
      let q = start / slot_size_at g t s in
      let o : is_out g t s q ≡ false =
      ⊎_elim (λ o. absurd (x.3 (record { names = x.2; out = out_state_lem (state_of g t s q) o }))) (λ o. o) (tested (is_out g t s q)) in
      rw (x.0.stated, sound_passes g t x.0.sound, lt-ltb heap g.heaps x.1, x.2, o)
  free_when bad_record x = absurd x
  free_when not_whole x = absurd x

  -- Every free is answered by the table.
  pub free_by_table : ByTheTable (free g t heap s start).answer.number (FreedWhen g t heap s start)
  free_by_table = by_the_table (free g t heap s start).answer.number Releases free_found free_when

-- ---- batches

-- Records one after the other are answered as a whole with 0.
batch_from_done : (n i : ℕ) (g : Shape) (t : Tables) (bytes answers : List ℕ) → (batch_from n i g t bytes answers).number ≡ 0
unfolding batch_from
batch_from_done zero i g t bytes answers = refl
batch_from_done (suc n) i g t bytes answers = batch_from_done n _ g _ bytes _

module _ (g : Shape) (t : Tables) (bytes answers : List ℕ) where
  abbrev Batches : Reason → Type 0
  Batches = BatchedWhen g t bytes answers

  batch_found : Found (batch g t bytes answers).number Batches
  unfolding batch
  batch_found =
      let P : Batched → Type 0 = λ b. Found b.number Batches in
      cond_both P (as_stated g t) _ _
      (λ a.
      cond_both P (whole_records bytes answers) _ _
      (λ m.
      cond_both P (is_sound g t) _ _
      (λ b. record { reason = done; is = batch_from_done _ _ g t bytes answers; holds = (record { stated = a; sound = rw b at (sound_says g t) }, m) })
      (λ b. record { reason = unsound; is = refl; holds = (a, m, rw b at (sound_says g t)) }))
      (λ m. record { reason = not_whole; is = refl; holds = (a, m) }))
      (λ a. record { reason = not_stated; is = refl; holds = a })

  batch_when : (r : Reason) → Batches r → (batch g t bytes answers).number ≡ number_of r
  unfolding batch
  batch_when done x = rw (x.0.stated, x.1, sound_passes g t x.0.sound) (batch_from_done _ _ g t bytes answers)
  batch_when not_stated x = rw x
  batch_when unsound x = rw (x.0, x.1, unsound_fails g t x.2)
  batch_when no_heap x = absurd x
  batch_when few_words x = absurd x
  batch_when too_large x = absurd x
  batch_when exhausted x = absurd x
  batch_when no_slot x = absurd x
  batch_when not_out x = absurd x
  batch_when bad_record x = absurd x
  batch_when not_whole x = rw (x.0, x.1)

  -- Every batch is answered by the table.
  pub batch_by_table : ByTheTable (batch g t bytes answers).number (BatchedWhen g t bytes answers)
  batch_by_table = by_the_table (batch g t bytes answers).number Batches batch_found batch_when

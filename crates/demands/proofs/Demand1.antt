-- Demand 1, sentence by sentence, over the definitions that the public contracts cite. What is asked of the shape (`Served`) holds of 01's list and limits
-- for any number of heaps and spans (`base_served`). Assumes nothing.
use mathlib.Core.Path.{◌≡◌, refl, ◌∙◌}
use mathlib.Core.Bool.{true, false, ◌&&◌}
use mathlib.Core.List.{List, ◌∷◌, ◌++◌}
use mathlib.Core.Logic.{◌⊎◌, inl, inr, ⊎_elim}
use Prim.Native.Nat.{ℕ, ◌*◌, ◌/◌, ◌<◌, ◌≤◌}
use lib.ListN.{length, drop}
use lib.Dec.{eqb, ltb}
use borrow.Author.Tests.{lt-ltb, eq-eqb}
use Rattle.laws.proofs.CondLaws.{cond_both}
use Rattle.laws.proofs.FirstLaws.{tested}
use Rattle.size_classes.specs.Class.{in_range, smallest_class}
use Rattle.span.specs.State.{state_of, is_out}
use Rattle.size_classes.proofs.SlotTheorems.{Starts}
use Rattle.outs.specs.Outs.{IsOut}
use Rattle.tables.specs.Shape.{Shape, classes}
use Rattle.tables.specs.Cells.{Tables, as_stated, fresh_tables}
use Rattle.tables.specs.Fresh.{Numbered, numbered, fresh}
use Rattle.sound.specs.Sound.{Sound}
use Rattle.sound.specs.Decided.{is_sound}
use Rattle.sound_laws.proofs.SoundTested.{sound_passes, unsound_fails}
use Rattle.sound_laws.proofs.FreshSound.{fresh_sound}
use Rattle.calls.specs.Outcome.{Outcome, refused}
use Rattle.calls.specs.Calls.{guarded, words_needed, allocate, names_slot, slot_size_at, freed, free_sound, free}
use Rattle.calls.specs.Run.{Call, perform, run}
use Rattle.calls.specs.Batch.{record_bytes, answer_cells, batched, whole_records, batch}
use Rattle.calls.specs.Summary.{Summed, summed, summary_cells, summary}
use Rattle.sound_calls.proofs.FreeTests.{out_state_lem}
use Rattle.call_laws.specs.Served.{Served}
use Rattle.call_laws.specs.Answers.{Given, NamesOut, Returned}
use Rattle.call_laws.specs.Exhausted.{Exhausted}
use Rattle.call_laws.specs.Runs.{NeverTwice}
use Rattle.call_laws.specs.Batches.{batch_calls, answer_numbers}
use Rattle.call_laws.specs.Histories.{Step, history_calls, history_answers, history_table}
use Rattle.call_laws.specs.Numbers.{done, AllocatedWhen, FreedWhen, BatchedWhen, ByTheTable}
use Rattle.call_laws.proofs.NumberLaws.{allocation_by_table, free_by_table, batch_by_table}
use Rattle.call_laws.proofs.NamedLaws.{named_starts, named_out, out_named}
use Rattle.call_laws.proofs.SingleLaws.{lent_here, allocate_refusal, allocate_accepted, allocate_kept, allocate_six, free_accepted, free_kept}
use Rattle.call_laws.proofs.RunLaws.{run_kept, never_twice}
use Rattle.call_laws.proofs.BatchLaws.{batch_refusal, batch_kept, batch_refused_record}
use Rattle.call_laws.proofs.HistoryLaws.{history_lent, never_twice_history}
use Rattle.call_laws.proofs.FreshCall.{fresh_kept}

-- ---- "Every input has an answer."

-- Each definition is a function of every input. Whatever is lent, the number is one of 01's table, and is given exactly when its row says.
pub allocation_answered :
    {g : Shape} → Served g → (t : Tables) (heap size alignment : ℕ) (words : List ℕ) →
    ByTheTable (allocate g t heap size alignment words).answer.number (AllocatedWhen g t heap size alignment words)
allocation_answered = allocation_by_table

pub free_answered : (g : Shape) (t : Tables) (heap s start : ℕ) → ByTheTable (free g t heap s start).answer.number (FreedWhen g t heap s start)
free_answered = free_by_table

pub batch_answered : (g : Shape) (t : Tables) (bytes answers : List ℕ) → ByTheTable (batch g t bytes answers).number (BatchedWhen g t bytes answers)
batch_answered = batch_by_table

-- ---- "An unsound lent table is refused, unless the call writes it anew."

module _ (g : Shape) (t : Tables) (stated : as_stated g t ≡ true) (unsound : Sound g t → ⊥) where
  guard_refuses : (o : Outcome) → guarded g t o ≡ refused 2 t
  unfolding guarded
  guard_refuses o = rw (stated, unsound_fails g t unsound)

  -- An allocation,
  pub unsound_allocation : (heap size alignment : ℕ) (words : List ℕ) → allocate g t heap size alignment words ≡ refused 2 t
  unfolding allocate
  unsound_allocation heap size alignment words = guard_refuses _

  -- a free,
  pub unsound_free : (heap s offset : ℕ) → free g t heap s offset ≡ refused 2 t
  unfolding free
  unsound_free heap s offset = guard_refuses _

  -- a batch of whole records with room for its answers,
  pub unsound_batch : (bytes answers : List ℕ) → whole_records bytes answers ≡ true → batch g t bytes answers ≡ batched 2 answers t
  unfolding batch
  unsound_batch bytes answers whole = rw (stated, whole, unsound_fails g t unsound)

  -- and a summary with room for its records are refused with 2, and nothing is changed.
  pub unsound_summary : (records : List ℕ) → length records ≡ classes g * summary_cells → summary g t records ≡ summed 2 records
  unfolding summary
  unsound_summary records e = rw (stated, eq-eqb (length records) (classes g * summary_cells) e, unsound_fails g t unsound)

-- The fresh-table maker writes every table as stated anew, sound or not, and it is sound then.
pub written_anew : (g : Shape) (t : Tables) → as_stated g t ≡ true → (fresh g t ≡ numbered 0 (fresh_tables t)) × Sound g (fresh_tables t)
unfolding fresh
written_anew g t stated = (rw stated, fresh_sound g t)

-- ---- "On a sound one, a well-formed free by a heap that exists is refused exactly when it names no block that is out."

module _ (g : Shape) (t : Tables) (stated : as_stated g t ≡ true) (sound : Sound g t) (heap s offset : ℕ) where
  -- A sound table as stated is not refused with 1 or 2.
  on_sound : free g t heap s offset ≡ free_sound g t heap s offset
  unfolding free guarded
  on_sound = rw (stated, sound_passes g t sound)

  module _ (exists : heap < g.heaps) where
    accepted : NamesOut g t s offset → free_sound g t heap s offset ≡ freed g t heap s offset
    unfolding free_sound
    accepted n = rw (lt-ltb heap g.heaps exists, n.names, n.out)

    not_slot : names_slot g t s offset ≡ false → free_sound g t heap s offset ≡ refused 7 t
    unfolding free_sound
    not_slot n = rw (lt-ltb heap g.heaps exists, n)

    not_out_lem : names_slot g t s offset ≡ true → is_out g t s (offset / slot_size_at g t s) ≡ false → free_sound g t heap s offset ≡ refused 8 t
    unfolding free_sound
    not_out_lem n o = rw (lt-ltb heap g.heaps exists, n, o)

    -- The free is done, or refused with 7 or 8 and the tables as they were.
    pub free_or_refused : (NamesOut g t s offset × (free g t heap s offset ≡ freed g t heap s offset)) ⊎ ((free g t heap s offset ≡ refused 7 t) ⊎ (free g t heap s offset ≡ refused 8 t))
    free_or_refused =
        ⊎_elim
        (λ n.
        ⊎_elim
        (λ o. let w : NamesOut g t s offset = record { names = n; out = out_state_lem (state_of g t s (offset / slot_size_at g t s)) o } in inl (w, on_sound ∙ accepted w))
        (λ o. inr (inr (on_sound ∙ not_out_lem n o)))
        (tested (is_out g t s (offset / slot_size_at g t s))))
        (λ n. inr (inl (on_sound ∙ not_slot n)))
        (tested (names_slot g t s offset))

    -- Accepted exactly when the span is used, a slot of it starts at the offset, and its block is out.
    pub free_exactly :
        ((free g t heap s offset).answer.number ≡ 0 → NamesOut g t s offset) ×
        (NamesOut g t s offset → (free g t heap s offset).answer.number ≡ 0)
    free_exactly =
        let table = free_by_table g t heap s offset in
        (λ n. (table.given done n).2, λ n. table.when done (record { stated = stated; sound = sound }, exists, n))

-- Such a block, said by its slot: a slot of the span starts at the offset, and is out.
pub names_out_exactly :
    {g : Shape} → Served g → (t : Tables) → as_stated g t ≡ true → Sound g t → (s offset : ℕ) →
    (NamesOut g t s offset → (q : ℕ) × Starts (slot_size_at g t s) offset q × IsOut g t s q) ×
    ((q : ℕ) → Starts (slot_size_at g t s) offset q → IsOut g t s q → NamesOut g t s offset)
names_out_exactly {g} w t stated sound s offset = (
  λ n. (offset / slot_size_at g t s, named_starts n, named_out n),
  λ q a i. out_named (lent_here w t stated sound) a i,
)

-- ---- "A refusal changes no cell of any lent table; in a batch only its own answer is written."

-- an outcome that is no refusal, or answers its number and zeros and keeps the tables
abbrev pub Keeps : Tables → Outcome → Type 0
Keeps t o = (o.answer.number ≡ 0 → ⊥) → o ≡ refused o.answer.number t

refusal_keeps : (n : ℕ) (t : Tables) → Keeps t (refused n t)
refusal_keeps n t r = refl

-- A refused free,
pub free_refusal_keeps : (g : Shape) (t : Tables) (heap s offset : ℕ) → Keeps t (free g t heap s offset)
unfolding free guarded free_sound freed
free_refusal_keeps g t heap s offset =
    cond_both (Keeps t) (as_stated g t) _ _
    (λ _.
    cond_both (Keeps t) (is_sound g t) _ _
    (λ _.
    cond_both (Keeps t) (ltb heap g.heaps) _ _
    (λ _.
    cond_both (Keeps t) (names_slot g t s offset) _ _
    (λ _. cond_both (Keeps t) (is_out g t s (offset / slot_size_at g t s)) _ _ (λ _ n. absurd (n refl)) (λ _. refusal_keeps 8 t))
    (λ _. refusal_keeps 7 t))
    (λ _. refusal_keeps 3 t))
    (λ _. refusal_keeps 2 t))
    (λ _. refusal_keeps 1 t)

-- a refused making of a fresh table,
pub fresh_refusal_keeps : (g : Shape) (t : Tables) → ((fresh g t).number ≡ 0 → ⊥) → fresh g t ≡ numbered 1 t
unfolding fresh
fresh_refusal_keeps g t =
    cond_both (λ (r : Numbered). (r.number ≡ 0 → ⊥) → r ≡ numbered 1 t) (as_stated g t) (numbered 0 (fresh_tables t)) (numbered 1 t)
    (λ e n. absurd (n refl)) (λ e n. refl)

-- a refused summary ("On a refusal the records stay."; it changes no other cell at all),
pub summary_refusal_keeps : (g : Shape) (t : Tables) (records : List ℕ) → ((summary g t records).number ≡ 0 → ⊥) → (summary g t records).records ≡ records
unfolding summary
summary_refusal_keeps g t records =
    let P : Summed → Type 0 = λ r. (r.number ≡ 0 → ⊥) → r.records ≡ records in
    cond_both P (as_stated g t && eqb (length records) (classes g * summary_cells)) _ _
    (λ a. cond_both P (is_sound g t) _ _ (λ b n. absurd (n refl)) (λ b n. refl)) (λ a n. refl)

module _ {g : Shape} (w : Served g) (t : Tables) where
  -- and a refused allocation change nothing.
  pub allocate_refusal_keeps : (heap size alignment : ℕ) (words : List ℕ) → Keeps t (allocate g t heap size alignment words)
  allocate_refusal_keeps heap size alignment words n = (allocate_refusal w t heap size alignment words n).is

  -- A batch that is refused as a whole writes no answer.
  pub batch_refusal_keeps : (bytes answers : List ℕ) → ((batch g t bytes answers).number ≡ 0 → ⊥) → batch g t bytes answers ≡ batched (batch g t bytes answers).number answers t
  batch_refusal_keeps = batch_refusal w t

  -- A refused record of a batch writes its number and zeros into its own answer; every other answer, and every cell of the table, is as without it.
  pub record_refusal_keeps :
      (bytes answers : List ℕ) → as_stated g t ≡ true → Sound g t → whole_records bytes answers ≡ true → (before after : List Call) (c : Call) →
      batch_calls bytes ≡ before ++ c ∷ after → ((perform g (run g t before).table c).answer.number ≡ 0 → ⊥) →
      batch g t bytes answers
      ≡ batched 0
      ((answer_numbers (run g t before).answers
      ++ (perform g (run g t before).table c).answer.number ∷ 0 ∷ 0 ∷ answer_numbers (run g (run g t before).table after).answers)
      ++ drop (length bytes / record_bytes * answer_cells) answers)
      (run g t (before ++ after)).table
  record_refusal_keeps = batch_refused_record w t

  -- ---- "A block that is out is never handed out again before it is freed."

  -- Over single calls, from any table: a block that is out at the start is given only after an accepted free that names it, and between two accepted
  -- allocations of one block there is an accepted free that names it.
  pub never_handed_out_twice : (calls : List Call) → NeverTwice g t calls (run g t calls).answers
  never_handed_out_twice calls = never_twice w t calls

  -- The same over single calls and batches in any order, from any sound table.
  pub never_handed_out_twice_in_batches :
      as_stated g t ≡ true → Sound g t → (steps : List Step) → NeverTwice g t (history_calls steps) (history_answers g t steps)
  never_handed_out_twice_in_batches stated sound steps = never_twice_history w steps (lent_here w t stated sound)

  -- ---- what stands behind it: the blocks that are out after each call

  -- An accepted allocation found a sound table. Its block was not out and is; it is of a used span of that heap and of the request's class, starts a slot,
  -- and fits the size and the alignment; every other block is out exactly if it was.
  pub allocation_gives :
      (heap size alignment : ℕ) (words : List ℕ) → (allocate g t heap size alignment words).answer.number ≡ 0 →
      Sound g t × Given g t heap size alignment words (allocate g t heap size alignment words)
  allocation_gives heap size alignment words z = let r = allocate_accepted w t heap size alignment words z in (r.0.sound, r.1)

  -- An accepted free found a sound table. The block that it names was out and is not; every other block is out exactly if it was.
  pub free_returns : (heap s start : ℕ) → (free g t heap s start).answer.number ≡ 0 → Sound g t × Returned g t s start (free g t heap s start)
  free_returns heap s start z = let r = free_accepted w t heap s start z in (r.0.sound, r.1)

  -- Where heap, words, size and alignment are right, 6 is given exactly where "every slot of this heap's spans in the class is out, and no span is unused".
  pub six_exactly :
      as_stated g t ≡ true → Sound g t → (heap size alignment : ℕ) (words : List ℕ) → heap < g.heaps → words_needed ≤ length words →
      in_range g.sizes size alignment ≡ true →
      ((allocate g t heap size alignment words).answer.number ≡ 6 → Exhausted g t heap (smallest_class g.sizes size alignment)) ×
      (Exhausted g t heap (smallest_class g.sizes size alignment) → (allocate g t heap size alignment words).answer.number ≡ 6)
  six_exactly stated sound heap size alignment words = allocate_six w t heap size alignment words stated sound

  -- ---- and a sound table stays sound

  -- The table after a call is the one before it, or sound: so a sound one stays sound. Single calls,
  pub sound_after_allocation :
      (heap size alignment : ℕ) (words : List ℕ) →
      ((allocate g t heap size alignment words).table ≡ t) ⊎ Sound g (allocate g t heap size alignment words).table
  sound_after_allocation = allocate_kept w t

  pub sound_after_free : (heap s start : ℕ) → ((free g t heap s start).table ≡ t) ⊎ Sound g (free g t heap s start).table
  sound_after_free = free_kept w t

  -- a batch,
  pub sound_after_batch : (bytes answers : List ℕ) → ((batch g t bytes answers).table ≡ t) ⊎ Sound g (batch g t bytes answers).table
  sound_after_batch = batch_kept w t

  -- the fresh-table maker,
  pub sound_after_fresh : ((fresh g t).table ≡ t) ⊎ Sound g (fresh g t).table
  sound_after_fresh = fresh_kept g t

  -- a list of calls,
  pub sound_after_calls : (calls : List Call) → ((run g t calls).table ≡ t) ⊎ Sound g (run g t calls).table
  sound_after_calls calls = run_kept w calls t

  -- and single calls and batches in any order.
  pub sound_after_steps : as_stated g t ≡ true → Sound g t → (steps : List Step) → Sound g (history_table g t steps)
  sound_after_steps stated sound steps = (history_lent w steps (lent_here w t stated sound)).sound

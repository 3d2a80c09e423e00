-- A batch is its records as single calls, in order; a refused batch changes nothing; a refused record writes its own answer alone. Assumes nothing.
use mathlib.Core.Path.{◌≡◌, refl, sym, ap, ap₂, subst, ◌∙◌}
use mathlib.Core.Bool.{true, false}
use mathlib.Core.List.{List, [], ◌∷◌, ◌++◌}
use mathlib.Core.Logic.{◌⊎◌, inl, inr, ⊎_elim}
use Prim.Native.Nat.{ℕ, zero, suc, ◌+◌, ◌*◌, ◌/◌, ◌%◌, ◌<◌, ◌≤◌}
use native.Mathlib.Nat.{zero-add, zero-mul}
use native.Mathlib.Omega.{arith}
use borrow.Author.Tests.{leb-true}
use lib.ListN.{length, drop}
use lib.Seq.{sets, sets-eq}
use lib.Dec.{eqb, leb}
use Rattle.laws.proofs.CondLaws.{cond_both}
use Rattle.laws.proofs.SomeLaws.{and_both}
use Rattle.tables.specs.Shape.{Shape}
use Rattle.tables.specs.Cells.{Tables, as_stated}
use Rattle.sound.specs.Sound.{Sound}
use Rattle.sound.specs.Decided.{is_sound}
use Rattle.sound_laws.proofs.SoundTested.{sound_passes}
use Rattle.calls.specs.declared.Answer.{Answer}
use Rattle.calls.specs.Outcome.{Outcome, refusal}
use Rattle.calls.specs.Run.{Call, perform, perform_sound, Ran, run_by, run, run_sound}
use Rattle.calls.specs.Batch.{record_bytes, record_call, Batched, batched, answer_cells, batch_from, whole_records, batch}
use Rattle.sound_calls.specs.Lent.{Lent}
use Rattle.call_laws.specs.Served.{Served}
use Rattle.call_laws.specs.Batches.{calls_from, batch_calls, answer_numbers}
use Rattle.call_laws.proofs.SingleLaws.{lent_here, lent_checked}
use Rattle.call_laws.proofs.RunLaws.{run_lent, run_sound_lem, refused_among}

-- ---- the records one after the other

-- A batch has as many calls as records,
pub calls_length : (n i : ℕ) (bytes : List ℕ) → length (calls_from n i bytes) ≡ n
unfolding calls_from
calls_length zero i bytes = refl
calls_length (suc n) i bytes = ap suc (calls_length n (i + 1) bytes)

-- a list of calls as many answers,
pub answers_length_lem : (does : Tables → Call → Outcome) (cs : List Call) (t : Tables) → length (run_by does t cs).answers ≡ length cs
unfolding run_by
answers_length_lem does [] t = refl
answers_length_lem does (c ∷ cs) t = ap suc (answers_length_lem does cs (does t c).table)

-- and each answer its cells.
numbers_length : (answers : List Answer) → length (answer_numbers answers) ≡ length answers * answer_cells
unfolding answer_numbers answer_cells
numbers_length [] = refl
numbers_length (a ∷ rest) = omega (arith, numbers_length rest)

-- The cells of one list of answers after another.
numbers_app : (xs ys : List Answer) → answer_numbers (xs ++ ys) ≡ answer_numbers xs ++ answer_numbers ys
unfolding answer_numbers
numbers_app [] ys = refl
numbers_app (x ∷ xs) ys = ap (λ (l : List ℕ). x.number ∷ x.span ∷ x.offset ∷ l) (numbers_app xs ys)

-- the next answer's place
answer_next : (i : ℕ) → (i + 1) * answer_cells ≡ suc (suc (suc (i * answer_cells)))
unfolding answer_cells
answer_next i = omega arith

-- n records from record i on: the answers of their calls stored from its place on, and the table that they leave
pub batch_from_run :
    (n i : ℕ) (g : Shape) (t : Tables) (bytes answers : List ℕ) →
    batch_from n i g t bytes answers
    ≡ batched 0 (sets answers (i * answer_cells) (answer_numbers (run_sound g t (calls_from n i bytes)).answers)) (run_sound g t (calls_from n i bytes)).table
unfolding batch_from calls_from run_by answer_numbers
batch_from_run zero i g t bytes answers = refl
batch_from_run (suc n) i g t bytes answers =
    let o = perform_sound g t (record_call bytes (i * record_bytes)) in
    let r = run_sound g o.table (calls_from n (i + 1) bytes) in
    let stored = sets answers (i * answer_cells) (o.answer.number ∷ o.answer.span ∷ o.answer.offset ∷ []) in
    batch_from_run n (i + 1) g o.table bytes stored
    ∙ ap (λ (at : ℕ). batched 0 (sets stored at (answer_numbers r.answers)) r.table) (answer_next i)

-- The table after them is lent again.
pub batch_from_lent : {g : Shape} {t : Tables} → Lent g t → (n i : ℕ) (bytes answers : List ℕ) → Lent g (batch_from n i g t bytes answers).table
batch_from_lent {g} {t} x n i bytes answers =
    subst (Lent g) (sym (ap (λ (b : Batched). b.table) (batch_from_run n i g t bytes answers))) (run_lent (calls_from n i bytes) x)

-- ---- a batch

-- Bytes that are no whole records, or answers too short for them, are refused with 10.
pub batch_ten_lem :
    (g : Shape) (t : Tables) (bytes answers : List ℕ) → as_stated g t ≡ true → whole_records bytes answers ≡ false → batch g t bytes answers ≡ batched 10 answers t
unfolding batch
batch_ten_lem g t bytes answers stated e = rw (stated, e)

module _ {g : Shape} (w : Served g) (t : Tables) (bytes answers : List ℕ) where
  -- as many answers as the records have fit
  whole_fits : whole_records bytes answers ≡ true → length bytes / record_bytes * answer_cells ≤ length answers
  unfolding whole_records
  whole_fits e =
      leb-true (length bytes / record_bytes * answer_cells) (length answers)
      (and_both (eqb (length bytes % record_bytes) 0) (leb (length bytes / record_bytes * answer_cells) (length answers)) e).1

  -- the answers of the batch's calls, as cells
  abbrev given : List ℕ
  given = answer_numbers (run g t (batch_calls bytes)).answers

  given_length : length given ≡ length bytes / record_bytes * answer_cells
  given_length =
      numbers_length (run g t (batch_calls bytes)).answers
      ∙ ap (λ (n : ℕ). n * answer_cells) (answers_length_lem (perform g) (batch_calls bytes) t ∙ calls_length (length bytes / record_bytes) 0 bytes)

  -- On a sound table a batch answers as its records do as single calls, in order, and leaves the table that they leave; "Cells past the last answer stay."
  pub batch_done :
      Lent g t → whole_records bytes answers ≡ true →
      batch_from (length bytes / record_bytes) 0 g t bytes answers
      ≡ batched 0 (answer_numbers (run g t (batch_calls bytes)).answers ++ drop (length bytes / record_bytes * answer_cells) answers)
      (run g t (batch_calls bytes)).table
  batch_done x whole =
      let n = length bytes / record_bytes in
      let fits : 0 + length given ≤ length answers = rw given_length (omega (arith, whole_fits whole)) in
      batch_from_run n 0 g t bytes answers
      ∙ ap (λ (at : ℕ). batched 0 (sets answers at (answer_numbers (run_sound g t (batch_calls bytes)).answers)) (run_sound g t (batch_calls bytes)).table) (zero-mul answer_cells)
      ∙ ap (λ (r : Ran). batched 0 (sets answers 0 (answer_numbers r.answers)) r.table) (sym (run_sound_lem (batch_calls bytes) x))
      ∙ ap (λ (l : List ℕ). batched 0 l (run g t (batch_calls bytes)).table) (sets-eq given answers 0 fits ∙ ap (λ (m : ℕ). given ++ drop m answers) (zero-add (length given) ∙ given_length))

  -- A batch is done on a sound table, or refused as a whole: with an answer of a number alone, and no cell changed.
  pub batch_cases :
      (Lent g t
      × (batch g t bytes answers
      ≡ batched 0 (answer_numbers (run g t (batch_calls bytes)).answers ++ drop (length bytes / record_bytes * answer_cells) answers)
      (run g t (batch_calls bytes)).table))
      ⊎ ((0 < (batch g t bytes answers).number) × (batch g t bytes answers ≡ batched (batch g t bytes answers).number answers t))
  unfolding batch
  batch_cases =
      let all =
      batched 0 (answer_numbers (run g t (batch_calls bytes)).answers ++ drop (length bytes / record_bytes * answer_cells) answers) (run g t (batch_calls bytes)).table in
      let P : Batched → Type 0 = λ b. (Lent g t × (b ≡ all)) ⊎ ((0 < b.number) × (b ≡ batched b.number answers t)) in
      cond_both P (as_stated g t) _ _
      (λ a.
      cond_both P (whole_records bytes answers) _ _
      (λ m.
      cond_both P (is_sound g t) _ _ (λ b. let x = lent_checked w t a b in inl (x, batch_done x m)) (λ b. inr (omega arith, refl)))
      (λ m. inr (omega arith, refl)))
      (λ a. inr (omega arith, refl))

  -- A sound table, whole records and room for the answers: the batch is done.
  pub batch_is_singles :
      as_stated g t ≡ true → Sound g t → whole_records bytes answers ≡ true →
      batch g t bytes answers
      ≡ batched 0 (answer_numbers (run g t (batch_calls bytes)).answers ++ drop (length bytes / record_bytes * answer_cells) answers)
      (run g t (batch_calls bytes)).table
  unfolding batch
  batch_is_singles stated sound whole =
      rw (stated, whole, sound_passes g t sound) (batch_done (lent_here w t stated sound) whole)

  -- A refused batch writes no answer and changes no cell.
  pub batch_refusal : ((batch g t bytes answers).number ≡ 0 → ⊥) → batch g t bytes answers ≡ batched (batch g t bytes answers).number answers t
  batch_refusal n = ⊎_elim (λ a. absurd (n (ap (λ (b : Batched). b.number) a.1))) (λ r. r.1) batch_cases

  -- The table after a batch is the one before, or sound.
  pub batch_kept : ((batch g t bytes answers).table ≡ t) ⊎ Sound g (batch g t bytes answers).table
  batch_kept =
      ⊎_elim
      (λ a.
      inr
      (subst (Sound g) (sym (ap (λ (r : Ran). r.table) (run_sound_lem (batch_calls bytes) a.0)) ∙ sym (ap (λ (b : Batched). b.table) a.1))
      (run_lent (batch_calls bytes) a.0).sound))
      (λ r. inl (ap (λ (b : Batched). b.table) r.1)) batch_cases

  -- A refused record writes its number and zeros into its own answer; every other answer, and the table, are as without it.
  pub batch_refused_record :
      as_stated g t ≡ true → Sound g t → whole_records bytes answers ≡ true → (before after : List Call) (c : Call) →
      batch_calls bytes ≡ before ++ c ∷ after → ((perform g (run g t before).table c).answer.number ≡ 0 → ⊥) →
      batch g t bytes answers
      ≡ batched 0
      ((answer_numbers (run g t before).answers
      ++ (perform g (run g t before).table c).answer.number ∷ 0 ∷ 0 ∷ answer_numbers (run g (run g t before).table after).answers)
      ++ drop (length bytes / record_bytes * answer_cells) answers)
      (run g t (before ++ after)).table
  unfolding answer_numbers
  batch_refused_record stated sound whole before after c e n =
      let rest = drop (length bytes / record_bytes * answer_cells) answers in
      let u = (run g t before).table in
      let r = refused_among w t before after c n in
      let o = refusal (perform g u c).answer.number in
      batch_is_singles stated sound whole
      ∙ ap (λ (cs : List Call). batched 0 (answer_numbers (run g t cs).answers ++ rest) (run g t cs).table) e
      ∙ ap₂ (λ (l : List Answer) (v : Tables). batched 0 (answer_numbers l ++ rest) v) r.0 r.1
      ∙ ap (λ (l : List ℕ). batched 0 (l ++ rest) (run g t (before ++ after)).table) (numbers_app (run g t before).answers (o ∷ (run g u after).answers))

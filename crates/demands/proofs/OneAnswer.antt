-- How tight the public contracts are: each is an equation of the whole outcome, the answer and every cell, with a definition, so no second outcome meets
-- it. First the outcomes in numbers, as C has them, then the answers themselves. Assumes nothing.
use Rattle.std.specs.Prelude.{Result}
use mathlib.Core.Path.{◌≡◌, sym, ap, ◌∙◌}
use mathlib.Core.List.{List}
use Prim.Native.Nat.{ℕ}
use Rattle.tables.specs.Shape.{Shape}
use Rattle.tables.specs.Cells.{Tables}
use Rattle.tables.specs.Fresh.{Numbered, numbered, fresh}
use Rattle.refusals.specs.declared.Refusal.{Refusal}
use Rattle.refusals.specs.Numbers.{number_of}
use Rattle.refusals.proofs.NumberLaws.{number_of_known}
use Rattle.calls.specs.declared.Accepted.{Accepted}
use Rattle.calls.specs.Answered.{answer_of}
use Rattle.calls.proofs.AnsweredLaws.{answer_of_known}
use Rattle.calls.specs.Outcome.{Outcome, ended}
use Rattle.calls.specs.Calls.{allocate, free}
use Rattle.calls.specs.Batch.{Batched, batched, batch}
use Rattle.calls.specs.Summary.{Summed, summed, summary}

-- What two are equal to makes them equal.
both_are : {A : Type 0} {a x y : A} → x ≡ a → y ≡ a → x ≡ y
both_are p q = p ∙ sym q

module _ (g : Shape) (t : Tables) where
  -- The making of a fresh table,
  pub one_fresh_lem : (x y : Numbered) → x ≡ fresh g t → y ≡ fresh g t → x ≡ y
  one_fresh_lem x y = both_are

  -- an allocation,
  pub one_allocation :
      (heap size alignment : ℕ) (words : List ℕ) (x y : Outcome) →
      x ≡ allocate g t heap size alignment words → y ≡ allocate g t heap size alignment words → x ≡ y
  one_allocation heap size alignment words x y = both_are

  -- a free,
  pub one_free : (heap s offset : ℕ) (x y : Outcome) → x ≡ free g t heap s offset → y ≡ free g t heap s offset → x ≡ y
  one_free heap s offset x y = both_are

  -- a batch,
  pub one_batch : (bytes answers : List ℕ) (x y : Batched) → x ≡ batch g t bytes answers → y ≡ batch g t bytes answers → x ≡ y
  one_batch bytes answers x y = both_are

  -- and a class summary have one outcome each.
  pub one_summary : (records : List ℕ) (x y : Summed) → x ≡ summary g t records → y ≡ summary g t records → x ≡ y
  one_summary records x y = both_are

  -- The answer of each public call, and every cell that it leaves, are the only ones that meet its contract: of the making of a fresh table,
  pub one_fresh_answer :
      (x y : Result (Unit {0}) Refusal) (s u : Tables) →
      numbered (number_of x) s ≡ fresh g t → numbered (number_of y) u ≡ fresh g t → (x ≡ y) × (s ≡ u)
  one_fresh_answer x y s u p q =
      let e : numbered (number_of x) s ≡ numbered (number_of y) u = both_are p q in
      (number_of_known x y (ap (λ (z : Numbered). z.number) e), ap (λ (z : Numbered). z.table) e)

  -- of an allocation,
  pub one_allocation_answer :
      (heap size alignment : ℕ) (words : List ℕ) (x y : Result Accepted Refusal) (s u : Tables) →
      ended (answer_of x) s ≡ allocate g t heap size alignment words → ended (answer_of y) u ≡ allocate g t heap size alignment words →
      (x ≡ y) × (s ≡ u)
  one_allocation_answer heap size alignment words x y s u p q =
      let e : ended (answer_of x) s ≡ ended (answer_of y) u = both_are p q in
      (answer_of_known x y (ap (λ (z : Outcome). z.answer) e), ap (λ (z : Outcome). z.table) e)

  -- of a free,
  pub one_free_answer :
      (heap span offset : ℕ) (x y : Result Accepted Refusal) (s u : Tables) →
      ended (answer_of x) s ≡ free g t heap span offset → ended (answer_of y) u ≡ free g t heap span offset → (x ≡ y) × (s ≡ u)
  one_free_answer heap span offset x y s u p q =
      let e : ended (answer_of x) s ≡ ended (answer_of y) u = both_are p q in
      (answer_of_known x y (ap (λ (z : Outcome). z.answer) e), ap (λ (z : Outcome). z.table) e)

  -- of a batch,
  pub one_batch_answer :
      (bytes answers : List ℕ) (x y : Result (Unit {0}) Refusal) (a b : List ℕ) (s u : Tables) →
      batched (number_of x) a s ≡ batch g t bytes answers → batched (number_of y) b u ≡ batch g t bytes answers →
      (x ≡ y) × (a ≡ b) × (s ≡ u)
  one_batch_answer bytes answers x y a b s u p q =
      let e : batched (number_of x) a s ≡ batched (number_of y) b u = both_are p q in
      (number_of_known x y (ap (λ (z : Batched). z.number) e), ap (λ (z : Batched). z.answers) e, ap (λ (z : Batched). z.table) e)

  -- and of a class summary.
  pub one_summary_answer :
      (records : List ℕ) (x y : Result (Unit {0}) Refusal) (a b : List ℕ) →
      summed (number_of x) a ≡ summary g t records → summed (number_of y) b ≡ summary g t records → (x ≡ y) × (a ≡ b)
  one_summary_answer records x y a b p q =
      let e : summed (number_of x) a ≡ summed (number_of y) b = both_are p q in
      (number_of_known x y (ap (λ (z : Summed). z.number) e), ap (λ (z : Summed). z.records) e)

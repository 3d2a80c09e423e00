-- Laws of the counted summary: what the flat call gives, and that the structs filled from it are those of the definition. Assumes nothing.
use mathlib.Core.Path.{◌≡◌, refl, sym, ap, subst, ◌∙◌}
use mathlib.Core.Bool.{Bool, true, false, ◌&&◌, cond, and-false}
use mathlib.Core.List.{List}
use Prim.Native.Nat.{ℕ, ◌*◌, ◌<◌}
use native.Mathlib.Omega.{arith}
use lib.Dec.{eqb}
use lib.ListN.{length, length-replicate, replicate}
use borrow.Author.Tests.{eq-eqb, ne_eqb, eqb-true}
use Rattle.std.specs.Prelude.{Result, Ok, Err}
use Rattle.laws.proofs.SomeLaws.{and_both}
use Rattle.refusals.specs.declared.Refusal.{Refusal}
use Rattle.refusals.specs.declared.Refusal.TheVariants.{NotAsStated, Unsound}
use Rattle.refusals.specs.Numbers.{number}
use Rattle.refusals.proofs.NumberLaws.{number_some, number_known}
use Rattle.size_classes.specs.SlotSizes.{slot_sizes, rising, groups}
use Rattle.tables.specs.Shape.{Shape, base_shape, classes}
use Rattle.tables.specs.Cells.{Tables, as_stated}
use Rattle.sound.specs.Decided.{is_sound}
use Rattle.calls.specs.Summary.{Summed, summary_cells, class_records, summed, summary}
use Rattle.summing.specs.Tally.{summary_cell, pending_cell}
use Rattle.summing.proofs.ColumnLaws.{cell_in, name_in}
use Rattle.summing.proofs.RecordLaws.{records_long}
use Rattle.summary_records.specs.declared.ClassRecord.{ClassRecord}
use Rattle.summary_records.specs.Structured.{Structured, summary_structs, records_from, structured, class_structs, filled}
use Rattle.summary_records.specs.Counting.{base_classes, counted_of}
use Rattle.summary_records.proofs.FilledRecords.{filled_all}
use Rattle.summary_records.proofs.NamedRecords.{table_structs}

-- ---- what is counted

-- Another number of records is refused.
pub counted_refused : (g : Shape) (t : Tables) {lent : ℕ} → (lent ≡ base_classes → ⊥) → Err NotAsStated ≡ counted_of g t lent
unfolding counted_of
counted_refused g t {lent} n = rw (ne_eqb lent base_classes n, and-false (as_stated g t))

-- the cells that the flat call is lent
abbrev blank_cells : List ℕ
blank_cells = replicate (base_classes * summary_cells) 0

-- 01 has 48 classes.
base_classes_lem : (heaps spans : ℕ) → classes (base_shape heaps spans) ≡ base_classes
unfolding slot_sizes rising groups
base_classes_lem heaps spans = refl

blank_long : (heaps spans : ℕ) → length blank_cells ≡ classes (base_shape heaps spans) * summary_cells
blank_long heaps spans =
    length-replicate {A = ℕ} (base_classes * summary_cells) 0 ∙ ap (λ (n : ℕ). n * summary_cells) (sym (base_classes_lem heaps spans))

module _ (heaps spans : ℕ) (t : Tables) where
  abbrev g : Shape
  g = base_shape heaps spans

  abbrev cells_of : List ℕ
  cells_of = class_records (classes g) 0 g t

  -- The flat summary, by the tests.
  summary_as :
      (a s : Bool) → as_stated g t ≡ a → is_sound g t ≡ s →
      summary g t blank_cells ≡ cond a (cond s (summed 0 cells_of) (summed 2 blank_cells)) (summed 1 blank_cells)
  unfolding summary
  summary_as true true ea es = rw (ea, es, eq-eqb (length blank_cells) (classes g * summary_cells) (blank_long heaps spans))
  summary_as true false ea es = rw (ea, es, eq-eqb (length blank_cells) (classes g * summary_cells) (blank_long heaps spans))
  summary_as false s ea es = rw ea

  counted_as :
      (a s : Bool) → as_stated g t ≡ a → is_sound g t ≡ s → counted_of g t base_classes ≡ cond a (cond s (Ok cells_of) (Err Unsound)) (Err NotAsStated)
  unfolding counted_of
  counted_as true true ea es = rw (ea, es)
  counted_as true false ea es = rw (ea, es)
  counted_as false s ea es = rw ea

  module _ {lent : ℕ} (l : lent ≡ base_classes) {cells : List ℕ} where
    -- What the flat summary gives is what is counted.
    pub counted_given : summed 0 cells ≡ summary g t blank_cells → Ok cells ≡ counted_of g t lent
    counted_given q = rw l (go (as_stated g t) (is_sound g t) refl refl)
      where
        go : (a s : Bool) → as_stated g t ≡ a → is_sound g t ≡ s → Ok cells ≡ counted_of g t base_classes
        go true true ea es = ap (λ (z : Summed). Ok z.records) (q ∙ summary_as true true ea es) ∙ sym (counted_as true true ea es)
        go true false ea es = absurd (let n : 0 ≡ 2 = ap (λ (z : Summed). z.number) (q ∙ summary_as true false ea es) in let z : ⊥ = omega (arith, n) in z)
        go false s ea es = absurd (let n : 0 ≡ 1 = ap (λ (z : Summed). z.number) (q ∙ summary_as false s ea es) in let z : ⊥ = omega (arith, n) in z)

    -- And so is a refusal.
    pub counted_not : (e : Refusal) → summed (number e) cells ≡ summary g t blank_cells → Err e ≡ counted_of g t lent
    counted_not e q = rw l (go (as_stated g t) (is_sound g t) refl refl)
      where
        go : (a s : Bool) → as_stated g t ≡ a → is_sound g t ≡ s → Err e ≡ counted_of g t base_classes
        go true true ea es = absurd (number_some e (ap (λ (z : Summed). z.number) (q ∙ summary_as true true ea es)))
        go true false ea es =
            ap Err (number_known e Unsound (ap (λ (z : Summed). z.number) (q ∙ summary_as true false ea es))) ∙ sym (counted_as true false ea es)
        go false s ea es =
            ap Err (number_known e NotAsStated (ap (λ (z : Summed). z.number) (q ∙ summary_as false s ea es))) ∙ sym (counted_as false s ea es)

  -- ---- the three answers

  -- What holds of each answer where it is given holds of what is counted.
  counted_cases :
      (P : Result (List ℕ) Refusal → Type 0) (lent : ℕ) →
      (as_stated g t && eqb lent base_classes ≡ true → is_sound g t ≡ true → P (Ok cells_of)) →
      (as_stated g t && eqb lent base_classes ≡ true → is_sound g t ≡ false → P (Err Unsound)) →
      (as_stated g t && eqb lent base_classes ≡ false → P (Err NotAsStated)) →
      P (counted_of g t lent)
  unfolding counted_of
  counted_cases P lent yes₀ yes₂ yes₁ = go (as_stated g t && eqb lent base_classes) (is_sound g t) refl refl
    where
      go :
          (a s : Bool) → as_stated g t && eqb lent base_classes ≡ a → is_sound g t ≡ s →
          P (cond (as_stated g t && eqb lent base_classes) (cond (is_sound g t) (Ok cells_of) (Err Unsound)) (Err NotAsStated))
      go true true ea es = rw (ea, es) (yes₀ ea es)
      go true false ea es = rw (ea, es) (yes₂ ea es)
      go false s ea es = rw ea (yes₁ ea)

  -- where cells are given, there are five for each record
  abbrev Fits : ℕ → Result (List ℕ) Refusal → Type 0
  Fits lent (Ok cells) = length cells ≡ lent * summary_cells
  Fits lent (Err e) = Unit

  counted_fits : (lent : ℕ) → Fits lent (counted_of g t lent)
  counted_fits lent =
      counted_cases (Fits lent) lent
      (λ a s.
      let e : lent ≡ base_classes = eqb-true lent base_classes (and_both (as_stated g t) (eqb lent base_classes) a).1 in
      records_long (classes g) 0 g t ∙ ap (λ (n : ℕ). n * summary_cells) (base_classes_lem heaps spans ∙ sym e))
      (λ a s. tt) (λ a. tt)

  -- The numbers of each record are there.
  pub counted_there : {lent i : ℕ} {cells : List ℕ} → Ok cells ≡ counted_of g t lent → i < lent → summary_cell i pending_cell < length cells
  counted_there {lent} {i} {cells} e h =
      let long : length cells ≡ lent * summary_cells = subst (Fits lent) (sym e) (counted_fits lent) in
      subst (λ (z : ℕ). summary_cell i pending_cell < z) (sym long) (cell_in h (name_in (omega arith)))

  -- ---- the records

  module _ (out : List ClassRecord) where
    structs_as :
        (a s : Bool) → as_stated g t && eqb (length out) base_classes ≡ a → is_sound g t ≡ s →
        summary_structs g t out ≡ cond a (cond s (structured 0 (class_structs (classes g) 0 g t)) (structured 2 out)) (structured 1 out)
    unfolding summary_structs
    structs_as a s ea es =
        let q : as_stated g t && eqb (length out) (classes g) ≡ a =
        ap (λ (z : ℕ). as_stated g t && eqb (length out) z) (base_classes_lem heaps spans) ∙ ea in
        rw (q, es)

    -- what is left of the records by what is counted
    abbrev left_by : Result (List ℕ) Refusal → Structured
    left_by (Ok cells) = structured 0 (filled cells out (length out))
    left_by (Err e) = structured (number e) out

    -- The number and the records that are left are those of the definition.
    counted_structs : left_by (counted_of g t (length out)) ≡ summary_structs g t out
    counted_structs =
        counted_cases (λ s. left_by s ≡ summary_structs g t out) (length out)
        (λ a s.
        let e : length out ≡ base_classes = eqb-true (length out) base_classes (and_both (as_stated g t) (eqb (length out) base_classes) a).1 in
        ap (λ (l : List ClassRecord). structured 0 l)
        (filled_all cells_of out ∙ ap (λ (n : ℕ). records_from n 0 cells_of) (e ∙ sym (base_classes_lem heaps spans)) ∙ table_structs g t)
        ∙ sym (structs_as true true a s))
        (λ a s. sym (structs_as true false a s))
        (λ a. sym (structs_as false (is_sound g t) a refl))

    -- All written, and none.
    pub structs_written : {cells : List ℕ} → Ok cells ≡ counted_of g t (length out) → structured 0 (filled cells out (length out)) ≡ summary_structs g t out
    structs_written e = ap left_by e ∙ counted_structs

    pub structs_stay : (e : Refusal) → Err e ≡ counted_of g t (length out) → structured (number e) out ≡ summary_structs g t out
    structs_stay e q = ap left_by q ∙ counted_structs

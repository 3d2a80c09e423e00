-- What the stores for one span and for one class come to, and that they fit. Assumes nothing.
use mathlib.Core.Path.{◌≡◌, sym, ap, subst, ◌∙◌}
use mathlib.Core.List.{List}
use Prim.Native.Nat.{ℕ, ◌+◌, ◌*◌, ◌^◌, ◌<◌, ◌≤◌}
use native.Mathlib.Nat.{mul-le-mul}
use native.Mathlib.Omega.{arith}
use lib.ListN.{length, set, length-set}
use Rattle.size_classes.specs.SlotSizes.{slot_size}
use Rattle.size_classes.specs.Slots.{most_slots, slots_per_span}
use Rattle.size_classes.proofs.SlotTheorems.{slots_most}
use Rattle.tables.specs.Shape.{Shape}
use Rattle.tables.specs.Cells.{Tables, class_at, occupied_at}
use Rattle.summing.specs.Tally.{spans_cell, slots_cell, used_cell, cached_cell, pending_cell, summary_cell, summary_at, pending_in, cached_in, added, span_added, class_written, SpanFits, ClassFits}
use Rattle.summing.proofs.ColumnLaws.{cell_in, name_in, other_added}
use Rattle.summing.proofs.TallyLaws.{length_added}

-- ---- one span

module _ {t : Tables} {s : ℕ} {out : List ℕ} (o : SpanFits t s out) where
  abbrev own : ℕ
  own = class_at t s

  -- There is room for one span more.
  pub fits_spans : {c : ℕ} → c ≡ own → (summary_cell c spans_cell < length out) × (summary_at out c spans_cell + 1 < 2 ^ 64)
  fits_spans e = rw e (o.there spans_cell (name_in (omega arith)), o.spans_fit)

  -- Then for its occupied slots.
  pub fits_used :
      {c n : ℕ} {out₁ : List ℕ} → c ≡ own → n ≡ occupied_at t s → out₁ ≡ added out c spans_cell 1 →
      (summary_cell c used_cell < length out₁) × (summary_at out₁ c used_cell + n < 2 ^ 64)
  fits_used e en e₁ =
      rw (
        e₁,
        e,
        en,
        length_added out own spans_cell 1,
        other_added out own own {f = used_cell} {h = spans_cell} 1 (omega arith) (omega arith) (λ q. let z : ⊥ = omega arith in z),
      )
      (o.there used_cell (name_in (omega arith)), o.used_fit)

  -- Then for its pending slots.
  pub fits_pending :
      (n : ℕ) {c k : ℕ} {out₁ out₂ : List ℕ} → c ≡ own → k ≡ pending_in t.bits s 64 → out₁ ≡ added out c spans_cell 1 → out₂ ≡ added out₁ c used_cell n →
      (summary_cell c pending_cell < length out₂) × (summary_at out₂ c pending_cell + k < 2 ^ 64)
  fits_pending n e ek e₁ e₂ =
      rw (
        e₂,
        e₁,
        e,
        ek,
        length_added (added out own spans_cell 1) own used_cell n,
        length_added out own spans_cell 1,
        other_added (added out own spans_cell 1) own own {f = pending_cell} {h = used_cell} n (omega arith) (omega arith) (λ q. let z : ⊥ = omega arith in z),
        other_added out own own {f = pending_cell} {h = spans_cell} 1 (omega arith) (omega arith) (λ q. let z : ⊥ = omega arith in z),
      )
      (o.there pending_cell (name_in (omega arith)), o.pending_fit)

-- The three additions count the span.
pub span_is_added :
    (t : Tables) (s : ℕ) (out : List ℕ) {c n k : ℕ} {out₁ out₂ out₃ : List ℕ} → c ≡ class_at t s → n ≡ occupied_at t s → k ≡ pending_in t.bits s 64 →
    out₁ ≡ added out c spans_cell 1 → out₂ ≡ added out₁ c used_cell n → out₃ ≡ added out₂ c pending_cell k → out₃ ≡ span_added t s out
unfolding span_added
span_is_added t s out e en ek e₁ e₂ e₃ = e₃ ∙ rw (e₂, e₁, e, en, ek)

-- ---- one class

module _ {g : Shape} {t : Tables} {c : ℕ} {out : List ℕ} (o : ClassFits g t c out) where
  -- A cell of the class's record is among the records.
  pub class_cell : {f : ℕ} → f ≤ pending_cell → summary_cell c f < length out
  class_cell {f} h = subst (λ (z : ℕ). summary_cell c f < z) (sym o.long) (cell_in o.class (name_in h))

  -- It is still there after the first store.
  pub class_cell_still : {f : ℕ} (h v : ℕ) {out₁ : List ℕ} → f ≤ pending_cell → out₁ ≡ set out (summary_cell c h) v → summary_cell c f < length out₁
  class_cell_still {f} h v l e =
      subst (λ (z : ℕ). summary_cell c f < z) (sym (ap length e ∙ length-set out (summary_cell c h) v)) (class_cell l)

-- The slots of a class's spans fit.
pub slots_fit : (slot : ℕ) {spans slots : ℕ} → spans ≤ 2 ^ 32 → slots ≡ slots_per_span slot → spans * slots < 2 ^ 64
unfolding most_slots
slots_fit slot {spans} {slots} h e =
    let p : spans * slots_per_span slot ≤ 2 ^ 32 * most_slots = mul-le-mul h (slots_most slot) in
    rw e (omega arith)

-- The two stores write the class.
pub class_is_written :
    (g : Shape) (t : Tables) (c : ℕ) (out : List ℕ) {slots cached spans : ℕ} {out₁ out₂ : List ℕ} →
    slots ≡ slots_per_span (slot_size g.sizes c) →
    cached ≡ cached_in g t g.heaps c →
    spans ≡ summary_at out c spans_cell →
    out₁ ≡ set out (summary_cell c slots_cell) (spans * slots) →
    out₂ ≡ set out₁ (summary_cell c cached_cell) cached →
    out₂ ≡ class_written g t c out
unfolding class_written
class_is_written g t c out es ec en e₁ e₂ = e₂ ∙ rw (e₁, es, ec, en)

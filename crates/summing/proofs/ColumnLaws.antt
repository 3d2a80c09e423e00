-- Laws of the records' cells: where they stand, and what a store does to a column of them. Assumes nothing.
use mathlib.Core.Path.{◌≡◌, sym, ap, ◌∙◌}
use mathlib.Core.Bool.{cond}
use mathlib.Core.List.{List}
use Prim.Native.Nat.{ℕ, ◌+◌, ◌*◌, ◌<◌, ◌≤◌}
use native.Mathlib.Nat.{add-zero}
use native.Mathlib.Decide.{ℕ_discrete}
use native.Mathlib.Omega.{arith}
use lib.Arith.{digits_lt}
use lib.Dec.{eqb}
use lib.ListN.{length, set}
use lib.Seq.{get_or-set_same, get_or-set_other}
use borrow.Author.Tests.{eq-eqb, ne_eqb}
use Rattle.tables.proofs.CellLaws.{row_same}
use Rattle.calls.specs.Summary.{summary_cells}
use Rattle.summing.specs.Tally.{pending_cell, summary_cell, summary_at, Column, added}

-- A cell of one of n records is among their cells.
pub cell_in : {c n f : ℕ} → c < n → f < summary_cells → summary_cell c f < n * summary_cells
unfolding summary_cell
cell_in hc hf = digits_lt hc hf

-- Cells of two records, or two cells of one, stand apart.
pub cell_same : (c d : ℕ) {f h : ℕ} → f < summary_cells → h < summary_cells → summary_cell c f ≡ summary_cell d h → (c ≡ d) × (f ≡ h)
unfolding summary_cell
cell_same c d {f} {h} hf hh e = row_same summary_cells c d f h hf hh e

-- Spans, slots, used, cached and pending are cells of a record.
pub name_in : {f : ℕ} → f ≤ pending_cell → f < summary_cells
unfolding summary_cells
name_in h = omega arith

-- A store to cell h of a record leaves cell f of every record.
pub other_cell :
    (out : List ℕ) (c k : ℕ) {f h : ℕ} (v : ℕ) → f ≤ pending_cell → h ≤ pending_cell → (f ≡ h → ⊥) →
    summary_at (set out (summary_cell k h) v) c f ≡ summary_at out c f
other_cell out c k {f} {h} v hf hh ne =
    get_or-set_other out (summary_cell k h) (summary_cell c f) v 0 (λ e. ne (cell_same c k (name_in hf) (name_in hh) e).1)

-- And so does an addition.
pub other_added :
    (out : List ℕ) (c k : ℕ) {f h : ℕ} (v : ℕ) → f ≤ pending_cell → h ≤ pending_cell → (f ≡ h → ⊥) →
    summary_at (added out k h v) c f ≡ summary_at out c f
unfolding added
other_added out c k {f} {h} v hf hh ne = other_cell out c k (summary_at out k h + v) hf hh ne

-- A store to record k leaves cell f of record c.
pub other_record :
    (out : List ℕ) (c k : ℕ) {f : ℕ} (v : ℕ) → f ≤ pending_cell → (c ≡ k → ⊥) → summary_at (set out (summary_cell k f) v) c f ≡ summary_at out c f
other_record out c k {f} v hf ne =
    get_or-set_other out (summary_cell k f) (summary_cell c f) v 0 (λ e. ne (cell_same c k (name_in hf) (name_in hf) e).0)

module _ {n : ℕ} {out : List ℕ} {f : ℕ} {g : ℕ → ℕ} (hf : f ≤ pending_cell) (o : Column n out f g) where
  -- A column stays where another is stored to.
  pub column_other : {h : ℕ} (k v : ℕ) → h ≤ pending_cell → (f ≡ h → ⊥) → Column n (set out (summary_cell k h) v) f g
  column_other k v hh ne = record { at = λ c l. other_cell out c k v hf hh ne ∙ o.at c l }

  -- And where another is added to.
  pub column_rest : {h : ℕ} (k v : ℕ) → h ≤ pending_cell → (f ≡ h → ⊥) → Column n (added out k h v) f g
  column_rest k v hh ne = record { at = λ c l. other_added out c k v hf hh ne ∙ o.at c l }

  -- An addition to record k adds to the column there.
  pub column_added : (k v : ℕ) → summary_cell k f < length out → Column n (added out k f v) f (λ c. g c + cond (eqb k c) v 0)
  unfolding added
  column_added k v there = record { at = λ c l. go c l (ℕ_discrete k c) }
    where
      go : (c : ℕ) → c < n → Dec (k ≡ c) → summary_at (set out (summary_cell k f) (summary_at out k f + v)) c f ≡ g c + cond (eqb k c) v 0
      go c l (yes e) =
          rw (eq-eqb k c e)
          (ap (λ (z : ℕ). summary_at (set out (summary_cell k f) (summary_at out k f + v)) z f) (sym e)
          ∙ get_or-set_same out (summary_cell k f) (summary_at out k f + v) 0 there
          ∙ ap (λ (z : ℕ). z + v) (ap (λ (z : ℕ). summary_at out z f) e ∙ o.at c l))
      go c l (no ne) =
          rw (ne_eqb k c ne) (other_record out c k (summary_at out k f + v) hf (λ e. ne (sym e)) ∙ o.at c l ∙ sym (add-zero (g c)))

  -- A store of the next record's number makes the column longer.
  pub column_more : (v : ℕ) → summary_cell n f < length out → v ≡ g n → Column (n + 1) (set out (summary_cell n f) v) f g
  column_more v there e = record { at = λ c l. go c l (ℕ_discrete c n) }
    where
      go : (c : ℕ) → c < n + 1 → Dec (c ≡ n) → summary_at (set out (summary_cell n f) v) c f ≡ g c
      go c l (yes q) =
          ap (λ (z : ℕ). summary_at (set out (summary_cell n f) v) z f) q
          ∙ get_or-set_same out (summary_cell n f) v 0 there
          ∙ e
          ∙ ap g (sym q)
      go c l (no ne) = other_record out c n v hf ne ∙ o.at c (omega arith)

-- A column of other numbers that agree.
pub column_same :
    {n : ℕ} {out : List ℕ} {f : ℕ} {g h : ℕ → ℕ} → ((c : ℕ) → c < n → g c ≡ h c) → Column n out f g → Column n out f h
column_same e o = record { at = λ c l. o.at c l ∙ e c l }

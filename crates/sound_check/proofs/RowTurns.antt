-- The turns of the check of all rows: the cells of a row are there, one row more is right, and a fault of right rows is none. Assumes nothing.
use mathlib.Core.Path.{◌≡◌, refl, sym, ap, subst, ◌∙◌}
use Prim.Native.Nat.{ℕ, ◌+◌, ◌*◌, ◌/◌, ◌<◌, ◌≤◌}
use native.Mathlib.Nat.{div-lt_iff_lt-mul}
use native.Mathlib.Omega.{arith}
use lib.ListN.{length}
use borrow.Author.Count.{below_more, below_none}
use Rattle.size_classes.specs.SlotSizes.{slot_size}
use Rattle.size_classes.proofs.SlotTheorems.{slots_most}
use Rattle.tables.specs.Shape.{Shape, classes, class_heap}
use Rattle.tables.specs.Cells.{Tables, head_cell}
use Rattle.tables.proofs.CellLaws.{head_in, list_in, row_in}
use Rattle.tables.proofs.MagazineCells.{base_within}
use Rattle.sound.specs.Sound.{MagazineSound}
use Rattle.sound_lists.specs.Walked.{UsedFields, ClassLists, spans_in, ClassCells}
use Rattle.sound_check.specs.Joined.{class_at_row, joined, RowsSound, RowCells, Passed}
use Rattle.sound_check.proofs.RowsJoined.{joined_more, joined_few}

module _ {g : Shape} {t : Tables} (o : RowCells g t) where
  -- The records of the used spans are there.
  pub fields_used : UsedFields t.spans t.used
  fields_used = record { there = o.cells.fields }

  module _ {h c : ℕ} (hh : h < g.heaps) (hc : c < classes g) where
    -- The heads of a class of a heap are there, and so is its magazine.
    pub heads_there : ClassCells t.heads (class_heap g h c)
    unfolding class_heap
    heads_there =
        record {
          rows = λ f hf. subst (λ (z : ℕ). head_cell (class_heap g h c).row f < z) (sym o.heads_long) (head_in (row_in g hh hc) (list_in hf));
          slots = slots_most (slot_size g.sizes c);
        }

    pub entries_there : (class_heap g h c).base + (class_heap g h c).capacity ≤ length t.entries
    unfolding class_heap
    entries_there = subst (λ (z : ℕ). (class_heap g h c).base + (class_heap g h c).capacity ≤ z) (sym o.entries_long) (base_within g hh hc)

-- A row below the last is that of a heap and a class.
pub row_heap : {r heaps n : ℕ} → 0 < n → r < heaps * n → r / n < heaps
row_heap {r} {heaps} {n} h l = (div-lt_iff_lt-mul h).1 l

module _ (g : Shape) (t : Tables) where
  pub passed_none : Passed g t 0 0
  unfolding joined
  passed_none = record { counted = refl; each = below_none _ }

  -- No more spans were met than are used.
  pub passed_few : {r total : ℕ} → Passed g t r total → total ≤ t.used
  passed_few {r} p = omega (arith, p.counted, joined_few g t r (λ i l. (p.each i l).lists))

  -- One row more.
  pub passed_more :
      {r total met : ℕ} → Passed g t r total → ClassLists t (class_at_row g r) × (met ≡ spans_in t (class_at_row g r)) →
      MagazineSound t (class_at_row g r) → Passed g t (r + 1) (total + met)
  passed_more {r} p s z =
      record {
        counted = omega (arith, p.counted, s.1, joined_more g t r);
        each = below_more _ _ p.each (record { lists = s.0; magazine = z });
      }

  -- All rows.
  pub all_rows : {r total : ℕ} → r ≡ g.heaps * classes g → Passed g t r total → total ≡ t.used → RowsSound g t
  all_rows {total = total} e p q =
      let w = subst (λ (z : ℕ). Passed g t z total) e p in
      record { each = w.each; counted = sym w.counted ∙ q }

  pub rows_all : {r total : ℕ} → r ≡ g.heaps * classes g → Passed g t r total → RowsSound g t → total ≡ t.used
  rows_all e p w = p.counted ∙ ap (λ (z : ℕ). length (joined g t z)) e ∙ w.counted

-- The structs of a table's flat records hold what their names say. Assumes nothing.
use mathlib.Core.Path.{◌≡◌, refl, ap, ap₂, ◌∙◌}
use mathlib.Core.List.{List, ◌∷◌}
use Prim.Native.Nat.{ℕ, zero, suc, ◌+◌, ◌<◌, ◌≤◌}
use native.Mathlib.Nat.{zero-add}
use native.Mathlib.Omega.{arith}
use lib.ListN.{get_or}
use Rattle.tables.specs.Shape.{Shape, classes}
use Rattle.tables.specs.Cells.{Tables}
use Rattle.calls.specs.Summary.{class_record, class_records}
use Rattle.summing.specs.Tally.{spans_cell, slots_cell, used_cell, cached_cell, pending_cell, summary_at}
use Rattle.summing.proofs.ColumnLaws.{name_in}
use Rattle.summing.proofs.RecordLaws.{records_at}
use Rattle.summary_records.specs.declared.ClassRecord.{ClassRecord}
use Rattle.summary_records.specs.Structured.{record_at, records_from, class_struct, class_structs}

module _ (g : Shape) (t : Tables) where
  -- The struct of one class.
  pub class_struct_lem : (n c : ℕ) → c < n → record_at (class_records n 0 g t) c ≡ class_struct g t c
  unfolding class_record
  class_struct_lem n c h =
      let here : (f : ℕ) → f ≤ pending_cell → summary_at (class_records n 0 g t) c f ≡ get_or (class_record g t c) f 0 =
      λ f l. records_at n c 0 f g t h (name_in l) ∙ ap (λ (z : ℕ). get_or (class_record g t z) f 0) (zero-add c) in
      λ i.
      record {
        spans = here spans_cell (omega arith) i;
        slots = here slots_cell (omega arith) i;
        used = here used_cell (omega arith) i;
        cached = here cached_cell (omega arith) i;
        pending = here pending_cell (omega arith) i;
      }

  -- The structs of k classes from class c on.
  structs_from : (n k c : ℕ) → c + k ≤ n → records_from k c (class_records n 0 g t) ≡ class_structs k c g t
  unfolding records_from class_structs
  structs_from n zero c h = refl
  structs_from n (suc k) c h =
      ap₂ (λ (r : ClassRecord) (l : List ClassRecord). r ∷ l) (class_struct_lem n c (omega arith)) (structs_from n k (c + 1) (omega arith))

  -- The structs of all classes.
  pub table_structs : records_from (classes g) 0 (class_records (classes g) 0 g t) ≡ class_structs (classes g) 0 g t
  table_structs = structs_from (classes g) (classes g) 0 (omega arith)

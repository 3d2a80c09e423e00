-- What an entry of the lookup table says, for every admissible list; and that 01's sizes with their table are what class choice is lent.
-- Assumes nothing.
use mathlib.Core.Bool.{Bool, true}
use mathlib.Core.List.{List}
use mathlib.Core.Path.{◌≡◌, refl}
use Prim.Native.Nat.{ℕ, ◌+◌, ◌-◌, ◌*◌, ◌≤◌, ◌<◌}
use native.Mathlib.Omega.{arith}
use lib.Dec.{leb}
use lib.ListN.{length, get_or}
use borrow.Author.Tests.{leb-true, leb-false, le-leb}
use Rattle.laws.proofs.FirstLaws.{first_holds, first_le, first_before}
use Rattle.laws.proofs.TableLaws.{tab_at}
use Rattle.size_classes.specs.SlotSizes.{slot_sizes, slot_size, last_size, least_alignment, Admissible}
use Rattle.size_classes.specs.Class.{lookup_entry, lookup_entries}
use Rattle.size_classes.proofs.SlotSizeLaws.{slot_sizes_admissible}
use Rattle.class_lookup.specs.Lookup.{lookup_table, ClassTables}

-- Entry b of the table is what the rule gives for b.
pub lookup_at : (sizes : List ℕ) (b : ℕ) → b < lookup_entries → get_or (lookup_table sizes) b 0 ≡ lookup_entry sizes b
unfolding lookup_table
lookup_at sizes b h = tab_at (lookup_entry sizes) lookup_entries b h

-- 01's sizes and their table are what class choice is lent.
pub class_tables : ClassTables slot_sizes (lookup_table slot_sizes)
class_tables = record { admissible = slot_sizes_admissible; right = refl }

-- class r is the first whose slot holds the sizes of bucket b
pub record EntryRule (sizes : List ℕ) (b r : ℕ) : Type 0 where
  pub class : r < length sizes
  pub holds : b * least_alignment + least_alignment ≤ slot_size sizes r
  pub before : (j : ℕ) → j < r → slot_size sizes j < b * least_alignment + least_alignment

-- Every entry whose bucket is not above the last size follows the rule.
pub entry_rule :
    (sizes : List ℕ) → Admissible sizes → (b : ℕ) → b * least_alignment + least_alignment ≤ last_size sizes → EntryRule sizes b (lookup_entry sizes b)
unfolding lookup_entry
entry_rule sizes ok b h =
    let f : ℕ → Bool = λ k. leb (b * least_alignment + least_alignment) (slot_size sizes k) in
    let n = length sizes in
    let t : f (n - 1) ≡ true = le-leb (b * least_alignment + least_alignment) (last_size sizes) h in
    record {
      class = omega (arith, ok.some, first_le f n 0 (n - 1) (omega arith) t);
      holds = leb-true _ _ (first_holds f n 0 (n - 1) (omega arith) (omega arith) t);
      before = λ j l. leb-false _ _ (first_before f n 0 j (omega arith) l);
    }

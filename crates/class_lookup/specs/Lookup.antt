-- The lookup table of a list of slot sizes. Assumes nothing.
use Rattle.std.specs.Prelude.{List, ◌≡◌, ℕ}
use Rattle.laws.specs.Table.{tab}
use Rattle.size_classes.specs.SlotSizes.{Admissible}
use Rattle.size_classes.specs.Class.{lookup_entry, lookup_entries}

-- "The lookup table has 8192 entries; entry b gives the class of sizes above 16b up to 16b+16."
unfoldable pub lookup_table : List ℕ → List ℕ
lookup_table sizes = tab (lookup_entry sizes) lookup_entries 0

-- the two lists that class choice is lent: slot sizes, and the lookup table of these sizes
pub record ClassTables (sizes lookup : List ℕ) : Type 0 where
  pub admissible : Admissible sizes
  pub right : lookup ≡ lookup_table sizes

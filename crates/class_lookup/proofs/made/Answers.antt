-- `class_lookup::made` meets its contract: each of the 8192 entries is the one that the rule gives, by computation. Assumes nothing.
use mathlib.Core.Path.{refl}
use Rattle.laws.specs.First.{first}
use Rattle.size_classes.specs.SlotSizes.{rising, groups, slot_sizes, least_alignment}
use Rattle.size_classes.specs.Class.{lookup_entry, lookup_entries}
use Rattle.class_lookup.specs.Lookup.{lookup_table}
use Rattle.class_lookup.proofs.made.Goals as goal

pub returns : goal.returns
unfolding first rising groups slot_sizes least_alignment lookup_entry lookup_entries lookup_table
returns c = refl

-- `class_choice::entry` meets its contract. Assumes nothing.
use native.Mathlib.Omega.{arith}
use Rattle.size_classes.specs.Class.{lookup_entries}
use Rattle.class_choice.proofs.entry.Goals as goal

pub bounds-lookup-b : goal.bounds-lookup-b
unfolding lookup_entries
bounds-lookup-b c = omega arith

-- `class_choice::aligned_from` meets its contract. The loop's invariant: no class passed has an aligned slot. Assumes nothing.
use mathlib.Core.Bool.{false}
use mathlib.Core.Path.{◌≡◌}
use Prim.Native.Nat.{ℕ, ◌%◌, ◌≤◌, ◌<◌}
use lib.Dec.{eqb}
use Rattle.size_classes.specs.SlotSizes.{slot_size}
use Rattle.class_choice.proofs.aligned_from.Given as goal

abbrev pub invariant-loop-k : goal.invariant-loop-k
invariant-loop-k l = (j : ℕ) → l.class ≤ j → j < l.k → eqb (slot_size l.sizes j % l.alignment) 0 ≡ false

-- `magazine_layout::magazine_offset` meets its contract. The loop's invariant: the sum is the offset of the class.
-- Assumes nothing.
use mathlib.Core.List.{List}
use mathlib.Core.Path.{◌≡◌}
use Prim.Native.Nat.{ℕ, ◌≤◌}
use Rattle.magazine_layout.specs.Layout.{magazine_offset}
use Rattle.magazine_layout.proofs.magazine_offset.Given as goal

-- the capacities of the classes before j, summed
pub record Summed (sizes : List ℕ) (c offset j : ℕ) : Type 0 where
  pub within : j ≤ c
  pub is : offset ≡ magazine_offset sizes j

abbrev pub invariant-loop-class : goal.invariant-loop-class
invariant-loop-class l = Summed l.sizes l.c l.offset l.class

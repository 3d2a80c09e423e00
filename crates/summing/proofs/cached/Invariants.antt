-- `summing::cached` meets its contract: the counts of the heaps passed are added. Assumes nothing.
use mathlib.Core.Path.{◌≡◌}
use Prim.Native.Nat.{ℕ, ◌*◌, ◌≤◌}
use Rattle.magazine_layout.specs.Layout.{most_capacity}
use Rattle.tables.specs.Shape.{Shape}
use Rattle.tables.specs.Cells.{Tables}
use Rattle.summing.specs.Tally.{cached_in}
use Rattle.summing.proofs.cached.Given as goal

-- the heaps before h are counted
pub record Counted (g : Shape) (t : Tables) (c h total : ℕ) : Type 0 where
  pub most : total ≤ h * most_capacity
  pub is : total ≡ cached_in g t h c

abbrev pub invariant-loop-h : goal.invariant-loop-h
invariant-loop-h l = Counted l.initial.shape l.initial.view l.c l.h l.total

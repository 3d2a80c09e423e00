-- `summing::write_class` meets its contract: two stores to the record of the class. Assumes nothing.
use mathlib.Core.Path.{subst, sym}
use Prim.Native.Nat.{ℕ, ◌*◌, ◌^◌, ◌≤◌}
use native.Mathlib.Omega.{arith}
use Rattle.summing.specs.Tally.{slots_cell}
use Rattle.summing.proofs.StepLaws.{class_cell, class_cell_still, slots_fit, class_is_written}
use Rattle.summing.proofs.write_class.Goals as goal

pub cell-spans-requires : goal.cell-spans-requires
cell-spans-requires c = class_cell c.requires (omega arith)

pub overflow_mul-spans : goal.overflow_mul-spans
overflow_mul-spans c =
    omega (arith, slots_fit _ (subst (λ (z : ℕ). z ≤ 2 ^ 32) (sym c.cell-spans.ensures) c.requires.few) c.slots_per_span-slots.ensures)

pub put_cell-requires : goal.put_cell-requires
put_cell-requires c = class_cell c.requires (omega arith)

pub put_cell-requires-2 : goal.put_cell-requires-2
put_cell-requires-2 c = class_cell_still c.requires slots_cell (c.cell-spans.result * c.slots_per_span-slots.result) (omega arith) c.put_cell.ensures

pub returns : goal.returns
returns c =
    rw (← c.shape.view_is)
    (class_is_written _ _ _ _ (rw c.slot.ensures.size at c.slots_per_span-slots.ensures) (rw (← c.shape.view_is) at c.cached-cached.ensures)
    c.cell-spans.ensures c.put_cell.ensures c.put_cell-2.ensures)

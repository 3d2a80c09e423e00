-- `size_classes::span_length` meets its contract. Assumes nothing.
use mathlib.Core.Path.{ap}
use Prim.Native.Nat.{ℕ, ◌*◌}
use native.Mathlib.Omega.{arith}
use Rattle.size_classes.specs.Slots.{span_length}
use Rattle.size_classes.proofs.SlotTheorems.{span_longest}
use Rattle.size_classes.proofs.span_length.Goals as goal

pub overflow_mul-result : goal.overflow_mul-result
unfolding span_length
overflow_mul-result c =
    let slot = c.args.slot in
    let e = ap (λ (n : ℕ). n * slot) c.slots_per_span.ensures in
    omega (arith, span_longest slot c.requires.1)

pub returns : goal.returns
unfolding span_length
returns c = ap (λ (n : ℕ). n * c.args.slot) c.slots_per_span.ensures

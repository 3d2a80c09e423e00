-- `fresh::as_stated` meets its contract: where heaps and spans are within their limits, the lengths may be asked for. Assumes nothing.
use mathlib.Core.Path.{sym, ◌∙◌}
use native.Mathlib.Omega.{arith}
use Rattle.tables.proofs.StatedLaws.{shape_passed}
use Rattle.fresh.proofs.as_stated.Goals as goal

pub right_lengths-requires : goal.right_lengths-requires
right_lengths-requires c =
    let s = shape_passed c.args.shape.now (sym c.right_shape.ensures ∙ c.if-right_shape.true) in
    (s.few_heaps, omega (arith, s.few_spans, c.requires))

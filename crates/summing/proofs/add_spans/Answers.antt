-- `summing::add_spans` meets its contract: the spans passed are counted. Assumes nothing.
use mathlib.Core.Path.{ap}
use native.Mathlib.Omega.{arith}
use Rattle.tables.specs.Cells.{Tables}
use Rattle.summing.proofs.TallyLaws.{span_fits, tallied_more}
use Rattle.summing.proofs.add_spans.Goals as goal

pub add_span-requires : goal.add_span-requires
add_span-requires c =
    span_fits c.requires.spans_count (omega (arith, c.loop-s-test.true, ap (λ (t : Tables). t.used) c.view.view_is)) c.loop-s.invariant

pub loop-s-preserved : goal.loop-s-preserved
loop-s-preserved c =
    rw c.add_span.ensures
    (tallied_more c.requires.spans_count (omega (arith, c.loop-s-test.true, ap (λ (t : Tables). t.used) c.view.view_is)) c.loop-s.invariant)

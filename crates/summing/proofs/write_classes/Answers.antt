-- `summing::write_classes` meets its contract: the classes passed are written. Assumes nothing.
use Rattle.summing.proofs.RecordLaws.{written_more}
use Rattle.summing.proofs.write_classes.Goals as goal

pub loop-c-preserved : goal.loop-c-preserved
loop-c-preserved c =
    let passed = rw (← c.shape.view_is) at c.loop-c.invariant in
    rw (← c.shape.view_is, c.write_class.ensures)
    (rw (← c.shape.view_is) (written_more (rw c.classes-c-end.ensures.count at c.loop-c-test.true) passed))

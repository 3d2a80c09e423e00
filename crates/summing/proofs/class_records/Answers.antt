-- `summing::class_records` meets its contract: all spans are counted, then all classes are written. Assumes nothing.
use Rattle.summing.proofs.TallyLaws.{tallied_none, spans_few}
use Rattle.summing.proofs.RecordLaws.{written_all}
use Rattle.summing.proofs.class_records.Goals as goal

pub add_spans-requires-clause-tallied : goal.add_spans-requires-clause-tallied
add_spans-requires-clause-tallied c = tallied_none _ _ c.args.out.now c.requires.long c.zero.ensures

pub write_classes-requires : goal.write_classes-requires
write_classes-requires c =
    record {
      counts = c.requires.of_heads;
      long = c.add_spans.ensures.long;
      few = spans_few c.requires.of_spans c.add_spans.ensures;
    }

pub returns : goal.returns
returns c = written_all c.add_spans.ensures c.write_classes.ensures

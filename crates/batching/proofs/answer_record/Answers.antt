-- `batching::answer_record` meets its contract: the record's outcome, taken apart. Assumes nothing.
use mathlib.Core.Path.{ap, ◌∙◌}
use native.Mathlib.Omega.{arith}
use Rattle.calls.specs.Outcome.{Outcome}
use Rattle.calls.specs.Batch.{record_bytes, answered}
use Rattle.batching.proofs.answer_record.Goals as goal

pub overflow_mul-i : goal.overflow_mul-i
unfolding record_bytes
overflow_mul-i c = omega (arith, c.requires.record_bytes_in_bounds.0)

pub perform_record-answer-requires : goal.perform_record-answer-requires
unfolding record_bytes
perform_record-answer-requires c = let p = c.requires in
    record {
      sizes = p.sizes;
      lent = p.lent;
      record_bytes_in_bounds = p.record_bytes_in_bounds.0;
    }

pub returns-clause-cells : goal.returns-clause-cells
unfolding record_bytes
returns-clause-cells c = ap (λ (o : Outcome). o.table) c.perform_record-answer.ensures.ended

pub returns-clause-answers : goal.returns-clause-answers
unfolding record_bytes
returns-clause-answers c =
    let a = c.args in
    rw c.from.ensures at c.put_answer.ensures ∙ ap (λ (o : Outcome). answered a.answers.now a.i o) c.perform_record-answer.ensures.ended

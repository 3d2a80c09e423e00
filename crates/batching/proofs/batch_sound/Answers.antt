-- `batching::batch_sound` meets its contract. The loop's invariant: the records before i are answered. Assumes nothing.
use mathlib.Core.Path.{ap, ◌∙◌}
use Prim.Native.Nat.{ℕ}
use native.Mathlib.Omega.{arith}
use Rattle.tables.proofs.LentLaws.{lent_on}
use Rattle.tables.specs.Lent.{cells}
use Rattle.calls.specs.Batch.{batch_from}
use Rattle.batching.proofs.BatchLoop.{answering_more, answering_all}
use Rattle.batching.proofs.batch_sound.Goals as goal

pub loop-i-preserved : goal.loop-i-preserved
loop-i-preserved c =
    let l = c.loop-i.invariant in
    let done = c.answer_record.ensures in
    record {
      lent = lent_on l.lent done.lent;
      answering = answering_more l.answering _ _ (omega arith) done.cells done.answers;
    }

pub returns-clause-batched : goal.returns-clause-batched
returns-clause-batched c =
    let a = c.args in
    answering_all c.loop-i.invariant.answering (omega arith)
    ∙ ap (λ (n : ℕ). batch_from n 0 a.shape.now (cells a.tables.now) a.bytes.now a.answers.now) c.record_count-i-end.ensures

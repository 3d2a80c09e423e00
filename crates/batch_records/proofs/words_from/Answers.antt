-- `batch_records::words_from` meets its contract. The loop's invariant: the words before the index are written, and the next one is at hand. Assumes nothing.
use mathlib.Core.Path.{refl}
use Rattle.calls.specs.Calls.{words_needed}
use Rattle.calls.specs.Batch.{word_step}
use Rattle.batch_records.proofs.RecordLaws.{writing_none, writing_more, writing_all}
use Rattle.batch_records.proofs.words_from.Goals as goal

pub loop-word-init : goal.loop-word-init
loop-word-init c = writing_none 65 _

pub loop-word-preserved : goal.loop-word-preserved
unfolding word_step
loop-word-preserved c = writing_more 65 _ _ _ _ _ c.loop-word-test.true refl c.loop-word.invariant

pub returns : goal.returns
unfolding words_needed
returns c = writing_all 65 _ _ _ _ c.loop-word-test.false c.loop-word.invariant

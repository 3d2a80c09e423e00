-- `batch_records::words_from` meets its contract. The loop's invariant: the words before the index are written, and the next one is at hand. Assumes nothing.
use Rattle.batch_records.proofs.RecordLaws.{Writing}
use Rattle.batch_records.proofs.words_from.Given as goal

abbrev pub invariant-loop-word : goal.invariant-loop-word
invariant-loop-word l = Writing 65 l.seed l.word-items l.next l.word-index

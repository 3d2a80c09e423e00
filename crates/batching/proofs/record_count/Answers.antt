-- `batching::record_count` meets its contract. Assumes nothing.
use borrow.Author.Rules.{rules}
use Rattle.calls.specs.Batch.{record_bytes}
use Rattle.batching.proofs.record_count.Goals as goal

pub returns : goal.returns
unfolding record_bytes
returns c = search rules

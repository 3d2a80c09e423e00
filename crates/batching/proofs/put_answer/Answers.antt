-- `batching::put_answer` meets its contract. Assumes nothing.
use borrow.Author.Rules.{rules}
use Rattle.calls.specs.Batch.{answer_cells}
use Rattle.batching.proofs.put_answer.Goals as goal

pub overflow_mul-at : goal.overflow_mul-at
unfolding answer_cells
overflow_mul-at c = search rules

pub put_three-requires : goal.put_three-requires
unfolding answer_cells
put_three-requires c = search rules

pub returns : goal.returns
unfolding answer_cells
returns c = search rules

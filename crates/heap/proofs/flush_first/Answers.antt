-- `heap::flush_first` meets its contract: the flush, by its test. Assumes nothing.
use mathlib.Core.Path.{sym, ◌∙◌}
use mathlib.Core.List.{[]}
use Rattle.placing.proofs.PlacingKept.{working_room}
use Rattle.heap.proofs.HeapLaws.{flush_made, flush_not}
use Rattle.heap.proofs.flush_first.Goals as goal

pub is_full-requires : goal.is_full-requires
is_full-requires c = (working_room c.requires.2).row

pub returns-then-is_full : goal.returns-then-is_full
returns-then-is_full c = let full = c.is_full.ensures in let yes = c.if-is_full.true in let done = c.flush.ensures in λ u. flush_made _ _ _ (sym (full [] [] [] u) ∙ yes) (done u)

pub returns-else-is_full : goal.returns-else-is_full
returns-else-is_full c = let full = c.is_full.ensures in let no = c.if-is_full.false in λ u. flush_not _ _ (sym (full [] [] [] u) ∙ no)

-- `primary::dealloc_small` meets its contract, by its test. Assumes nothing.
use Rattle.reclaiming.proofs.ReclaimingLaws.{working_cells}
use Rattle.heap.proofs.HeapLaws.{block_slot}
use Rattle.primary.proofs.PrimaryLaws.{by_owner, by_another}
use Rattle.primary.proofs.dealloc_small.Goals as goal

pub returns-then-k-heap : goal.returns-then-k-heap
returns-then-k-heap c = let own = c.if-k-heap.true in let done = c.dealloc_local.ensures in λ u. by_owner _ _ _ _ _ _ own (done u)

pub remote_free-requires : goal.remote_free-requires
remote_free-requires c = let p = c.requires in let x = p.2 in (block_slot x.working x.belongs.used x.inside, (working_cells x.working x.belongs.used).words)

pub returns : goal.returns
returns c = let other = c.if-k-heap.false in let done = c.remote_free.ensures in λ u. by_another _ _ _ _ _ _ other (done _ _ _ u)

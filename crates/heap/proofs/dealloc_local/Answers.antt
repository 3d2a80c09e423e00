-- `heap::dealloc_local` meets its contract: a flush where the magazine is full, then a push. Assumes nothing.
use Rattle.heap.proofs.HeapLaws.{flushed_here, flushed_room_here, block_small, dealloc_made}
use Rattle.heap.proofs.dealloc_local.Goals as goal

pub flush_first-requires : goal.flush_first-requires
flush_first-requires c = let p = c.requires in (p.0, p.1, p.2.working)

pub entry_of-requires : goal.entry_of-requires
entry_of-requires c = let x = c.requires.2 in block_small x.working x.belongs.used x.inside

pub push-requires : goal.push-requires
push-requires c = let p = c.requires in let e = c.flush_first.ensures p.1 in
    record {
      room = flushed_here p.2.working e;
      k_bound = flushed_room_here p.2.working e;
    }

pub returns : goal.returns
returns c = let f = c.flush_first.ensures in let o = c.entry_of.ensures in let p = c.push.ensures in λ u. dealloc_made _ _ _ _ _ _ _ (f u) o (p _ _ u)

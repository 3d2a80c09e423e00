-- `sound_calls::free_block` meets its contract, by the block's state. Assumes nothing.
use Rattle.placing.proofs.PlacingKept.{working_room}
use Rattle.reclaiming.proofs.ReclaimingLaws.{working_cells}
use Rattle.heap.proofs.HeapLaws.{block_slot, block_small}
use Rattle.sound_calls.proofs.FreeTests.{block_freeable}
use Rattle.sound_calls.proofs.free_block.Goals as goal

pub state_of-state-requires : goal.state_of-state-requires
state_of-state-requires c =
    let x = c.requires.1 in
    let w = x.working in
    record {
      word_cells = rw c.bits.ensures (working_cells w x.used).words;
      room = rw (c.entries.ensures, c.heads.ensures) (working_room w);
      q_lt_most_slots = (block_slot w x.used x.inside, block_small w x.used x.inside);
    }

pub dealloc_small-requires : goal.dealloc_small-requires
dealloc_small-requires c =
    let t = c.args.tables.now in
    let state = rw (c.bits.ensures, c.entries.ensures, c.heads.ensures) at (c.in-Out.ensures t.spans.now t.used.now) in
    (_, t.used.now, block_freeable c.requires.1 state)

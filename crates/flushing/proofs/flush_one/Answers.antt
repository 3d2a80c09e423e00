-- `flushing::flush_one` meets its contract: the top entry popped, and its slot given back. Assumes nothing.
use Rattle.placing.proofs.PlacingKept.{working_room}
use Rattle.flushing.proofs.FlushingLaws.{popped_returnable, flush_one_made}
use Rattle.flushing.proofs.flush_one.Goals as goal

pub pop-e-requires : goal.pop-e-requires
pop-e-requires c = let p = c.requires in
    record {
      room = working_room p.by_index.2;
      k_nonzero = p.k_nonzero;
    }

pub give_back-requires : goal.give_back-requires
give_back-requires c =
    let p = c.requires in (
      p.by_index.0,
      c.args.entries.now,
      p.by_index.1,
      popped_returnable p.by_index.2 p.k_nonzero _ _ _ _ (c.pop-e.ensures.by_index_2 c.args.bits.now c.args.spans.now p.by_index.1)
          (c.pop-e.ensures.by_index c.args.bits.now c.args.spans.now p.by_index.1) c.entry_span.ensures c.entry_slot.ensures,
    )

pub returns : goal.returns
returns c =
    λ u.
    flush_one_made _ _ _ _ _ _ _ (c.pop-e.ensures.by_index c.args.bits.now c.args.spans.now u) c.entry_span.ensures c.entry_slot.ensures
    (c.pop-e.ensures.by_index_2 c.args.bits.now c.args.spans.now u) (c.give_back.ensures c.args.entries.now u)

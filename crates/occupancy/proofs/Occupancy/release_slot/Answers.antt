-- `Occupancy::release_slot` meets its contract, field by field. Assumes nothing.
use Prim.Native.Nat.{◌-◌, ◌/◌}
use lib.ListN.{set}
use Rattle.occupancy.specs.Occupied.{release_slot}
use Rattle.occupancy.proofs.Occupancy.release_slot.Goals as goal

pub returns : goal.returns
unfolding release_slot
returns c =
    let a = c.args in
    λ t. record {
      summary = c.clear_bit-2.ensures t;
      words = set a.self.words (a.slot / 64) (c.clear_bit.ensures t);
      count = a.self.count - 1;
    }

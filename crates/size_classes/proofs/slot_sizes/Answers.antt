-- `size_classes::slot_sizes` meets its contract, by computation. Assumes nothing.
use mathlib.Core.Path.{refl}
use Rattle.size_classes.specs.SlotSizes.{rising, groups, slot_sizes}
use Rattle.size_classes.proofs.slot_sizes.Goals as goal

pub returns : goal.returns
unfolding rising groups slot_sizes
returns c = refl

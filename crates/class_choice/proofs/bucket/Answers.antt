-- `class_choice::bucket` meets its contract. Assumes nothing.
use native.Mathlib.Omega.{arith}
use Rattle.size_classes.specs.SlotSizes.{least_alignment}
use Rattle.class_choice.specs.Search.{bucket_of}
use Rattle.class_choice.proofs.bucket.Goals as goal

pub returns : goal.returns
unfolding bucket_of least_alignment
returns c = omega arith

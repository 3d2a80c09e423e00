-- `magazine_layout::low_water_for` meets its contract. Assumes nothing.
use mathlib.Core.Path.{refl}
use Rattle.magazine_layout.specs.Layout.{low_water_for}
use Rattle.magazine_layout.proofs.low_water_for.Goals as goal

pub returns : goal.returns
unfolding low_water_for
returns c = refl

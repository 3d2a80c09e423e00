-- `magazine_layout::capacity_for` meets its contract. Assumes nothing.
use native.Mathlib.Omega.{arith}
use Rattle.magazine_layout.specs.Layout.{magazine_bytes, least_capacity, most_capacity, capacity_for}
use Rattle.magazine_layout.proofs.capacity_for.Goals as goal

pub returns : goal.returns
unfolding capacity_for magazine_bytes least_capacity most_capacity
returns c = omega arith

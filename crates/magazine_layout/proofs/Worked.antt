-- Numbers of the layout over 01's list. Assumes nothing.
use mathlib.Core.Path.{◌≡◌, refl}
use Rattle.laws.specs.Choice.{sum}
use Rattle.size_classes.specs.SlotSizes.{rising, groups, slot_sizes}
use Rattle.magazine_layout.specs.Layout.{magazine_bytes, least_capacity, most_capacity, capacity_for, low_water_for, magazine_offset, entries_per_heap}

pub record WorkedLayout : Type 0 where
  -- capacity and low water of the smallest slot, of one in between, and of the largest
  pub smallest : (capacity_for 16 ≡ 64) × (low_water_for 64 ≡ 16)
  pub between : (capacity_for 96 ≡ 42) × (low_water_for 42 ≡ 10)
  pub largest : (capacity_for 131072 ≡ 8) × (low_water_for 8 ≡ 2)
  -- where the magazines of classes 0, 1, 5 and 47 begin
  pub offsets : (magazine_offset slot_sizes 0 ≡ 0) × (magazine_offset slot_sizes 1 ≡ 64) × (magazine_offset slot_sizes 5 ≡ 307) × (magazine_offset slot_sizes 47 ≡ 784)
  -- "All 48 together have 792 entries."
  pub total : entries_per_heap slot_sizes ≡ 792

pub worked : WorkedLayout
unfolding sum rising groups slot_sizes magazine_bytes least_capacity most_capacity capacity_for low_water_for magazine_offset entries_per_heap
worked = record { smallest = (refl, refl); between = (refl, refl); largest = (refl, refl); offsets = (refl, refl, refl, refl); total = refl }

-- The layout of a heap's magazines, over any list of slot sizes. Assumes nothing.
use Rattle.std.specs.Prelude.{List, ℕ, ◌/◌, min, max, length}
use Rattle.laws.specs.Choice.{sum}
use Rattle.size_classes.specs.SlotSizes.{slot_size}

unfoldable pub magazine_bytes : ℕ
magazine_bytes = 4096

unfoldable pub least_capacity : ℕ
least_capacity = 8

unfoldable pub most_capacity : ℕ
most_capacity = 64

-- "capacity is 4096 divided by the slot size, held to 8..64"
unfoldable pub capacity_for : ℕ → ℕ
capacity_for slot = max least_capacity (min (magazine_bytes / slot) most_capacity)

-- "low water is a quarter of it, rounded down"
unfoldable pub low_water_for : ℕ → ℕ
low_water_for capacity = capacity / 4

-- where class c's magazine begins: the capacities of the classes before it, summed
unfoldable pub magazine_offset : List ℕ → ℕ → ℕ
magazine_offset sizes c = sum c (λ j. capacity_for (slot_size sizes j))

-- "All 48 together have 792 entries.": the sum over all classes of the list
unfoldable pub entries_per_heap : List ℕ → ℕ
entries_per_heap sizes = magazine_offset sizes (length sizes)

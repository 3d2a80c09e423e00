-- The class of a request, over any list of slot sizes. Assumes nothing.
use Rattle.std.specs.Prelude.{Option, Some, None}
use Rattle.std.specs.Prelude.{Bool, ◌&&◌, cond, List, ℕ, ◌+◌, ◌*◌, ◌%◌, ◌^◌, length, leb, eqb}
use Rattle.laws.specs.First.{first}
use Rattle.size_classes.specs.SlotSizes.{slot_size, last_size, least_alignment}

-- "alignment is raised to a power of two (0 becomes 1)"
unfoldable pub raised : ℕ → ℕ
raised alignment = 2 ^ first (λ j. leb alignment (2 ^ j)) 64 0

-- class k's "slot is at least the size and a multiple of that alignment"
unfoldable pub fits : List ℕ → ℕ → ℕ → ℕ → Bool
fits sizes size alignment k = leb size (slot_size sizes k) && eqb (slot_size sizes k % alignment) 0

-- "The class is the smallest whose slot is at least the size and a multiple of that alignment": its number, and the number of classes where there is none
unfoldable pub smallest_class : List ℕ → ℕ → ℕ → ℕ
smallest_class sizes size alignment = first (fits sizes size (raised alignment)) (length sizes) 0

-- not refused with 5: "size, or raised alignment, above 131072", the list's last size
unfoldable pub in_range : List ℕ → ℕ → ℕ → Bool
in_range sizes size alignment = leb size (last_size sizes) && leb (raised alignment) (last_size sizes)

unfoldable pub class_of : List ℕ → ℕ → ℕ → Option ℕ
class_of sizes size alignment = cond (in_range sizes size alignment) (Some (smallest_class sizes size alignment)) None

-- "entry b gives the class of sizes above 16b up to 16b+16"
unfoldable pub lookup_entry : List ℕ → ℕ → ℕ
lookup_entry sizes b = first (λ k. leb (b * least_alignment + least_alignment) (slot_size sizes k)) (length sizes) 0

-- "The lookup table has 8192 entries"
unfoldable pub lookup_entries : ℕ
lookup_entries = 8192

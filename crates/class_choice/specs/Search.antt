-- The two steps of class choice: the bucket of a size, and the search by alignment from a class on. Assumes nothing.
use Rattle.std.specs.Prelude.{List, ◌≡◌, ℕ, ◌-◌, ◌/◌, ◌%◌, ◌<◌, max, eqb, length}
use Rattle.laws.specs.First.{first}
use Rattle.size_classes.specs.SlotSizes.{slot_size, last_size, least_alignment}

-- the bucket b with the size "above 16b up to 16b+16", and 0 for sizes below 16
unfoldable pub bucket_of : ℕ → ℕ
bucket_of size = (max size least_alignment - 1) / least_alignment

-- the first class from k on whose slot is a multiple of the alignment
unfoldable pub aligned_from : List ℕ → ℕ → ℕ → ℕ
aligned_from sizes alignment k = first (λ j. eqb (slot_size sizes j % alignment) 0) (length sizes) k

-- a search by alignment from class k on ends inside the list: the last slot is a multiple of the alignment
pub record Search (sizes : List ℕ) (alignment k : ℕ) : Type 0 where
  pub class : k < length sizes
  pub positive : 0 < alignment
  pub last : last_size sizes % alignment ≡ 0

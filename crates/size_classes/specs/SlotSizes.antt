-- The list of slot sizes, and which lists are admissible. Assumes nothing.
use Rattle.std.specs.Prelude.{◌≡◌, List, [], ◌∷◌, ◌++◌, ℕ, zero, suc, ◌+◌, ◌-◌, ◌*◌, ◌%◌, ◌^◌, ◌≤◌, ◌<◌, length, get_or}

-- n sizes, each `step` above the one before it, the first above `base`
unfoldable pub rising : ℕ → ℕ → ℕ → List ℕ
rising zero base step = []
rising (suc n) base step = (base + step) ∷ rising n (base + step) step

-- n groups of four above `base`, "each group's step double the last one's"
unfoldable pub groups : ℕ → ℕ → ℕ → List ℕ
groups zero base step = []
groups (suc n) base step = rising 4 base step ++ groups n (base + 4 * step) (2 * step)

-- "Slot sizes: 16 to 128 by 16, then groups of four, each group's step double the last one's: 160 to 256 by 32, 320 to 512 by 64, and so on to 81920
-- to 131072 by 16384."
unfoldable pub slot_sizes : List ℕ
slot_sizes = rising 8 0 16 ++ groups 10 128 32

-- the slot size of class k, and the last class's
abbrev pub slot_size : List ℕ → ℕ → ℕ
slot_size sizes k = get_or sizes k 0

abbrev pub last_size : List ℕ → ℕ
last_size sizes = slot_size sizes (length sizes - 1)

-- ISO C's "allocated memory suits any fundamental alignment (16 on x86-64)"
unfoldable pub least_alignment : ℕ
least_alignment = 16

-- the largest slot size that any list has, and the most classes
unfoldable pub largest_slot : ℕ
largest_slot = 131072

unfoldable pub most_classes : ℕ
most_classes = 48

-- "A profile is a list of slot sizes: multiples of 16, none 0, strictly rising, last one a power of two and at most 131072, 1 to 48 of them." (02, Q-11)
pub record Admissible (sizes : List ℕ) : Type 0 where
  pub some : 0 < length sizes
  pub few : length sizes ≤ most_classes
  pub multiple : (k : ℕ) → k < length sizes → slot_size sizes k % least_alignment ≡ 0
  pub positive : (k : ℕ) → k < length sizes → 0 < slot_size sizes k
  pub rises : (j k : ℕ) → j < k → k < length sizes → slot_size sizes j < slot_size sizes k
  pub power : (j : ℕ) × (last_size sizes ≡ 2 ^ j)
  pub largest : last_size sizes ≤ largest_slot

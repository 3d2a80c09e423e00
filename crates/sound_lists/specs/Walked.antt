-- What the walk of a list asks of each span, and what its answer says. Assumes nothing.
use Rattle.std.specs.Prelude.{◌≡◌, List, ℕ, ◌+◌, ◌*◌, ◌<◌, ◌≤◌, length, Option, None, Some}
use Rattle.laws.specs.Links.{All}
use Rattle.size_classes.specs.Slots.{most_slots}
use Rattle.tables.specs.declared.ClassHeap.{ClassHeap}
use Rattle.tables.specs.Shape.{record_cells}
use Rattle.tables.specs.Cells.{Tables, occupied_at, previous_at, next_at, head_cell, head_at, partial_list, full_list, empty_list, reserve, counter}
use Rattle.linked_list.specs.Lists.{list_of}
use Rattle.sound.specs.Sound.{Belongs, ListSound, Partial, Full, Empty}

-- the records of all used spans are there
pub record UsedFields (spans : List ℕ) (used : ℕ) : Type 0 where
  pub there : used * record_cells ≤ length spans

-- a count from low on and below high
abbrev pub Between : ℕ → ℕ → ℕ → Type 0
Between low high n = (low ≤ n) × (n < high)

-- span s is of class and heap k, links back to p, and has such a count
pub record Fits (t : Tables) (k : ClassHeap) (low high p s : ℕ) : Type 0 where
  pub belongs : Belongs t k s
  pub back : previous_at t s ≡ p
  pub named : Between low high (occupied_at t s)

-- no number says that P does not hold; a number, that P holds, and that it is the number
abbrev pub WalkAnswer : Type 0 → ℕ → Option ℕ → Type 0
WalkAnswer P number None = P → ⊥
WalkAnswer P number (Some n) = P × (n ≡ number)

-- the lists and the reserve of one class of one heap, as soundness asks them to be; and no span stands both in the reserve and on the empty list
pub record ClassLists (t : Tables) (k : ClassHeap) : Type 0 where
  pub partial : ListSound t k partial_list (Partial k)
  pub full : ListSound t k full_list (Full k)
  pub empty : ListSound t k empty_list Empty
  pub kept : ListSound t k reserve Empty
  pub alone : All (λ s. next_at t s ≡ 0) (list_of t k reserve)
  pub apart : head_at t k empty_list ≡ head_at t k reserve → head_at t k reserve ≡ 0

-- how many spans they hold
abbrev pub spans_in : Tables → ClassHeap → ℕ
spans_in t k =
    length (list_of t k partial_list) + length (list_of t k full_list) + length (list_of t k empty_list) + length (list_of t k reserve)

-- the heads of a class of a heap are there
pub record ClassCells (heads : List ℕ) (k : ClassHeap) : Type 0 where
  pub rows : (f : ℕ) → f ≤ counter → head_cell k.row f < length heads
  pub slots : k.slots ≤ most_slots

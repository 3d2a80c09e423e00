-- What a magazine's steps ask of the tables lent to them. Assumes nothing.
use Rattle.std.specs.Prelude.{List, ℕ, ◌+◌, ◌<◌, ◌≤◌, length, get_or}
use Rattle.tables.specs.declared.ClassHeap.{ClassHeap}
use Rattle.tables.specs.Cells.{head_cell, counter}

-- the count of a magazine, read from the heads alone
abbrev pub count_in : List ℕ → ClassHeap → ℕ
count_in heads k = get_or heads (head_cell k.row counter) 0

-- the count's cell is there
abbrev pub Counted : List ℕ → ClassHeap → Type 0
Counted heads k = head_cell k.row counter < length heads

-- the count's cell is there, the count is within the capacity, and so many entries are there
pub record Room (entries heads : List ℕ) (k : ClassHeap) : Type 0 where
  pub row : Counted heads k
  pub held : count_in heads k ≤ k.capacity
  pub fits : k.base + k.capacity ≤ length entries

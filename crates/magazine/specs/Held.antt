-- What a magazine holds: the entries below its count, each once; and what a step of one magazine leaves as it was. Assumes nothing.
use Rattle.std.specs.Prelude.{◌≡◌, ℕ, ◌+◌, ◌<◌, length, get_or}
use Rattle.tables.specs.declared.ClassHeap.{ClassHeap}
use Rattle.tables.specs.Shape.{head_cells}
use Rattle.tables.specs.Cells.{Tables, head_cell, counter, count_at, entry_at}

-- x stands below the count
pub record Among (t : Tables) (k : ClassHeap) (x : ℕ) : Type 0 where
  pub place : ℕ
  pub below : place < count_at t k
  pub is : entry_at t k place ≡ x

-- no two entries below the count are equal
pub record Distinct (t : Tables) (k : ClassHeap) : Type 0 where
  pub apart : (j : ℕ) → j < count_at t k → (i : ℕ) → i < j → entry_at t k i ≡ entry_at t k j → ⊥

-- two magazines of different rows whose entries do not meet
pub record Apart (k l : ClassHeap) : Type 0 where
  pub rows : k.row ≡ l.row → ⊥
  pub ranges : (i j : ℕ) → i < k.capacity → j < l.capacity → k.base + i ≡ l.base + j → ⊥

-- from t to t' nothing but k's count and the entries of k's magazine changed
pub record OnlyMagazine (t t' : Tables) (k : ClassHeap) : Type 0 where
  pub bits : t'.bits ≡ t.bits
  pub spans : t'.spans ≡ t.spans
  pub used : t'.used ≡ t.used
  pub entries_length : length t'.entries ≡ length t.entries
  pub heads_length : length t'.heads ≡ length t.heads
  pub heads :
      (r f : ℕ) →
      f < head_cells →
      (r ≡ k.row → f ≡ counter → ⊥) →
      get_or t'.heads (head_cell r f) 0 ≡ get_or t.heads (head_cell r f) 0
  pub entries :
      (p : ℕ) → ((i : ℕ) → i < k.capacity → p ≡ k.base + i → ⊥) → get_or t'.entries p 0 ≡ get_or t.entries p 0

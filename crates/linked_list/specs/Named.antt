-- The lists of a table by the cells of their heads, for lists by home and rank. Assumes nothing.
use Rattle.std.specs.Prelude.{◌≡◌, List, ℕ, ◌+◌, ◌<◌, ◌≤◌, get_or}
use Rattle.laws.specs.Links.{Chain, walk, times}
use Rattle.laws.specs.Members.{Mem}
use Rattle.laws.specs.Listed.{Listed, Lists}
use Rattle.tables.specs.Shape.{Shape, classes, row_of}
use Rattle.tables.specs.Cells.{Tables, previous_at, next_at, head_cell, reserve, counter, partial_list, full_list, empty_list}

-- the head in a cell
abbrev pub heads_at : Tables → ℕ → ℕ
heads_at t c = get_or t.heads c 0

-- r is the row of a class of a heap
pub record RowName (g : Shape) (r : ℕ) : Type 0 where
  pub owner : ℕ
  pub class : ℕ
  pub heap : owner < g.heaps
  pub sized : class < classes g
  pub place : r ≡ row_of g owner class

-- c is the head of a list, or a reserve, of one of the rows
pub record ListName (IsRow : ℕ → Type 0) (c : ℕ) : Type 0 where
  pub row : ℕ
  pub kind : ℕ
  pub within : IsRow row
  pub low : kind ≤ reserve
  pub cell : c ≡ head_cell row kind

-- c is a reserve, a list of one at most
pub record ReserveName (c : ℕ) : Type 0 where
  pub row : ℕ
  pub cell : c ≡ head_cell row reserve

-- a cell that is no list's: the home of a span in no list
abbrev pub no_list : ℕ
no_list = head_cell 0 counter

-- the lists of the rows of a table, by a home and a rank of each span
abbrev pub ListedIn : (ℕ → Type 0) → Tables → (ℕ → ℕ) → (ℕ → ℕ) → Type 0
ListedIn IsRow t home rank = Listed (ListName IsRow) ReserveName t.used (previous_at t) (next_at t) (heads_at t) home rank

-- the same lists spelled out, each used span in the one that is its home
abbrev pub ListsIn : (ℕ → Type 0) → Tables → (ℕ → ℕ) → Type 0
ListsIn IsRow t home = Lists (ListName IsRow) ReserveName t.used (previous_at t) (next_at t) (heads_at t) home

-- the spans of list f of row r, front first
abbrev pub row_list : Tables → ℕ → ℕ → List ℕ
row_list t r f = walk (next_at t) t.used (heads_at t (head_cell r f))

-- how often span s stands in the lists and the reserve of row r
abbrev pub places_of : Tables → ℕ → ℕ → ℕ
places_of t r s =
    times s (row_list t r partial_list) + times s (row_list t r full_list) + times s (row_list t r empty_list) + times s (row_list t r reserve)

-- the lists as 01 counts them: every used span stands once in the lists and the reserve of its row, and these hold no other span
pub record Placed (IsRow : ℕ → Type 0) (t : Tables) (row : ℕ → ℕ) : Type 0 where
  pub linked : (r f : ℕ) → IsRow r → f ≤ reserve → Chain (previous_at t) (next_at t) 0 (heads_at t (head_cell r f)) (row_list t r f)
  pub own : (r f s : ℕ) → IsRow r → f ≤ reserve → Mem s (row_list t r f) → (s < t.used) × (row s ≡ r)
  pub within : (s : ℕ) → s < t.used → IsRow (row s)
  pub listed : (s : ℕ) → s < t.used → places_of t (row s) s ≡ 1
  pub alone : (r s : ℕ) → IsRow r → Mem s (row_list t r reserve) → next_at t s ≡ 0

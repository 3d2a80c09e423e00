-- Soundness of the lists by a home of each used span: the cell of the head of its list. A call keeps it in its middle too, but for the one span that is on
-- its way from one list to another. Assumes nothing.
use Rattle.std.specs.Prelude.{◌≡◌, ℕ, ◌+◌, ◌<◌, ◌≤◌}
use Rattle.tables.specs.declared.ClassHeap.{ClassHeap}
use Rattle.tables.specs.Shape.{Shape, row_of}
use Rattle.tables.specs.Cells.{Tables, class_at, owner_at, occupied_at, previous_at, next_at, head_cell, head_at, partial_list, full_list, empty_list, reserve}
use Rattle.linked_list.specs.Named.{RowName, no_list, ListedIn}
use Rattle.sound.specs.Sound.{home_of, Belongs}
use Rattle.sound.specs.Filled.{Filled}

-- a span with n of m slots occupied may be in list f: "partial means neither empty nor full, a reserve is empty, the others as named"
pub record Fits (f n m : ℕ) : Type 0 where
  pub low : f ≤ reserve
  pub some : f ≡ partial_list → 0 < n
  pub room : f ≡ partial_list → n < m
  pub all : f ≡ full_list → n ≡ m
  pub none : empty_list ≤ f → n ≡ 0

-- c is the head of a list of its owner and class that span s may be in
pub record AtHome (g : Shape) (t : Tables) (s c : ℕ) : Type 0 where
  pub kind : ℕ
  pub cell : c ≡ head_cell (row_of g (owner_at t s) (class_at t s)) kind
  pub fits : Fits kind (occupied_at t s) (home_of g t s).slots

-- the table is filled, its lists are linked both ways, and each used span is at home but for the one that the link x names
pub record Near (g : Shape) (t : Tables) (home rank : ℕ → ℕ) (x : ℕ) : Type 0 where
  pub filled : Filled g t
  pub listed : ListedIn (RowName g) t home rank
  pub homes : (s : ℕ) → s < t.used → (s + 1 ≡ x → ⊥) → AtHome g t s (home s)

-- every used span is at home
pub record Whole (g : Shape) (t : Tables) : Type 0 where
  pub home : ℕ → ℕ
  pub rank : ℕ → ℕ
  pub near : Near g t home rank 0

-- but that span a, in list f of k, may have another count than that list's name says
pub record Loose (g : Shape) (t : Tables) (k : ClassHeap) (f a : ℕ) : Type 0 where
  pub home : ℕ → ℕ
  pub rank : ℕ → ℕ
  pub near : Near g t home rank (a + 1)
  pub belongs : Belongs t k a
  pub mine : home a ≡ head_cell k.row f

-- but that span a of k is in no list and has no links
pub record But (g : Shape) (t : Tables) (k : ClassHeap) (a : ℕ) : Type 0 where
  pub home : ℕ → ℕ
  pub rank : ℕ → ℕ
  pub near : Near g t home rank (a + 1)
  pub belongs : Belongs t k a
  pub out : home a ≡ no_list
  pub top : previous_at t a ≡ 0
  pub down : next_at t a ≡ 0

-- the front partial span of k has room for a claim; it may be empty
pub record Ready (g : Shape) (t : Tables) (k : ClassHeap) : Type 0 where
  pub span : ℕ
  pub loose : Loose g t k partial_list span
  pub front : head_at t k partial_list ≡ span + 1
  pub room : occupied_at t span < k.slots

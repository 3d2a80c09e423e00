-- What a sound table is, clause by clause as 01 has it ("A table is sound exactly when"), over any list of slot sizes. It speaks of used spans and of
-- entries below a count only: "Unused spans and entries at or above a count may hold anything." Assumes nothing.
use Rattle.std.specs.Prelude.{◌≡◌, true, false, not, cond, ℕ, ◌+◌, ◌^◌, ◌<◌, ◌≤◌, eqb}
use Rattle.laws.specs.Choice.{sum}
use Rattle.laws.specs.Links.{All, times, Chain}
use Rattle.laws.specs.Word.{all_ones, is_set}
use Rattle.size_classes.specs.Slots.{most_slots}
use Rattle.tables.specs.declared.ClassHeap.{ClassHeap}
use Rattle.tables.specs.Shape.{Shape, classes, class_heap, bitmap_cells}
use Rattle.tables.specs.Cells.{Tables, bitmap_word, local_summary, local_word, remote_summary, remote_word, class_at, owner_at, occupied_at, previous_at, next_at, head_at, partial_list, full_list, empty_list, reserve, count_at, entry_at, entry_span, entry_slot}
use Rattle.linked_list.specs.Lists.{list_of}
use Rattle.span.specs.State.{is_occupied, is_pending}

-- the class of one heap that span s is of
abbrev pub home_of : Shape → Tables → ℕ → ClassHeap
home_of g t s = class_heap g (owner_at t s) (class_at t s)

-- the set bits of a span among its first n slots
abbrev pub set_bits : Tables → ℕ → ℕ → ℕ
set_bits t s n = sum n (λ q. cond (is_occupied t s q) 1 0)

-- how often span s stands in the lists and the reserve of one class of one heap
abbrev pub places_in : Tables → ClassHeap → ℕ → ℕ
places_in t k s =
    times s (list_of t k partial_list) + times s (list_of t k full_list) + times s (list_of t k empty_list) + times s (list_of t k reserve)

-- the cells of one used span, all but its place in a list
pub record SpanFilled (g : Shape) (t : Tables) (s : ℕ) : Type 0 where
  -- "with valid class and owner"
  pub class : class_at t s < classes g
  pub owner : owner_at t s < g.heaps
  -- a cell is a number of 64 bits
  pub word : (i : ℕ) → i < bitmap_cells → bitmap_word t s i < 2 ^ 64
  -- "occupied equals the in-range set bits"
  pub occupied : occupied_at t s ≡ set_bits t s (home_of g t s).slots
  -- "and those past the end are set"
  pub past : (q : ℕ) → q < most_slots → (home_of g t s).slots ≤ q → is_occupied t s q ≡ true
  -- "both summaries are right": a summary bit is set exactly when its word is all ones,
  pub summary : (i : ℕ) → i < 64 → is_set (bitmap_word t s local_summary) i ≡ eqb (bitmap_word t s (local_word i)) all_ones
  -- "a remote summary bit is set exactly when its word is not 0"
  pub remote : (i : ℕ) → i < 64 → is_set (bitmap_word t s remote_summary) i ≡ not (eqb (bitmap_word t s (remote_word i)) 0)
  -- "a pending bit stands only on an occupied slot in range"
  pub pending : (q : ℕ) → q < most_slots → is_pending t s q ≡ true → (q < (home_of g t s).slots) × (is_occupied t s q ≡ true)

pub record SpanSound (g : Shape) (t : Tables) (s : ℕ) : Type 0 where
  pub cells : SpanFilled g t s
  -- "each is in one list or reserve of its owner and class"
  pub listed : places_in t (home_of g t s) s ≡ 1

-- a used span of that heap and class
pub record Belongs (t : Tables) (k : ClassHeap) (s : ℕ) : Type 0 where
  pub used : s < t.used
  pub class : class_at t s ≡ k.class
  pub owner : owner_at t s ≡ k.owner

-- an entry below the count
pub record EntrySound (t : Tables) (k : ClassHeap) (e : ℕ) : Type 0 where
  -- "slots of used spans, .. of that heap and class"
  pub belongs : Belongs t k (entry_span e)
  -- "in range, occupied, not pending"
  pub in_range : entry_slot e < k.slots
  pub occupied : is_occupied t (entry_span e) (entry_slot e) ≡ true
  pub not_pending : is_pending t (entry_span e) (entry_slot e) ≡ false

-- the magazine of one class of one heap
pub record MagazineSound (t : Tables) (k : ClassHeap) : Type 0 where
  -- "counts are within capacity"
  pub count : count_at t k ≤ k.capacity
  -- "magazine entries below the count are .. slots of used spans, in range, occupied, not pending, and of that heap and class"
  pub entries : (i : ℕ) → i < count_at t k → EntrySound t k (entry_at t k i)
  -- "distinct"
  pub distinct : (j : ℕ) → j < count_at t k → (i : ℕ) → i < j → entry_at t k i ≡ entry_at t k j → ⊥

-- one list of a class; `Named` is what its name says of a span's occupied count
pub record ListSound (t : Tables) (k : ClassHeap) (f : ℕ) (Named : ℕ → Type 0) : Type 0 where
  -- "linked both ways"
  pub linked : Chain (previous_at t) (next_at t) 0 (head_at t k f) (list_of t k f)
  -- "lists and reserves hold no other span"
  pub own : All (Belongs t k) (list_of t k f)
  -- "partial means neither empty nor full, a reserve is empty, the others as named"
  pub named : All (λ s. Named (occupied_at t s)) (list_of t k f)

abbrev pub Partial : ClassHeap → ℕ → Type 0
Partial k n = (0 < n) × (n < k.slots)

abbrev pub Full : ClassHeap → ℕ → Type 0
Full k n = n ≡ k.slots

abbrev pub Empty : ℕ → Type 0
Empty n = n ≡ 0

pub record ClassSound (t : Tables) (k : ClassHeap) : Type 0 where
  pub partial : ListSound t k partial_list (Partial k)
  pub full : ListSound t k full_list (Full k)
  pub empty : ListSound t k empty_list Empty
  pub kept : ListSound t k reserve Empty
  -- "a reserve with no links": none before it, as the first of a list, and none after it
  pub alone : All (λ s. next_at t s ≡ 0) (list_of t k reserve)
  pub magazine : MagazineSound t k

pub record Sound (g : Shape) (t : Tables) : Type 0 where
  -- "used spans are within the limit"
  pub within : t.used ≤ g.spans
  pub spans : (s : ℕ) → s < t.used → SpanSound g t s
  pub class_heaps : (h : ℕ) → h < g.heaps → (c : ℕ) → c < classes g → ClassSound t (class_heap g h c)

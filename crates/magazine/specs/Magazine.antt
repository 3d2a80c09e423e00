-- The steps of one magazine: push, pop, draw. Assumes nothing.
use Rattle.std.specs.Prelude.{Bool, List, [], ◌∷◌, ℕ, ◌+◌, ◌-◌, ◌%◌, eqb, leb}
use Rattle.tables.specs.declared.ClassHeap.{ClassHeap}
use Rattle.laws.specs.Choice.{some}
use Rattle.tables.specs.Cells.{Tables, counter, count_at, set_head, entry_at, set_entry}

-- "Refill first if the count is at or below low water"
abbrev pub needs_refill : Tables → ClassHeap → Bool
needs_refill t k = leb (count_at t k) k.low

abbrev pub is_full : Tables → ClassHeap → Bool
is_full t k = eqb (count_at t k) k.capacity

-- an entry on the top
unfoldable pub push_entry : Tables → ClassHeap → ℕ → Tables
push_entry t k e = set_head (set_entry t k (count_at t k) e) k counter (count_at t k + 1)

-- entries one after the other
unfoldable pub push_entries : List ℕ → Tables → ClassHeap → Tables
push_entries [] t k = t
push_entries (e ∷ es) t k = push_entries es (push_entry t k e) k

-- the top entry, and the magazine without it: "The top cell keeps its old value, as each popped one does."
abbrev pub top_entry : Tables → ClassHeap → ℕ
top_entry t k = entry_at t k (count_at t k - 1)

unfoldable pub pop_entry : Tables → ClassHeap → Tables
pop_entry t k = set_head t k counter (count_at t k - 1)

-- "entry (word mod count) leaves": which one
abbrev pub drawn_at : Tables → ClassHeap → ℕ → ℕ
drawn_at t k word = word % count_at t k

-- "and the top entry fills its place. The top cell keeps its old value"
unfoldable pub draw_entry : Tables → ClassHeap → ℕ → Tables
draw_entry t k word = set_head (set_entry t k (drawn_at t k word) (top_entry t k)) k counter (count_at t k - 1)

-- an entry stands below the count
unfoldable pub is_cached : Tables → ClassHeap → ℕ → Bool
is_cached t k e = some (count_at t k) (λ i. eqb (entry_at t k i) e)

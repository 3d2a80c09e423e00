-- The model of counts: what a call answers, and what it does to the numbers of cached blocks, of blocks out and of spans. Of the words lent it sees how
-- many there are, and no word. Assumes nothing.
use Rattle.std.specs.Prelude.{Bool, true, false, cond, List, [], ◌∷◌, ◌++◌, ℕ, ◌+◌, ◌-◌, ◌*◌, get_or, eqb, leb, ltb}
use Rattle.size_classes.specs.Class.{in_range, smallest_class}
use Rattle.tables.specs.declared.ClassHeap.{ClassHeap}
use Rattle.tables.specs.Shape.{Shape, class_heap}
use Rattle.calls.specs.Calls.{words_needed}

-- ---- one class of one heap

-- the blocks cached, the blocks out, and the spans
pub record Row : Type 0 where
  pub cached : ℕ
  pub out : ℕ
  pub spans : ℕ

abbrev pub row : ℕ → ℕ → ℕ → Row
row cached out spans = record { cached = cached; out = out; spans = spans }

-- the blocks of its spans that are neither cached nor out: free and pending together
abbrev pub spare : ClassHeap → Row → ℕ
spare k r = r.spans * k.slots - (r.cached + r.out)

-- a row, and the spans used by all
pub record Stock : Type 0 where
  pub row : Row
  pub used : ℕ

abbrev pub stock : Row → ℕ → Stock
stock r used = record { row = r; used = used }

-- a refill fills the magazine from what is spare; else from one new span, if one is unused; else it takes all that is spare
unfoldable pub refill_count : ℕ → ClassHeap → Row → ℕ → Stock
refill_count limit k r used =
    cond (leb k.capacity (r.cached + spare k r)) (stock (row k.capacity r.out r.spans) used)
    (cond (ltb used limit) (stock (row k.capacity r.out (r.spans + 1)) (used + 1))
    (stock (row (r.cached + spare k r) r.out r.spans) used))

-- a refill comes first where the count is at or below low water
unfoldable pub refill_first_count : ℕ → ClassHeap → Row → ℕ → Stock
refill_first_count limit k r used = cond (leb r.cached k.low) (refill_count limit k r used) (stock r used)

-- a draw moves one block from cached to out
abbrev pub draw_row : Row → Row
draw_row r = row (r.cached - 1) (r.out + 1) r.spans

-- a free by the owner moves one from out to cached, after a flush to low water where the magazine is full; by another heap one is out no more
unfoldable pub free_row : ClassHeap → Bool → Row → Row
free_row k true r = row (cond (eqb r.cached k.capacity) (k.low + 1) (r.cached + 1)) (r.out - 1) r.spans
free_row k false r = row r.cached (r.out - 1) r.spans

-- ---- all of them

-- whose block an accepted allocation gave
pub record Whose : Type 0 where
  pub heap : ℕ
  pub class : ℕ

abbrev pub whose : ℕ → ℕ → Whose
whose heap class = record { heap = heap; class = class }

-- the rows, the spans used, whose blocks the accepted allocations gave, in order, and which of them were freed
pub record Counts : Type 0 where
  pub rows : ℕ → ℕ → Row
  pub used : ℕ
  pub given : List Whose
  pub freed : List ℕ

abbrev pub counts : (ℕ → ℕ → Row) → ℕ → List Whose → List ℕ → Counts
counts rows used given freed = record { rows = rows; used = used; given = given; freed = freed }

-- of a fresh table
abbrev pub no_counts : Counts
no_counts = counts (λ h c. row 0 0 0) 0 [] []

-- the rows, with that of class c of heap h now r
unfoldable pub put_row : (ℕ → ℕ → Row) → ℕ → ℕ → Row → ℕ → ℕ → Row
put_row rows h c r x y = cond (eqb x h) (cond (eqb y c) r (rows x y)) (rows x y)

-- a call's number, and the counts after it
pub record Counted : Type 0 where
  pub number : ℕ
  pub counts : Counts

abbrev pub counted : ℕ → Counts → Counted
counted number m = record { number = number; counts = m }

-- ---- the calls

-- the draw from class c of heap h after its refill: 6 where nothing is cached
unfoldable pub draw_count : Counts → ℕ → ℕ → Stock → Counted
draw_count m h c x =
    cond (eqb x.row.cached 0) (counted 6 m)
    (counted 0 (counts (put_row m.rows h c (draw_row x.row)) x.used (m.given ++ (whose h c ∷ [])) m.freed))

-- an allocation with so many words lent: 3, 4, 5, and last 6 or a block
unfoldable pub allocate_count : Shape → Counts → ℕ → ℕ → ℕ → ℕ → Counted
allocate_count g m heap size alignment lent =
    cond (ltb heap g.heaps)
    (cond (leb words_needed lent)
    (cond (in_range g.sizes size alignment)
    (draw_count m heap (smallest_class g.sizes size alignment)
    (refill_first_count g.spans (class_heap g heap (smallest_class g.sizes size alignment))
    (m.rows heap (smallest_class g.sizes size alignment)) m.used))
    (counted 5 m))
    (counted 4 m))
    (counted 3 m)

-- block n, whose class and owner these are, goes back
unfoldable pub freed_count : Shape → Counts → ℕ → ℕ → Whose → Counted
freed_count g m heap n b =
    counted 0
    (counts
    (put_row m.rows b.heap b.class (free_row (class_heap g b.heap b.class) (eqb b.heap heap) (m.rows b.heap b.class)))
    m.used m.given (n ∷ m.freed))

-- a free, by a heap, of the block that accepted allocation n gave: 3, or done
unfoldable pub free_count : Shape → Counts → ℕ → ℕ → Counted
free_count g m heap n = cond (ltb heap g.heaps) (freed_count g m heap n (get_or m.given n (whose 0 0))) (counted 3 m)

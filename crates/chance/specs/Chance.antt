-- Demand 3, stated: "Run one list of calls twice from a fresh table of the same size. The random words lent differ, how many are lent at each call does
-- not. .. Then .. each call meets the same acceptance or the same refusal number, and after it each heap and class has equally many cached blocks, blocks
-- out and spans." Assumes nothing.
use Rattle.std.specs.Prelude.{◌≡◌, Bool, ◌&&◌, cond, List, [], ◌∷◌, ◌++◌, ℕ, suc, ◌<◌, length, get_or, eqb}
use Rattle.laws.specs.Members.{Mem}
use Rattle.tables.specs.declared.ClassHeap.{ClassHeap}
use Rattle.tables.specs.Shape.{Shape, classes, class_heap}
use Rattle.tables.specs.Cells.{Tables, fresh_tables, class_at, owner_at, count_at}
use Rattle.span.specs.State.{is_out}
use Rattle.calls.specs.Outcome.{Outcome}
use Rattle.calls.specs.Run.{Call, allocation, release, malformed, perform}
use Rattle.laws.specs.Pairs.{passing, pairs}
use Rattle.chance.specs.Counts.{Row, row, Counts, Counted, counted, allocate_count, free_count}

-- ---- what is counted

-- span s is of that class and heap
abbrev pub is_of : Tables → ClassHeap → ℕ → Bool
is_of t k s = eqb (class_at t s) k.class && eqb (owner_at t s) k.owner

-- the cached blocks, the blocks out and the spans of class c of heap h
unfoldable pub row_in : Shape → Tables → ℕ → ℕ → Row
row_in g t h c =
    row (count_at t (class_heap g h c))
    (pairs t.used (class_heap g h c).slots (λ s q. is_of t (class_heap g h c) s && is_out g t s q))
    (passing t.used (is_of t (class_heap g h c)))

-- ---- the calls of a list, and what they leave

-- an allocation; a free of the block that accepted allocation n gave, counted from 0; a record of a batch that is neither
pub data Request : Type 0 where
  allocating : (heap size alignment : ℕ) → Request
  freeing : (heap n : ℕ) → Request
  neither : Request

-- a block, by its span and offset
pub record Place : Type 0 where
  pub span : ℕ
  pub offset : ℕ

abbrev pub place : ℕ → ℕ → Place
place span offset = record { span = span; offset = offset }

-- the table, the blocks that accepted allocations gave, in order, and which of them accepted frees named
pub record State : Type 0 where
  pub table : Tables
  pub given : List Place
  pub freed : List ℕ

abbrev pub state : Tables → List Place → List ℕ → State
state t given freed = record { table = t; given = given; freed = freed }

-- a fresh table, and nothing given
abbrev pub begin : Tables → State
begin t = state (fresh_tables t) [] []

-- the block that accepted allocation n gave
abbrev pub given_at : State → ℕ → Place
given_at s n = get_or s.given n (place 0 0)

-- a call's number, and the state after it
pub record After : Type 0 where
  pub number : ℕ
  pub state : State

abbrev pub after : ℕ → State → After
after number s = record { number = number; state = s }

-- after an allocation: a block was given where it was accepted
unfoldable pub allocated : State → Outcome → After
allocated s o =
    after o.answer.number
    (state o.table (cond (eqb o.answer.number 0) (s.given ++ (place o.answer.span o.answer.offset ∷ [])) s.given) s.freed)

-- after a free: block n went back where it was accepted
unfoldable pub released : State → ℕ → Outcome → After
released s n o = after o.answer.number (state o.table s.given (cond (eqb o.answer.number 0) (n ∷ s.freed) s.freed))

-- the call that a request is in a state, with the words lent
abbrev pub call_of : State → Request → List ℕ → Call
call_of s (allocating heap size alignment) ws = allocation heap size alignment ws
call_of s (freeing heap n) ws = release heap (given_at s n).span (given_at s n).offset
call_of s neither ws = malformed

-- what its outcome leaves
abbrev pub leaves : State → Request → Outcome → After
leaves s (allocating heap size alignment) o = allocated s o
leaves s (freeing heap n) o = released s n o
leaves s neither o = after o.answer.number (state o.table s.given s.freed)

-- one call
unfoldable pub step : Shape → State → Request → List ℕ → After
step g s r ws = leaves s r (perform g s.table (call_of s r ws))

-- ---- the rule, and the demand

-- "Frees name the block that an earlier, n-th accepted allocation gave, each freed at most once": a free refused with 3 frees nothing
pub record Names (g : Shape) (s : State) (heap n : ℕ) : Type 0 where
  pub earlier : n < length s.given
  pub once : heap < g.heaps → Mem n s.freed → ⊥

-- the rule for a request; there is none but for frees
abbrev pub Allowed : Shape → State → Request → Type 0
Allowed g s (allocating heap size alignment) = Unit
Allowed g s (freeing heap n) = Names g s heap n
Allowed g s neither = Unit

-- each call of the list is allowed when it comes; call i is lent the words ws i
abbrev pub Ruled : Shape → State → List Request → (ℕ → List ℕ) → Type 0
Ruled g s [] ws = Unit
Ruled g s (r ∷ rs) ws = Allowed g s r × Ruled g (step g s r (ws 0)).state rs (λ i. ws (suc i))

-- "the same acceptance or the same refusal number, and after it each heap and class has equally many cached blocks, blocks out and spans"
pub record Same (g : Shape) (a b : After) : Type 0 where
  pub number : a.number ≡ b.number
  pub rows : (h c : ℕ) → h < g.heaps → c < classes g → row_in g a.state.table h c ≡ row_in g b.state.table h c

-- so it is at each call of the list, run from two states with two families of words
abbrev pub Alike : Shape → State → State → List Request → (ℕ → List ℕ) → (ℕ → List ℕ) → Type 0
Alike g s u [] v w = Unit
Alike g s u (r ∷ rs) v w =
    Same g (step g s r (v 0)) (step g u r (w 0)) ×
    Alike g (step g s r (v 0)).state (step g u r (w 0)).state rs (λ i. v (suc i)) (λ i. w (suc i))

-- as many words are lent to each call of the list
abbrev pub SameWords : List Request → (ℕ → List ℕ) → (ℕ → List ℕ) → Type 0
SameWords rs v w = (i : ℕ) → i < length rs → length (v i) ≡ length (w i)

-- ---- the model's call

-- the same request, with so many words lent, on counts alone
unfoldable pub count_step : Shape → Counts → Request → ℕ → Counted
count_step g m (allocating heap size alignment) lent = allocate_count g m heap size alignment lent
count_step g m (freeing heap n) lent = free_count g m heap n
count_step g m neither lent = counted 9 m

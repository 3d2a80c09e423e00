-- The steps of the smallest shape's one class, worked: 8 slots a span, a magazine of 8, low water 2. Assumes nothing.
use mathlib.Core.Path.{◌≡◌, refl}
use mathlib.Core.List.{List, [], ◌∷◌}
use Prim.Native.Nat.{ℕ, zero, suc}
use Rattle.tables.specs.Cells.{Tables, partial_list, full_list, counter, set_head, occupied_at}
use Rattle.linked_list.specs.Lists.{list_of}
use Rattle.span.specs.Span.{remote_free}
use Rattle.tables.proofs.Tiny.{one, blank}
use Rattle.class_heap.specs.Steps.{reactivate, replenish, refill, give_back, flush}
use Rattle.class_heap.proofs.Computed.{stepwise}

-- four words, of which each claim uses the next
abbrev words : List ℕ
words = 0 ∷ 256 ∷ 0 ∷ 0 ∷ []

-- the magazine full, all of span 0
abbrev filled : Tables
filled = (refill 8 3 (blank 3) one words 0).table

-- with all that the magazine held drawn, so that it is out
abbrev drawn_all : Tables → Tables
drawn_all t = set_head t one counter 0

-- spans 0 and 1 full and out
abbrev two_out : Tables
two_out = drawn_all (refill 8 3 (drawn_all filled) one words 0).table

-- slots 0 to n - 1 of span s given back, one after the other
abbrev given_back : ℕ → Tables → ℕ → Tables
given_back zero t s = t
given_back (suc n) t s = give_back (given_back n t s) one s n

-- spans 0 and then 1 given back whole
abbrev both_empty : Tables
both_empty = given_back 8 (given_back 8 two_out 0) 1

pub record WorkedSteps : Type 0 where
  -- one claim takes the eight slots, in ascending number, and the span goes to full
  pub refilled : filled.entries ≡ 0 ∷ 1 ∷ 2 ∷ 3 ∷ 4 ∷ 5 ∷ 6 ∷ 7 ∷ []
  pub heads : filled.heads ≡ 0 ∷ 1 ∷ 0 ∷ 0 ∷ 8 ∷ []
  pub claims : (refill 8 3 (blank 3) one words 0).words ≡ 1
  -- a full magazine claims nothing
  pub enough : (refill 8 3 filled one words 0).words ≡ 0
  -- flushed down to low water from the top; the popped cells keep their values, and the span is partial
  pub flushed : (flush 8 filled one).heads ≡ 1 ∷ 0 ∷ 0 ∷ 0 ∷ 2 ∷ []
  pub popped : (flush 8 filled one).entries ≡ filled.entries
  pub remaining : occupied_at (flush 8 filled one) 0 ≡ 2
  -- room for two of six: the second word, 256, begins at bit 4
  pub window : (refill 8 3 (set_head (flush 8 filled one) one counter 6) one words 1).table.entries ≡ 0 ∷ 1 ∷ 2 ∷ 3 ∷ 4 ∷ 5 ∷ 4 ∷ 5 ∷ []
  pub word : (refill 8 3 (set_head (flush 8 filled one) one counter 6) one words 1).words ≡ 2
  -- the newer full span is in front
  pub fulls : list_of two_out one full_list ≡ 1 ∷ 0 ∷ []
  -- pending frees of both: walked from the front, so that span 0 is placed last and stands in front
  pub walked : list_of (replenish 3 (remote_free (remote_free two_out 0 3) 1 5) one) one partial_list ≡ 0 ∷ 1 ∷ []
  pub reclaimed : occupied_at (replenish 3 (remote_free two_out 0 3) one) 0 ≡ 7
  -- the second empty span is the reserve, the first went to the empty list
  pub emptied : both_empty.heads ≡ 0 ∷ 0 ∷ 1 ∷ 2 ∷ 0 ∷ []
  -- the reserve comes back first, then the front of the empty list
  pub reactivated : (replenish 3 both_empty one).heads ≡ 2 ∷ 0 ∷ 1 ∷ 0 ∷ 0 ∷ []
  pub from_empty : (reactivate (reactivate both_empty one) one).heads ≡ 1 ∷ 0 ∷ 0 ∷ 0 ∷ 0 ∷ []
  -- with no span left nothing is found, and nothing is changed
  pub dry : replenish 2 two_out one ≡ two_out
  pub created : (replenish 3 two_out one).used ≡ 3

pub worked : WorkedSteps
unfolding stepwise
worked =
    record {
      refilled = refl;
      heads = refl;
      claims = refl;
      enough = refl;
      flushed = refl;
      popped = refl;
      remaining = refl;
      window = refl;
      word = refl;
      fulls = refl;
      walked = refl;
      reclaimed = refl;
      emptied = refl;
      reactivated = refl;
      from_empty = refl;
      dry = refl;
      created = refl;
    }

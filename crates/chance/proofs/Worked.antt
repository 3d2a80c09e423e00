-- Two runs of one list on 2 heaps and 1 span, with the words of two seeds: the first block is given at two places, its free by the other heap is done in
-- both, and the rows are equal. Assumes nothing.
use mathlib.Core.Path.{◌≡◌, refl}
use mathlib.Core.Bool.{true}
use mathlib.Core.List.{List, [], ◌∷◌}
use Prim.Native.Nat.{ℕ}
use native.Mathlib.Omega.{arith}
use lib.ListN.{replicate}
use Rattle.tables.specs.Shape.{Shape, base_shape}
use Rattle.tables.specs.Cells.{Tables, tables, as_stated}
use Rattle.calls.specs.Batch.{words_from}
use Rattle.calls.proofs.Computed.{computed}
use Rattle.laws.specs.Pairs.{passing, pairs}
use Rattle.chance.specs.Counts.{row}
use Rattle.chance.specs.Chance.{row_in, Request, allocating, freeing, State, begin, place, allocated, released, step, Ruled}

abbrev shape : Shape
shape = base_shape 2 1

abbrev blank : Tables
blank = tables (replicate 130 0) (replicate 5 0) (replicate 1584 0) (replicate 480 0) 0

-- heap 0 allocates the largest size, and heap 1 frees that block
abbrev requests : List Request
requests = allocating 0 131072 1 ∷ freeing 1 0 ∷ []

abbrev words : ℕ → ℕ → List ℕ
words seed i = words_from 65 seed

-- the state after the first call
abbrev after_first : ℕ → State
after_first seed = (step shape (begin blank) (allocating 0 131072 1) (words seed 0)).state

abbrev after_both : ℕ → State
after_both seed = (step shape (after_first seed) (freeing 1 0) (words seed 1)).state

-- what the two runs come to
pub record WorkedChance : Type 0 where
  pub stated : as_stated shape blank ≡ true
  -- the block is given at two places,
  pub here : (after_first 0).given ≡ place 0 655360 ∷ []
  pub there : (after_first 1).given ≡ place 0 786432 ∷ []
  -- and the rows of its class and heap are equal: 7 cached, 1 out and 1 span; then none out
  pub first_here : row_in shape (after_first 0).table 0 47 ≡ row 7 1 1
  pub first_there : row_in shape (after_first 1).table 0 47 ≡ row 7 1 1
  pub both_here : row_in shape (after_both 0).table 0 47 ≡ row 7 0 1
  pub both_there : row_in shape (after_both 1).table 0 47 ≡ row 7 0 1
  -- the list follows the rule
  pub ruled : Ruled shape (begin blank) requests (words 0)

-- It comes to that.
pub worked : WorkedChance
unfolding computed step allocated released row_in passing pairs
worked =
    record {
      stated = refl;
      here = refl;
      there = refl;
      first_here = refl;
      first_there = refl;
      both_here = refl;
      both_there = refl;
      ruled = (tt, (record { earlier = omega arith; once = λ l e. e }, tt));
    }

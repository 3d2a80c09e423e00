-- Every refusal of the single calls, in 01's order, on tables of the smallest shape; and 01's refusals with 7. Assumes nothing.
use mathlib.Core.Path.{◌≡◌, refl}
use mathlib.Core.List.{List, [], ◌∷◌}
use Prim.Native.Nat.{ℕ, ◌+◌, ◌^◌}
use lib.ListN.{replicate}
use Rattle.tables.specs.Shape.{Shape, base_shape}
use Rattle.tables.specs.Cells.{Tables, tables}
use Rattle.tables.specs.Fresh.{fresh}
use Rattle.calls.specs.Outcome.{Outcome, outcome, refused}
use Rattle.tables.proofs.Tiny.{tiny, blank}
use Rattle.calls.specs.Calls.{allocate, allocate_sound, free, free_sound}
use Rattle.calls.specs.Batch.{batch}
use Rattle.calls.specs.Summary.{summary}
use Rattle.calls.proofs.Computed.{computed}

abbrev words : ℕ → List ℕ
words n = replicate n 0

-- heap 0 of one heap and one span has one block, at the first slot
abbrev first : Outcome
first = allocate (tiny 1) (blank 1) 0 1 1 (words 65)

-- one span of 2730 slots of 48 bytes
abbrev forty_eight : Tables
forty_eight = (allocate_sound (base_shape 1 1) (tables (words 130) (words 5) (words 792) (words 240) 0) 0 48 1 (words 65)).table

-- a span with a second owner in play
abbrev two_heaps : Shape
two_heaps = record { sizes = 131072 ∷ []; most = 1024; heaps = 2; spans = 1 }

abbrev taken : Outcome
taken = allocate_sound two_heaps (tables (words 130) (words 5) (words 16) (words 10) 0) 0 1 1 (words 65)

pub record WorkedRefusals : Type 0 where
  -- 1 before 2: one span more than the lengths are for, and too many used
  pub one : (allocate (tiny 2) (tables (words 130) (words 5) (words 8) (words 5) 9) 0 1 1 (words 65)).answer.number ≡ 1
  pub one_fresh : (fresh (tiny 2) (tables (words 130) (words 5) (words 8) (words 5) 9)).number ≡ 1
  pub fresh_used : (fresh (tiny 1) (tables (words 130) (words 5) (words 8) (words 5) 9)).table ≡ blank 1
  -- 2 before 3
  pub two : (allocate (tiny 1) (tables (words 130) (words 5) (words 8) (words 5) 9) 7 1 1 (words 65)).answer.number ≡ 2
  pub two_free : (free (tiny 1) (tables (words 130) (words 5) (words 8) (words 5) 9) 7 0 0).answer.number ≡ 2
  -- 3 before 4, 4 before 5, 5 before 6
  pub three : allocate (tiny 1) (blank 1) 1 131073 1 (words 64) ≡ refused 3 (blank 1)
  pub four : allocate (tiny 1) (blank 1) 0 131073 1 (words 64) ≡ refused 4 (blank 1)
  pub five : allocate (tiny 1) (blank 1) 0 131073 1 (words 65) ≡ refused 5 (blank 1)
  pub five_aligned : allocate (tiny 1) (blank 1) 0 1 (2 ^ 63 + 1) (words 65) ≡ refused 5 (blank 1)
  -- the first block, with one claim and the draw
  pub granted : first.answer ≡ (outcome 0 0 0 2 (blank 1)).answer
  -- "An accepted free answers its own span and offset, words used 0."; again, it is cached: 8
  pub freed : (free (tiny 1) first.table 0 0 0).answer ≡ (outcome 0 0 0 0 (blank 1)).answer
  pub eight : (free (tiny 1) (free (tiny 1) first.table 0 0 0).table 0 0 0).answer.number ≡ 8
  -- a block that another heap freed is pending: 8, and not changed
  pub pending : (free_sound two_heaps (free_sound two_heaps taken.table 1 0 0).table 0 0 0).answer.number ≡ 8
  -- 7: a span not in use, an offset inside a slot, an offset past the last slot; 3 before 7
  pub seven : (free (tiny 1) first.table 0 1 0).answer.number ≡ 7
  pub inside : (free (tiny 1) first.table 0 0 1).answer.number ≡ 7
  pub beyond : (free (tiny 1) first.table 0 0 1048576).answer.number ≡ 7
  pub three_free : (free (tiny 1) first.table 1 1 0).answer.number ≡ 3
  -- "slot 48: .. 130993 and 131040 are refused with 7"; slot 2729 is free, and refused with 8
  pub P9inside : (free_sound (base_shape 1 1) forty_eight 0 0 130993).answer.number ≡ 7
  pub P9beyond : (free_sound (base_shape 1 1) forty_eight 0 0 131040).answer.number ≡ 7
  pub P9last : (free_sound (base_shape 1 1) forty_eight 0 0 130992).answer.number ≡ 8
  -- another heap finds nothing: 6
  pub six : allocate_sound two_heaps taken.table 1 1 1 (words 65) ≡ refused 6 taken.table
  -- batches: 1, then 10, then 2; and an empty one
  pub batch_one : (batch (tiny 2) (blank 1) (words 27) []).number ≡ 1
  pub batch_ten : (batch (tiny 1) (tables (words 130) (words 5) (words 8) (words 5) 9) (words 27) (words 3)).number ≡ 10
  pub batch_short : (batch (tiny 1) (blank 1) (words 28) (words 2)).number ≡ 10
  pub batch_two : (batch (tiny 1) (tables (words 130) (words 5) (words 8) (words 5) 9) (words 28) (words 3)).number ≡ 2
  pub batch_empty : (batch (tiny 1) (blank 1) [] []).number ≡ 0
  pub batch_nine : (batch (tiny 1) (blank 1) (words 28) (words 3)).answers ≡ 9 ∷ 0 ∷ 0 ∷ []
  -- the summary's 1 and 2; its records stay
  pub summary_one : (summary (tiny 1) (blank 1) (words 4)).number ≡ 1
  pub summary_two : (summary (tiny 1) (tables (words 130) (words 5) (words 8) (words 5) 9) (replicate 5 3)).records ≡ replicate 5 3
  pub summed : (summary (tiny 1) first.table (words 5)).records ≡ 1 ∷ 8 ∷ 8 ∷ 7 ∷ 0 ∷ []

pub worked : WorkedRefusals
unfolding computed
worked =
    record {
      one = refl;
      one_fresh = refl;
      fresh_used = refl;
      two = refl;
      two_free = refl;
      three = refl;
      four = refl;
      five = refl;
      five_aligned = refl;
      granted = refl;
      freed = refl;
      eight = refl;
      pending = refl;
      seven = refl;
      inside = refl;
      beyond = refl;
      three_free = refl;
      P9inside = refl;
      P9beyond = refl;
      P9last = refl;
      six = refl;
      batch_one = refl;
      batch_ten = refl;
      batch_short = refl;
      batch_two = refl;
      batch_empty = refl;
      batch_nine = refl;
      summary_one = refl;
      summary_two = refl;
      summed = refl;
    }

-- Allocate and free in the smallest shape's one class, worked. Assumes nothing.
use mathlib.Core.Path.{◌≡◌, refl}
use mathlib.Core.List.{List, [], ◌∷◌}
use Prim.Native.Nat.{ℕ, zero, suc}
use Rattle.tables.specs.Cells.{Tables}
use Rattle.class_heap.proofs.Computed.{stepwise}
use Rattle.tables.proofs.Tiny.{one, blank}
use Rattle.calls.specs.Outcome.{outcome}
use Rattle.calls.specs.Heap.{granted, draw, refill_first, alloc_small, flush_first, dealloc_local}

-- the claim takes all eight whatever its word; the draw's word is 5
abbrev words : List ℕ
words = 3 ∷ 5 ∷ 0 ∷ []

-- n blocks allocated, one after the other, each with the same words
abbrev allocated : ℕ → Tables
allocated zero = blank 2
allocated (suc n) = (alloc_small 2 (allocated n) one words).table

pub record WorkedHeap : Type 0 where
  -- one claim and the draw: slot 5, two words
  pub first : (alloc_small 2 (blank 2) one words).answer ≡ (outcome 0 0 655360 2 (blank 2)).answer
  -- above low water no claim is made, and the draw uses the first word: 3 of the seven left
  pub second : (alloc_small 2 (allocated 1) one words).answer ≡ (outcome 0 0 393216 1 (blank 2)).answer
  pub left : (alloc_small 2 (allocated 1) one words).table.entries ≡ 0 ∷ 1 ∷ 2 ∷ 6 ∷ 4 ∷ 7 ∷ 6 ∷ 7 ∷ []
  -- at low water the magazine is filled again, from a second span: six claimed, then the draw of entry 5
  pub refilled : (alloc_small 2 (allocated 6) one words).table.used ≡ 2
  pub claims : (alloc_small 2 (allocated 6) one words).answer.words ≡ 2
  -- no span left: the two that are cached go out, and then 6
  pub last : (alloc_small 1 (allocated 6) one words).answer.words ≡ 1
  pub six : (alloc_small 1 (alloc_small 1 (alloc_small 1 (allocated 6) one words).table one words).table one words).answer.number ≡ 6
  -- a free is pushed on the top
  pub pushed : (dealloc_local (allocated 1) one 0 5).heads ≡ 0 ∷ 1 ∷ 0 ∷ 0 ∷ 8 ∷ []
  -- on a full magazine it is pushed after a flush to low water
  pub flushed : (dealloc_local (dealloc_local (allocated 1) one 0 5) one 0 5).heads ≡ 1 ∷ 0 ∷ 0 ∷ 0 ∷ 3 ∷ []

pub worked : WorkedHeap
unfolding stepwise granted draw refill_first alloc_small flush_first dealloc_local
worked =
    record { first = refl; second = refl; left = refl; refilled = refl; claims = refl; last = refl; six = refl; pushed = refl; flushed = refl }

-- A free by the owner and one by another heap, worked. Assumes nothing.
use mathlib.Core.Path.{◌≡◌, refl}
use mathlib.Core.List.{[], ◌∷◌}
use lib.ListN.{get_or}
use Rattle.tables.specs.Cells.{Tables}
use Rattle.class_heap.proofs.Computed.{stepwise}
use Rattle.tables.proofs.Tiny.{one, blank}
use Rattle.calls.specs.Heap.{granted, draw, refill_first, alloc_small, flush_first, dealloc_local}
use Rattle.calls.specs.Primary.{dealloc_small}

-- heap 0 has slot 5 of span 0 out, and the other seven cached
abbrev held : Tables
held = (alloc_small 1 (blank 1) one (0 ∷ 5 ∷ [])).table

pub record WorkedFrees : Type 0 where
  pub own : (dealloc_small held one 0 0 5).heads ≡ 0 ∷ 1 ∷ 0 ∷ 0 ∷ 8 ∷ []
  pub own_pending : get_or (dealloc_small held one 0 0 5).bits 65 0 ≡ 0
  pub other : (dealloc_small held one 1 0 5).heads ≡ held.heads
  pub other_pending : get_or (dealloc_small held one 1 0 5).bits 66 0 ≡ 32

pub worked : WorkedFrees
unfolding stepwise granted draw refill_first alloc_small flush_first dealloc_local dealloc_small
worked = record { own = refl; own_pending = refl; other = refl; other_pending = refl }

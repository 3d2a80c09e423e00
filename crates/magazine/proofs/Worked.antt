-- 01's magazine draw, with the stale cell; push and pop. Assumes nothing.
use mathlib.Core.Path.{◌≡◌, refl}
use mathlib.Core.Bool.{true, false}
use mathlib.Core.List.{List, [], ◌∷◌}
use Prim.Native.Nat.{ℕ}
use Rattle.laws.specs.Choice.{some}
use Rattle.tables.specs.Shape.{head_cells}
use Rattle.tables.specs.Cells.{Tables, tables, head_cell, entry_at}
use Rattle.tables.proofs.Tiny.{one}
use Rattle.magazine.specs.Magazine.{needs_refill, push_entry, push_entries, pop_entry, drawn_at, draw_entry, is_cached}

abbrev holding : List ℕ → ℕ → Tables
holding entries count = tables [] [] entries (0 ∷ 0 ∷ 0 ∷ 0 ∷ count ∷ []) 1

-- "Magazine of slots 0..7"
abbrev eight : Tables
eight = holding (0 ∷ 1 ∷ 2 ∷ 3 ∷ 4 ∷ 5 ∷ 6 ∷ 7 ∷ []) 8

pub record WorkedMagazine : Type 0 where
  -- "draw word 5: slot 5; left 0,1,2,3,4,7,6", and the top cell keeps its 7
  pub drawn : entry_at eight one (drawn_at eight one 5) ≡ 5
  pub left : draw_entry eight one 5 ≡ holding (0 ∷ 1 ∷ 2 ∷ 3 ∷ 4 ∷ 7 ∷ 6 ∷ 7 ∷ []) 7
  -- a popped cell keeps its value; a pushed one takes the place above the count
  pub popped : pop_entry eight one ≡ holding (0 ∷ 1 ∷ 2 ∷ 3 ∷ 4 ∷ 5 ∷ 6 ∷ 7 ∷ []) 7
  pub pushed : push_entries (9 ∷ 8 ∷ []) (holding (3 ∷ 4 ∷ 5 ∷ 6 ∷ 7 ∷ []) 1) one ≡ holding (3 ∷ 9 ∷ 8 ∷ 6 ∷ 7 ∷ []) 3
  -- at low water a refill is due, above it not
  pub at_low : needs_refill (holding [] 2) one ≡ true
  pub above_low : needs_refill (holding [] 3) one ≡ false
  -- stale entries are not cached
  pub cached : is_cached (holding (5 ∷ 6 ∷ 7 ∷ []) 2) one 6 ≡ true
  pub stale : is_cached (holding (5 ∷ 6 ∷ 7 ∷ []) 2) one 7 ≡ false

pub worked : WorkedMagazine
unfolding some head_cells head_cell push_entry push_entries pop_entry draw_entry is_cached
worked =
    record { drawn = refl; left = refl; popped = refl; pushed = refl; at_low = refl; above_low = refl; cached = refl; stale = refl }

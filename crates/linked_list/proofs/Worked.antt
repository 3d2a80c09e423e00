-- Lists on a table of three spans and one class: push at the front, remove at the front, in the middle and at the end. Assumes nothing.
use mathlib.Core.Path.{◌≡◌, refl}
use mathlib.Core.List.{[], ◌∷◌}
use lib.ListN.{replicate}
use Rattle.laws.specs.Links.{walk}
use Rattle.tables.specs.Shape.{record_cells, head_cells}
use Rattle.tables.specs.Cells.{Tables, tables, span_cell, head_cell, full_list, empty_list}
use Rattle.tables.proofs.Tiny.{one}
use Rattle.linked_list.specs.Lists.{push, remove, pop, list_of}

abbrev none : Tables
none = tables [] (replicate 15 0) [] (replicate 5 0) 3

-- spans 0, 1 and 2 pushed on the full list, one after the other
abbrev three : Tables
three = push (push (push none one full_list 0) one full_list 1) one full_list 2

pub record WorkedLists : Type 0 where
  pub pushed : list_of three one full_list ≡ 2 ∷ 1 ∷ 0 ∷ []
  -- class, owner, occupied, previous, next of each
  pub links : three.spans ≡ 0 ∷ 0 ∷ 0 ∷ 2 ∷ 0 ∷ 0 ∷ 0 ∷ 0 ∷ 3 ∷ 1 ∷ 0 ∷ 0 ∷ 0 ∷ 0 ∷ 2 ∷ []
  pub heads : three.heads ≡ 0 ∷ 3 ∷ 0 ∷ 0 ∷ 0 ∷ []
  pub first : list_of (remove three one full_list 2) one full_list ≡ 1 ∷ 0 ∷ []
  pub middle : remove three one full_list 1 ≡ tables [] (0 ∷ 0 ∷ 0 ∷ 3 ∷ 0 ∷ 0 ∷ 0 ∷ 0 ∷ 0 ∷ 0 ∷ 0 ∷ 0 ∷ 0 ∷ 0 ∷ 1 ∷ []) [] (0 ∷ 3 ∷ 0 ∷ 0 ∷ 0 ∷ []) 3
  pub end : list_of (remove three one full_list 0) one full_list ≡ 2 ∷ 1 ∷ []
  pub popped : pop three one full_list ≡ remove three one full_list 2
  -- another list of the same row
  pub other : list_of (push (pop three one full_list) one empty_list 2) one empty_list ≡ 2 ∷ []

pub worked : WorkedLists
unfolding walk record_cells head_cells span_cell head_cell push remove pop
worked = record { pushed = refl; links = refl; heads = refl; first = refl; middle = refl; end = refl; popped = refl; other = refl }

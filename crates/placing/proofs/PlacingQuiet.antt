-- The steps that place a span, and those that take one to the partial list or from it, change links and heads of lists alone, whatever the table holds.
-- Assumes nothing.
use mathlib.Core.Bool.{cond}
use Prim.Native.Nat.{ℕ, ◌+◌, ◌-◌, ◌≤◌}
use native.Mathlib.Omega.{arith}
use lib.Dec.{eqb}
use Rattle.laws.proofs.CondLaws.{cond_both}
use Rattle.tables.specs.declared.ClassHeap.{ClassHeap}
use Rattle.tables.specs.Cells.{Tables, head_at, set_head, partial_list, full_list, empty_list, reserve}
use Rattle.linked_list.specs.Lists.{push, remove, pop}
use Rattle.linked_list.specs.Quiet.{Quiet}
use Rattle.linked_list.proofs.QuietLaws.{quiet_same, quiet_on, push_quiet, remove_quiet, pop_quiet, head_quiet}
use Rattle.span.specs.Span.{is_full, is_empty}
use Rattle.class_heap.specs.Steps.{demote, release_empty, place, refile, reactivate, if_full}

module _ (t : Tables) (k : ClassHeap) where
  -- The previous reserve to the empty list.
  pub demote_quiet : (x : ℕ) → Quiet t (demote t k x)
  unfolding demote
  demote_quiet x =
      cond_both (Quiet t) (eqb x 0) t (push t k empty_list (x - 1)) (λ e. quiet_same t)
      (λ e. push_quiet t k empty_list (omega arith) (x - 1))

-- An empty span to the reserve.
pub release_quiet : (t : Tables) (k : ClassHeap) (s : ℕ) → Quiet t (release_empty t k s)
unfolding release_empty
release_quiet t k s =
    quiet_on (head_quiet t k reserve (omega arith) (s + 1)) (demote_quiet (set_head t k reserve (s + 1)) k (head_at t k reserve))

-- A span to the list that its count names.
pub place_quiet : (t : Tables) (k : ClassHeap) (s : ℕ) → Quiet t (place t k s)
unfolding place
place_quiet t k s =
    cond_both (Quiet t) (is_empty t s) (release_empty t k s) (cond (is_full t k s) (push t k full_list s) (push t k partial_list s))
    (λ e. release_quiet t k s)
    (λ e.
    cond_both (Quiet t) (is_full t k s) (push t k full_list s) (push t k partial_list s) (λ d. push_quiet t k full_list (omega arith) s)
    (λ d. push_quiet t k partial_list (omega arith) s))

-- The same, out of another list.
pub refile_quiet : (t : Tables) (k : ClassHeap) (f : ℕ) → f ≤ reserve → (s : ℕ) → Quiet t (refile t k f s)
unfolding refile
refile_quiet t k f hf s = quiet_on (remove_quiet t k f hf s) (place_quiet (remove t k f s) k s)

-- An empty span to the partial list.
pub reactivate_quiet : (t : Tables) (k : ClassHeap) → Quiet t (reactivate t k)
unfolding reactivate
reactivate_quiet t k =
    let x = head_at t k reserve in
    let y = head_at t k empty_list in
    cond_both (Quiet t) (eqb x 0) (push (pop t k empty_list) k partial_list (y - 1)) (push (set_head t k reserve 0) k partial_list (x - 1))
    (λ e. quiet_on (pop_quiet t k empty_list (omega arith)) (push_quiet (pop t k empty_list) k partial_list (omega arith) (y - 1)))
    (λ e. quiet_on (head_quiet t k reserve (omega arith) 0) (push_quiet (set_head t k reserve 0) k partial_list (omega arith) (x - 1)))

-- A partial span to the full list, if it became full.
pub if_full_quiet : (t : Tables) (k : ClassHeap) (s : ℕ) → Quiet t (if_full t k s)
unfolding if_full
if_full_quiet t k s =
    cond_both (Quiet t) (is_full t k s) (push (remove t k partial_list s) k full_list s) t
    (λ e. quiet_on (remove_quiet t k partial_list (omega arith) s) (push_quiet (remove t k partial_list s) k full_list (omega arith) s))
    (λ e. quiet_same t)

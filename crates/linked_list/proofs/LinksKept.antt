-- Links in range stay in range under push, remove and pop, for their own row and for every other. Assumes nothing.
use mathlib.Core.Bool.{Bool, true, false, cond}
use mathlib.Core.List.{List}
use Prim.Native.Nat.{ℕ, ◌+◌, ◌-◌, ◌<◌, ◌≤◌}
use native.Mathlib.Omega.{arith}
use lib.ListN.{get_or, set, length-set}
use Rattle.laws.proofs.CellLaws.{at_set}
use Rattle.tables.specs.declared.ClassHeap.{ClassHeap}
use Rattle.tables.specs.Cells.{Tables, head_at, set_head}
use Rattle.linked_list.specs.Lists.{push, remove, pop}
use Rattle.linked_list.specs.Reach.{Links}
use Rattle.linked_list.proofs.ListCells.{push_spans_length, push_heads_length, remove_spans_length, remove_heads_length}

-- cells at most n stay so under a store of a number at most n, made or not
le_set : (n : ℕ) (l : List ℕ) (i j v : ℕ) → get_or l i 0 ≤ n → v ≤ n → get_or (set l j v) i 0 ≤ n
le_set n l i j v p q = at_set (λ (x : ℕ). x ≤ n) l i j v p q

-- a store that a test leaves out
le_if_not : (n : ℕ) (b : Bool) (l : List ℕ) (i j v : ℕ) → get_or l i 0 ≤ n → v ≤ n → get_or (cond b l (set l j v)) i 0 ≤ n
le_if_not n true l i j v p q = p
le_if_not n false l i j v p q = le_set n l i j v p q

-- a store that a test makes
le_if : (n : ℕ) (b : Bool) (l : List ℕ) (i j v : ℕ) → get_or l i 0 ≤ n → v ≤ n → get_or (cond b (set l j v) l) i 0 ≤ n
le_if n true l i j v p q = le_set n l i j v p q
le_if n false l i j v p q = p

-- none is in range
le_zero : (n : ℕ) → 0 ≤ n
le_zero n = omega arith

-- and so is the link to a span among the n
le_link : (n s : ℕ) → s < n → s + 1 ≤ n
le_link n s h = omega arith

ruleset within = (le_zero, le_link, le_set, le_if_not, le_if)

-- f is a list of k, whose front is at most n; `row` is any row whose lists are in range
module _ {n row : ℕ} (t : Tables) (k : ClassHeap) (f : ℕ) (r : Links n t.spans t.heads row) where
  -- a push keeps links in range
  pub push_links : (s : ℕ) → head_at t k f ≤ n → s < n → Links n (push t k f s).spans (push t k f s).heads row
  push_links s old hs =
      record {
        room = rw (push_spans_length t k f s) r.room;
        previous = λ i h. let x = r.previous i h in unfold push in search within;
        next = λ i h. let x = r.next i h in unfold push in search within;
        rows = λ g h. rw (push_heads_length t k f s) (r.rows g h);
        fronts = λ g h. let x = r.fronts g h in unfold push in search within;
      }

  -- a remove keeps links in range
  pub remove_links : (s : ℕ) → s < n → Links n (remove t k f s).spans (remove t k f s).heads row
  remove_links s hs =
      let p = r.previous s hs in
      let q = r.next s hs in
      record {
        room = rw (remove_spans_length t k f s) r.room;
        previous = λ i h. let x = r.previous i h in unfold remove in search within;
        next = λ i h. let x = r.next i h in unfold remove in search within;
        rows = λ g h. rw (remove_heads_length t k f s) (r.rows g h);
        fronts = λ g h. let x = r.fronts g h in unfold remove in search within;
      }

  -- a pop keeps links in range
  pub pop_links : head_at t k f ≤ n → 0 < head_at t k f → Links n (pop t k f).spans (pop t k f).heads row
  unfolding pop
  pop_links old some = remove_links (head_at t k f - 1) (omega arith)

  -- and so does a store to a head of a link in range
  pub put_links : (v : ℕ) → v ≤ n → Links n (set_head t k f v).spans (set_head t k f v).heads row
  put_links v hv =
      record {
        room = r.room;
        previous = r.previous;
        next = r.next;
        rows = λ g h. simp length-set (r.rows g h);
        fronts = λ g h. let x = r.fronts g h in search within;
      }

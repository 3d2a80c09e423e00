-- The steps of one class of one heap: place, reclaim, reactivate, create, replenish, refill, give back, flush. Assumes nothing.
use Rattle.std.specs.Prelude.{Bool, ◌&&◌, cond, List, ℕ, zero, suc, ◌+◌, ◌-◌, get_or, eqb, ltb}
use Rattle.occupancy.specs.declared.Claim.{Claim}
use Rattle.occupancy.specs.declared.Claimed.{Claimed}
use Rattle.occupancy.specs.declared.Claimed.TheVariants.{Nothing, Taken}
use Rattle.occupancy.specs.Occupied.{claim}
use Rattle.tables.specs.declared.ClassHeap.{ClassHeap}
use Rattle.tables.specs.Cells.{Tables, next_at, partial_list, full_list, empty_list, reserve, head_at, set_head, count_at, entry_span, entry_slot}
use Rattle.magazine.specs.Magazine.{push_entries, top_entry, pop_entry}
use Rattle.linked_list.specs.Lists.{push, remove, pop}
use Rattle.span.specs.Span.{loaded, stored, is_full, is_empty, has_pending, dealloc_slot, reclaim_pending, folded, claimed_entries, new_span}

-- ---- place

-- the previous reserve, if there was one, "goes to the front of the empty list"
unfoldable pub demote : Tables → ClassHeap → ℕ → Tables
demote t k x = cond (eqb x 0) t (push t k empty_list (x - 1))

-- "an empty span becomes the reserve and the previous reserve goes to the front of the empty list"
unfoldable pub release_empty : Tables → ClassHeap → ℕ → Tables
release_empty t k s = demote (set_head t k reserve (s + 1)) k (head_at t k reserve)

-- "Place: an empty span becomes the reserve .. A full span goes to full, another to partial."
unfoldable pub place : Tables → ClassHeap → ℕ → Tables
place t k s = cond (is_empty t s) (release_empty t k s) (cond (is_full t k s) (push t k full_list s) (push t k partial_list s))

-- span s "is unlinked and placed"
unfoldable pub refile : Tables → ClassHeap → ℕ → ℕ → Tables
refile t k f s = place (remove t k f s) k s

-- ---- replenish: a partial span at the front, if one can be had

-- a full span with pending frees is folded, unlinked and placed
unfoldable pub reclaim_one : Tables → ClassHeap → ℕ → Tables
reclaim_one t k s = cond (has_pending t s) (refile (reclaim_pending t s) k full_list s) t

-- "fold pending frees of all full spans, walking from the front and placing each one freed": n steps from the link x, the next link read first
unfoldable pub reclaim : ℕ → Tables → ClassHeap → ℕ → Tables
reclaim zero t k x = t
reclaim (suc n) t k x = cond (eqb x 0) t (reclaim n (reclaim_one t k (x - 1)) k (next_at t (x - 1)))

-- "take the reserve, else the front of the empty list"
unfoldable pub reactivate : Tables → ClassHeap → Tables
reactivate t k =
    cond (eqb (head_at t k reserve) 0)
    (push (pop t k empty_list) k partial_list (head_at t k empty_list - 1))
    (push (set_head t k reserve 0) k partial_list (head_at t k reserve - 1))

-- "the next unused span, written new", to the front of partial
unfoldable pub create : Tables → ClassHeap → Tables
create t k = push (new_span t k) k partial_list t.used

abbrev pub no_partial : Tables → ClassHeap → Bool
no_partial t k = eqb (head_at t k partial_list) 0

abbrev pub none_empty : Tables → ClassHeap → Bool
none_empty t k = eqb (head_at t k reserve) 0 && eqb (head_at t k empty_list) 0

-- "if partial is still empty, take the reserve, else the front of the empty list; else the next unused span .. With none, stop early."
unfoldable pub supply : ℕ → Tables → ClassHeap → Tables
supply limit t k =
    cond (no_partial t k) (cond (none_empty t k) (cond (ltb t.used limit) (create t k) t) (reactivate t k)) t

-- "With no partial span: fold pending frees of all full spans .."
unfoldable pub replenish : ℕ → Tables → ClassHeap → Tables
replenish limit t k = cond (no_partial t k) (supply limit (reclaim t.used t k (head_at t k full_list)) k) t

-- ---- refill

-- "and move it to the front of the full list if it became full"
unfoldable pub if_full : Tables → ClassHeap → ℕ → Tables
if_full t k s = cond (is_full t k s) (push (remove t k partial_list s) k full_list s) t

-- a claim's answer taken apart: "The slots enter the magazine in ascending number."; no claim leaves the step
unfoldable pub taken : Tables → ClassHeap → ℕ → Claimed → Tables
taken t k s Nothing = t
taken t k s (Taken i mask) = if_full (push_entries (claimed_entries s i mask) t k) k s

-- one claim, of span s, of as many slots as the magazine has room for
abbrev pub claim_of : Tables → ClassHeap → ℕ → ℕ → Claim
claim_of t k s word = claim (loaded t s) (k.capacity - count_at t k) word

unfoldable pub claim_from : Tables → ClassHeap → ℕ → ℕ → Tables
claim_from t k s word = taken (stored t s (claim_of t k s word).occupancy) k s (claim_of t k s word).answer

-- "take the front partial span, fold its pending frees in, claim"
unfoldable pub claim_front : Tables → ClassHeap → ℕ → Tables
claim_front t k word = claim_from (folded t (head_at t k partial_list - 1)) k (head_at t k partial_list - 1) word

-- the table, and how many words are used
pub record Refilled : Type 0 where
  pub table : Tables
  pub words : ℕ

abbrev pub refilled : Tables → ℕ → Refilled
refilled t i = record { table = t; words = i }

-- "Refill, until the magazine is full": at most n claims, each with the next word; "With none, stop early."
unfoldable pub refill : ℕ → ℕ → Tables → ClassHeap → List ℕ → ℕ → Refilled
refill zero limit t k ws i = refilled t i
refill (suc n) limit t k ws i =
    cond (ltb (count_at t k) k.capacity)
    (cond (no_partial (replenish limit t k) k) (refilled (replenish limit t k) i)
    (refill n limit (claim_front (replenish limit t k) k (get_or ws i 0)) k ws (i + 1)))
    (refilled t i)

-- ---- flush

-- "returning each slot to its span; a span that was full or is now empty is unlinked and placed"
unfoldable pub give_back : Tables → ClassHeap → ℕ → ℕ → Tables
give_back t k s q =
    cond (is_full t k s) (refile (dealloc_slot t s q) k full_list s)
    (cond (is_empty (dealloc_slot t s q) s) (refile (dealloc_slot t s q) k partial_list s) (dealloc_slot t s q))

-- the top entry popped, and its slot given back
unfoldable pub flush_one : Tables → ClassHeap → Tables
flush_one t k = give_back (pop_entry t k) k (entry_span (top_entry t k)) (entry_slot (top_entry t k))

-- "pop from the top down to low water", at most n entries
unfoldable pub flush : ℕ → Tables → ClassHeap → Tables
flush zero t k = t
flush (suc n) t k = cond (ltb k.low (count_at t k)) (flush n (flush_one t k) k) t

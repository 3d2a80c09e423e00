-- The steps of one class and heap leave the counts of the magazines of the others; and what a flush leaves in its own. Assumes nothing.
use mathlib.Core.Path.{◌≡◌, refl, ◌∙◌}
use mathlib.Core.Bool.{cond}
use mathlib.Core.List.{List, [], ◌∷◌}
use Prim.Native.Nat.{ℕ, zero, suc, ◌+◌, ◌-◌, ◌<◌, ◌≤◌}
use native.Mathlib.Omega.{arith}
use borrow.Author.Tests.{ltb-true, ltb-false}
use lib.Dec.{ltb}
use lib.ListN.{get_or}
use Rattle.laws.proofs.CondLaws.{cond_both}
use Rattle.occupancy.specs.declared.Claimed.{Claimed}
use Rattle.occupancy.specs.declared.Claimed.TheVariants.{Nothing, Taken}
use Rattle.tables.specs.declared.ClassHeap.{ClassHeap}
use Rattle.tables.specs.Cells.{Tables, partial_list, full_list, head_at, set_entry, count_at, entry_span, entry_slot}
use Rattle.magazine.specs.Held.{Apart}
use Rattle.magazine.specs.Magazine.{push_entry, push_entries, top_entry, pop_entry, drawn_at, draw_entry}
use Rattle.magazine.proofs.OtherMagazines.{only_counted, other_count}
use Rattle.linked_list.proofs.QuietLaws.{quiet_count}
use Rattle.span.specs.Span.{is_full, is_empty, has_pending, stored, dealloc_slot, reclaim_pending, folded, claimed_entries}
use Rattle.class_heap.specs.Steps.{refile, no_partial, replenish, taken, claim_of, claim_from, claim_front, refill, refilled, Refilled, give_back, flush_one, flush}
use Rattle.placing.specs.Working.{Working}
use Rattle.placing.proofs.PlacingQuiet.{refile_quiet, if_full_quiet}
use Rattle.replenishing.proofs.ReplenishingLaws.{replenish_count}
use Rattle.flushing.proofs.FlushingLaws.{give_back_count, flush_one_count, flush_one_working}

-- ---- the count of another magazine

module _ (k j : ClassHeap) (a : Apart k j) where
  -- A push leaves it,
  pub push_other : (t : Tables) (e : ℕ) → count_at (push_entry t k e) j ≡ count_at t j
  unfolding push_entry
  push_other t e = let v = set_entry t k (count_at t k) e in other_count v _ k j (only_counted v k (count_at t k + 1)) a

  -- and a pop,
  pop_other : (t : Tables) → count_at (pop_entry t k) j ≡ count_at t j
  unfolding pop_entry
  pop_other t = other_count t _ k j (only_counted t k (count_at t k - 1)) a

  -- and a draw.
  pub draw_other : (t : Tables) (word : ℕ) → count_at (draw_entry t k word) j ≡ count_at t j
  unfolding draw_entry
  draw_other t word =
      let v = set_entry t k (drawn_at t k word) (top_entry t k) in other_count v _ k j (only_counted v k (count_at t k - 1)) a

  pushes_other : (es : List ℕ) (t : Tables) → count_at (push_entries es t k) j ≡ count_at t j
  unfolding push_entries
  pushes_other [] t = refl
  pushes_other (e ∷ es) t = pushes_other es (push_entry t k e) ∙ push_other t e

  -- A claim.
  taken_other : (t : Tables) (s : ℕ) (x : Claimed) → count_at (taken t k s x) j ≡ count_at t j
  unfolding taken
  taken_other t s Nothing = refl
  taken_other t s (Taken i mask) =
      let es = claimed_entries s i mask in quiet_count (if_full_quiet (push_entries es t k) k s) j ∙ pushes_other es t

  claim_from_other : (t : Tables) (s word : ℕ) → count_at (claim_from t k s word) j ≡ count_at t j
  unfolding claim_from stored
  claim_from_other t s word = taken_other (stored t s (claim_of t k s word).occupancy) s (claim_of t k s word).answer

  folded_count_lem : (t : Tables) (s : ℕ) → count_at (folded t s) j ≡ count_at t j
  unfolding folded reclaim_pending stored
  folded_count_lem t s = cond_both (λ (u : Tables). count_at u j ≡ count_at t j) (has_pending t s) (reclaim_pending t s) t (λ e. refl) (λ e. refl)

  claim_front_other : (t : Tables) (word : ℕ) → count_at (claim_front t k word) j ≡ count_at t j
  unfolding claim_front
  claim_front_other t word =
      let s = head_at t k partial_list - 1 in claim_from_other (folded t s) s word ∙ folded_count_lem t s

  -- A refill.
  pub refill_other : (n limit : ℕ) (t : Tables) (ws : List ℕ) (i : ℕ) → count_at (refill n limit t k ws i).table j ≡ count_at t j
  unfolding refill
  refill_other zero limit t ws i = refl
  refill_other (suc n) limit t ws i =
      let v = replenish limit t k in
      let rest = refill n limit (claim_front v k (get_or ws i 0)) k ws (i + 1) in
      let P : Refilled → Type 0 = λ r. count_at r.table j ≡ count_at t j in
      let same = replenish_count limit t k j in
      cond_both P (ltb (count_at t k) k.capacity) (cond (no_partial v k) (refilled v i) rest) (refilled t i)
      (λ e.
      cond_both P (no_partial v k) (refilled v i) rest (λ d. same)
      (λ d. refill_other n limit (claim_front v k (get_or ws i 0)) ws (i + 1) ∙ claim_front_other v (get_or ws i 0) ∙ same))
      (λ e. refl)

  -- A flush.
  pub flush_other : (n : ℕ) (t : Tables) → count_at (flush n t k) j ≡ count_at t j
  unfolding flush flush_one
  flush_other zero t = refl
  flush_other (suc n) t =
      cond_both (λ (u : Tables). count_at u j ≡ count_at t j) (ltb k.low (count_at t k)) (flush n (flush_one t k) k) t
      (λ e.
      flush_other n (flush_one t k)
      ∙ give_back_count (pop_entry t k) k (entry_span (top_entry t k)) (entry_slot (top_entry t k)) j ∙ pop_other t)
      (λ e. refl)

-- ---- a flush, and its own magazine

-- A slot given back makes no span.
give_back_used : (t : Tables) (k : ClassHeap) (s q : ℕ) → (give_back t k s q).used ≡ t.used
unfolding give_back dealloc_slot stored
give_back_used t k s q =
    let u = dealloc_slot t s q in
    let P : Tables → Type 0 = λ v. v.used ≡ t.used in
    cond_both P (is_full t k s) (refile u k full_list s) (cond (is_empty u s) (refile u k partial_list s) u)
    (λ e. (refile_quiet u k full_list (omega arith) s).used)
    (λ e. cond_both P (is_empty u s) (refile u k partial_list s) u (λ d. (refile_quiet u k partial_list (omega arith) s).used) (λ d. refl))

-- A flush makes no span.
pub flush_used : (n : ℕ) (t : Tables) (k : ClassHeap) → (flush n t k).used ≡ t.used
unfolding flush flush_one pop_entry
flush_used zero t k = refl
flush_used (suc n) t k =
    cond_both (λ (u : Tables). u.used ≡ t.used) (ltb k.low (count_at t k)) (flush n (flush_one t k) k) t
    (λ e. flush_used n (flush_one t k) k ∙ give_back_used (pop_entry t k) k (entry_span (top_entry t k)) (entry_slot (top_entry t k)))
    (λ e. refl)

-- It goes down to low water.
pub flush_count :
    (i : ℕ) {n : ℕ} {k : ClassHeap} {t : Tables} → Working n k t → k.low ≤ count_at t k → count_at t k ≤ i + k.low →
    count_at (flush i t k) k ≡ k.low
unfolding flush
flush_count zero w l m = omega arith
flush_count (suc i) {n} {k} {t} w l m =
    cond_both (λ (u : Tables). count_at u k ≡ k.low) (ltb k.low (count_at t k)) (flush i (flush_one t k) k) t
    (λ e.
    let a = ltb-true k.low (count_at t k) e in
    let some : 0 < count_at t k = omega (arith, a) in
    let d = flush_one_count w some in
    flush_count i (flush_one_working w some) (omega (arith, d, a)) (omega (arith, d, m)))
    (λ e. omega (arith, ltb-false k.low (count_at t k) e, l))

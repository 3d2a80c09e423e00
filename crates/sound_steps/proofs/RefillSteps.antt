-- A refill keeps a table whole: its fronts are spans of the class and heap, each claim takes one slot at least, so the words used are few. Assumes
-- nothing.
use mathlib.Core.Path.{◌≡◌, refl, subst}
use mathlib.Core.Bool.{cond}
use mathlib.Core.List.{List}
use Prim.Native.Nat.{ℕ, zero, suc, ◌+◌, ◌-◌, ◌<◌, ◌≤◌}
use native.Mathlib.Omega.{arith}
use borrow.Author.Tests.{eqb-true, eqb-false, ltb-true}
use lib.Dec.{ltb}
use lib.ListN.{get_or}
use Rattle.laws.proofs.CondLaws.{cond_both}
use Rattle.tables.specs.Shape.{Shape, classes, class_heap}
use Rattle.tables.specs.Cells.{Tables, head_at, partial_list, count_at}
use Rattle.class_heap.specs.Steps.{no_partial, replenish, claim_front, refill, refilled, Refilled}
use Rattle.sound.specs.Sound.{Belongs}
use Rattle.replenishing.proofs.ReplenishingLaws.{replenish_count}
use Rattle.refilling.specs.Fronts.{Fronts}
use Rattle.homes.specs.Homes.{Whole}
use Rattle.sound_steps.proofs.ReplenishSteps.{supplied_whole, supplied_ready, replenish_kept}
use Rattle.sound_steps.proofs.ClaimSteps.{Claims, claim_front_claims}

module _ {g : Shape} {h c : ℕ} (hh : h < g.heaps) (hc : c < classes g) where
  module _ (limit : ℕ) (few : limit ≤ g.spans) where
    -- a turn of a refill
    pub turn_claims :
        {t : Tables} (o : Whole g t) → count_at t (class_heap g h c) < (class_heap g h c).capacity →
        (n : head_at (replenish limit t (class_heap g h c)) (class_heap g h c) partial_list ≡ 0 → ⊥) → (w : ℕ) →
        Claims g (replenish limit t (class_heap g h c)) (claim_front (replenish limit t (class_heap g h c)) (class_heap g h c) w) (class_heap g h c)
        (supplied_ready (replenish_kept hh hc limit few o) n).span
    turn_claims {t} o l n w =
        claim_front_claims hh hc (supplied_ready (replenish_kept hh hc limit few o) n) (rw (replenish_count limit t (class_heap g h c) (class_heap g h c)) l) w

    -- a refill
    pub refill_whole : (n : ℕ) {t : Tables} → Whole g t → (ws : List ℕ) (i : ℕ) → Whole g (refill n limit t (class_heap g h c) ws i).table
    unfolding refill
    refill_whole zero o ws i = o
    refill_whole (suc n) {t} o ws i =
        let k = class_heap g h c in
        let v = replenish limit t k in
        let s = replenish_kept hh hc limit few o in
        let rest = refill n limit (claim_front v k (get_or ws i 0)) k ws (i + 1) in
        cond_both (λ (r : Refilled). Whole g r.table) (ltb (count_at t k) k.capacity) (cond (no_partial v k) (refilled v i) rest) (refilled t i)
        (λ l.
        cond_both (λ (r : Refilled). Whole g r.table) (no_partial v k) (refilled v i) rest
        (λ e. supplied_whole s (eqb-true (head_at v k partial_list) 0 e))
        (λ e.
        refill_whole n (turn_claims o (ltb-true (count_at t k) k.capacity l) (eqb-false (head_at v k partial_list) 0 e) (get_or ws i 0)).whole ws (i + 1)))
        (λ l. o)

    -- the partial span that each turn finds at the front is of the class and heap
    pub whole_fronts : (n : ℕ) {t : Tables} → Whole g t → (ws : List ℕ) (i : ℕ) → Fronts n limit t (class_heap g h c) ws i
    unfolding Fronts
    whole_fronts zero o ws i = refl
    whole_fronts (suc n) {t} o ws i =
        λ l some.
        let k = class_heap g h c in
        let v = replenish limit t k in
        let e : head_at v k partial_list ≡ 0 → ⊥ = λ z. omega (arith, some, z) in
        let r = supplied_ready (replenish_kept hh hc limit few o) e in
        let q : r.span ≡ head_at v k partial_list - 1 = omega (arith, r.front) in (
          subst (Belongs v k) q r.loose.belongs,
          whole_fronts n (turn_claims o l e (get_or ws i 0)).whole ws (i + 1),
        )

    -- no more words are used than the magazine had room for
    pub refill_words :
        (n : ℕ) {t : Tables} → Whole g t → (ws : List ℕ) (i : ℕ) →
        (refill n limit t (class_heap g h c) ws i).words ≤ i + ((class_heap g h c).capacity - count_at t (class_heap g h c))
    unfolding refill
    refill_words zero o ws i = omega arith
    refill_words (suc n) {t} o ws i =
        let k = class_heap g h c in
        let v = replenish limit t k in
        let m = i + (k.capacity - count_at t k) in
        let u = claim_front v k (get_or ws i 0) in
        let rest = refill n limit u k ws (i + 1) in
        cond_both (λ (r : Refilled). r.words ≤ m) (ltb (count_at t k) k.capacity) (cond (no_partial v k) (refilled v i) rest) (refilled t i)
        (λ l.
        cond_both (λ (r : Refilled). r.words ≤ m) (no_partial v k) (refilled v i) rest (λ e. omega arith)
        (λ e.
        let room = ltb-true (count_at t k) k.capacity l in
        let q = turn_claims o room (eqb-false (head_at v k partial_list) 0 e) (get_or ws i 0) in
        omega (arith, room, q.counted, q.some, replenish_count limit t k k, refill_words n q.whole ws (i + 1))))
        (λ l. omega arith)

-- How a refill ends: with a full magazine, or with nothing left to claim; and what nothing left means for the blocks of the class and heap: each is
-- cached or out, and no span is unused. Assumes nothing.
use mathlib.Core.Path.{◌≡◌, refl, sym, ap, subst, ◌∙◌}
use mathlib.Core.Bool.{true, false, cond}
use mathlib.Core.List.{List}
use mathlib.Core.Logic.{◌⊎◌, inl, inr, ⊎_elim}
use Prim.Native.Nat.{ℕ, zero, suc, ◌+◌, ◌<◌, ◌≤◌}
use native.Mathlib.Nat.{lt_of_lt_of_le}
use native.Mathlib.Omega.{arith}
use borrow.Author.Tests.{eqb-true, eqb-false, ltb-true, ltb-false}
use lib.Dec.{ltb}
use lib.ListN.{get_or}
use Rattle.laws.proofs.CondLaws.{cond_both}
use Rattle.laws.proofs.FirstLaws.{tested}
use Rattle.laws.proofs.SumLaws.{all_counted}
use Rattle.tables.specs.declared.ClassHeap.{ClassHeap}
use Rattle.tables.specs.Shape.{Shape, classes, class_heap}
use Rattle.tables.specs.Cells.{Tables, head_at, partial_list, count_at}
use Rattle.span.specs.declared.BlockState.TheVariants.{Cached, Out}
use Rattle.span.specs.State.{is_occupied, is_pending, state_of}
use Rattle.class_heap.specs.Steps.{no_partial, replenish, claim_front, refill, refilled, Refilled}
use Rattle.sound.specs.Sound.{home_of, set_bits, Belongs}
use Rattle.sound.specs.Filled.{Filled}
use Rattle.sound.proofs.StateTests.{is_kept, cached_so, out_so}
use Rattle.filled_magazines.proofs.FilledFacts.{belongs_home, capacity_some, count_within}
use Rattle.filled_spans.proofs.SpanValues.{home_most}
use Rattle.filled_spans.proofs.ReclaimKept.{unset_slot}
use Rattle.replenishing.proofs.ReplenishingLaws.{replenish_count}
use Rattle.homes.specs.Homes.{Whole}
use Rattle.sound_steps.proofs.RefillSteps.{turn_claims}
use Rattle.sound_steps.proofs.DrySteps.{Dry, replenish_dry}

-- ---- what nothing left means

-- A block that is taken and not pending is cached or out.
taken_states :
    (g : Shape) (t : Tables) (s q : ℕ) → is_occupied t s q ≡ true → is_pending t s q ≡ false → (state_of g t s q ≡ Cached) ⊎ (state_of g t s q ≡ Out)
taken_states g t s q a b =
    ⊎_elim (λ c. inl (cached_so g t s q (record { occupied = a; not_pending = b; kept = c })))
    (λ c. inr (out_so g t s q (record { occupied = a; not_pending = b; not_kept = c })))
    (tested (is_kept g t s q))

-- Where there is nothing left, each block of each span of the class and heap is cached or out: none is free, and none is pending.
pub dry_states :
    {g : Shape} {t : Tables} {limit : ℕ} → Filled g t → (h c : ℕ) → Dry limit t (class_heap g h c) → (s q : ℕ) → Belongs t (class_heap g h c) s →
    q < (class_heap g h c).slots → (state_of g t s q ≡ Cached) ⊎ (state_of g t s q ≡ Out)
dry_states {g} {t} {limit} o h c d s q b l =
    let home = belongs_home g t h c s b in
    let inside : q < (home_of g t s).slots = rw home l in
    let full : set_bits t s (home_of g t s).slots ≡ (home_of g t s).slots =
    sym (o.spans s b.used).occupied ∙ d.full s b ∙ ap (λ (k : ClassHeap). k.slots) (sym home) in
    taken_states g t s q (all_counted (is_occupied t s) (home_of g t s).slots full q inside)
    (unset_slot g t o s b.used (d.none s b) q (lt_of_lt_of_le inside (home_most g t s)))

-- ---- how a refill ends

module _ {g : Shape} {h c : ℕ} (hh : h < g.heaps) (hc : c < classes g) where
  module _ (limit : ℕ) (few : limit ≤ g.spans) where
    -- With turns enough the magazine is full, or there is nothing left.
    pub refill_takes_all :
        (n : ℕ) {t : Tables} → Whole g t → (class_heap g h c).capacity ≤ count_at t (class_heap g h c) + n → (ws : List ℕ) (i : ℕ) →
        (count_at (refill n limit t (class_heap g h c) ws i).table (class_heap g h c) ≡ (class_heap g h c).capacity)
        ⊎ Dry limit (refill n limit t (class_heap g h c) ws i).table (class_heap g h c)
    unfolding refill
    refill_takes_all zero o m ws i = inl (omega (arith, m, count_within o.near.filled hh hc))
    refill_takes_all (suc n) {t} o m ws i =
        let k = class_heap g h c in
        let v = replenish limit t k in
        let rest = refill n limit (claim_front v k (get_or ws i 0)) k ws (i + 1) in
        let P : Refilled → Type 0 = λ r. (count_at r.table k ≡ k.capacity) ⊎ Dry limit r.table k in
        cond_both P (ltb (count_at t k) k.capacity) (cond (no_partial v k) (refilled v i) rest) (refilled t i)
        (λ l.
        cond_both P (no_partial v k) (refilled v i) rest
        (λ e.
        let d = replenish_dry hh hc limit few o (eqb-true (head_at v k partial_list) 0 e) in
        inr (subst (λ (u : Tables). Dry limit u k) (sym d.same) d))
        (λ e.
        let q = turn_claims hh hc limit few o (ltb-true (count_at t k) k.capacity l) (eqb-false (head_at v k partial_list) 0 e) (get_or ws i 0) in
        refill_takes_all n q.whole (omega (arith, m, q.counted, q.some, replenish_count limit t k k)) ws (i + 1)))
        (λ l. inl (omega (arith, ltb-false (count_at t k) k.capacity l, count_within o.near.filled hh hc)))

    -- A refill that claims nothing changes nothing: the count grows with every claim.
    pub refill_grows :
        (n : ℕ) {t : Tables} → Whole g t → (ws : List ℕ) (i : ℕ) →
        (refill n limit t (class_heap g h c) ws i ≡ refilled t i)
        ⊎ (count_at t (class_heap g h c) < count_at (refill n limit t (class_heap g h c) ws i).table (class_heap g h c))
    unfolding refill
    refill_grows zero o ws i = inl refl
    refill_grows (suc n) {t} o ws i =
        let k = class_heap g h c in
        let v = replenish limit t k in
        let u = claim_front v k (get_or ws i 0) in
        let rest = refill n limit u k ws (i + 1) in
        let P : Refilled → Type 0 = λ r. (r ≡ refilled t i) ⊎ (count_at t k < count_at r.table k) in
        cond_both P (ltb (count_at t k) k.capacity) (cond (no_partial v k) (refilled v i) rest) (refilled t i)
        (λ l.
        cond_both P (no_partial v k) (refilled v i) rest
        (λ e. inl (ap (λ (x : Tables). refilled x i) (replenish_dry hh hc limit few o (eqb-true (head_at v k partial_list) 0 e)).same))
        (λ e.
        let q = turn_claims hh hc limit few o (ltb-true (count_at t k) k.capacity l) (eqb-false (head_at v k partial_list) 0 e) (get_or ws i 0) in
        let more : count_at t k < count_at u k = omega (arith, q.counted, q.some, replenish_count limit t k k) in
        inr
        (⊎_elim (λ d. subst (λ (r : Refilled). count_at t k < count_at r.table k) (sym d) more) (λ d. omega (arith, more, d))
        (refill_grows n q.whole ws (i + 1)))))
        (λ l. inl refl)

    -- A refill that ends with an empty magazine did nothing, as there was nothing left.
    pub refill_dry_at_once :
        (n : ℕ) {t : Tables} → Whole g t → (class_heap g h c).capacity ≤ n → (ws : List ℕ) (i : ℕ) →
        count_at (refill n limit t (class_heap g h c) ws i).table (class_heap g h c) ≡ 0 →
        (refill n limit t (class_heap g h c) ws i ≡ refilled t i) × Dry limit t (class_heap g h c)
    refill_dry_at_once n {t} o m ws i z =
        let k = class_heap g h c in
        let r = refill n limit t k ws i in
        let same : r ≡ refilled t i =
        ⊎_elim (λ e. e) (λ l. absurd (let y : ⊥ = omega (arith, z, l) in y)) (refill_grows n o ws i) in (
          same,
          subst (λ (r : Refilled). Dry limit r.table k) same
              (⊎_elim (λ e. absurd (let y : ⊥ = omega (arith, z, e, capacity_some g h c) in y)) (λ d. d)
              (refill_takes_all n o (omega (arith, m)) ws i)),
        )

-- A refill creates one span at most: a new span has as many slots as the magazine has room, so the claims of the refill end in it. Assumes nothing.
use mathlib.Core.Path.{◌≡◌, refl, ap, subst, ◌∙◌}
use mathlib.Core.Bool.{cond}
use mathlib.Core.List.{List}
use mathlib.Core.Logic.{◌⊎◌, inl, inr, ⊎_elim}
use Prim.Native.Nat.{ℕ, zero, suc, ◌+◌, ◌-◌, ◌<◌, ◌≤◌}
use native.Mathlib.Omega.{arith}
use borrow.Author.Tests.{eqb-true, eqb-false, ltb-true}
use lib.Dec.{ltb}
use lib.ListN.{get_or}
use Rattle.laws.proofs.CondLaws.{cond_both}
use Rattle.tables.specs.declared.ClassHeap.{ClassHeap}
use Rattle.tables.specs.Shape.{Shape, classes, class_heap}
use Rattle.tables.specs.Cells.{Tables, occupied_at, head_at, partial_list, full_list, count_at}
use Rattle.linked_list.proofs.QuietLaws.{push_quiet, quiet_occupied}
use Rattle.span.specs.Span.{new_span}
use Rattle.class_heap.specs.Steps.{no_partial, none_empty, reactivate, create, supply, reclaim, replenish, claim_front, refill, refilled, Refilled}
use Rattle.sound.specs.Filled.{Filled}
use Rattle.filled_magazines.proofs.FilledFacts.{capacity_in_span}
use Rattle.filled_spans.proofs.NewSpanKept.{new_record_lem, new_kept}
use Rattle.placing.proofs.PlacingQuiet.{reactivate_quiet}
use Rattle.reclaiming.proofs.ReclaimingLaws.{reclaim_used}
use Rattle.replenishing.proofs.ReplenishingLaws.{create_used, replenish_none, replenish_count}
use Rattle.homes.specs.Homes.{Whole, Ready}
use Rattle.homes.proofs.HomesMoved.{front_member, push_front}
use Rattle.sound_steps.proofs.ReclaimSteps.{reclaimed_whole}
use Rattle.sound_steps.proofs.ReplenishSteps.{supplied_ready, replenish_kept}
use Rattle.sound_steps.proofs.ClaimSteps.{claim_front_claims}

-- from t to u one span was created, and it is the front partial span, empty
pub record Made (t u : Tables) (k : ClassHeap) : Type 0 where
  pub used : u.used ≡ t.used + 1
  pub empty : (s : ℕ) → head_at u k partial_list ≡ s + 1 → occupied_at u s ≡ 0

-- no span was created, or one
abbrev pub MadeFew : Tables → ClassHeap → Tables → Type 0
MadeFew t k u = (u.used ≡ t.used) ⊎ Made t u k

-- one at most is one more at most
pub made_few : {t u : Tables} {k : ClassHeap} → MadeFew t k u → u.used ≤ t.used + 1
made_few s = ⊎_elim (λ e. omega arith) (λ m. omega (arith, m.used)) s

-- the front partial span has a slot for each entry that the magazine has room for
pub record Stocked (t : Tables) (k : ClassHeap) : Type 0 where
  pub span : ℕ
  pub front : head_at t k partial_list ≡ span + 1
  pub enough : occupied_at t span + (k.capacity - count_at t k) ≤ k.slots

module _ {g : Shape} {h c : ℕ} (hh : h < g.heaps) (hc : c < classes g) where
  -- ---- what a replenish creates

  -- a new span
  create_made : {t : Tables} → Filled g t → t.used < g.spans → Made t (create t (class_heap g h c)) (class_heap g h c)
  create_made {t} f l =
      let k = class_heap g h c in
      let u = new_span t k in
      record {
        used = create_used t k;
        empty =
            λ s e.
            let here : head_at (create t k) k partial_list ≡ t.used + 1 = unfold create in push_front hh hc t.used (omega arith) (new_kept g t f l h c hh hc) in
            let z : t.used ≡ s = omega arith in
            subst (λ (x : ℕ). occupied_at (create t k) x ≡ 0) z
            (unfold create in quiet_occupied (push_quiet u k partial_list (omega arith) t.used) t.used ∙ (new_record_lem g t f l h c hh hc).occupied);
      }

  module _ (limit : ℕ) (few : limit ≤ g.spans) where
    -- a supply
    pub supply_made : {t : Tables} → Filled g t → MadeFew t (class_heap g h c) (supply limit t (class_heap g h c))
    unfolding supply
    supply_made {t} f =
        let k = class_heap g h c in
        let P = MadeFew t k in
        cond_both P (no_partial t k) (cond (none_empty t k) (cond (ltb t.used limit) (create t k) t) (reactivate t k)) t
        (λ e.
        cond_both P (none_empty t k) (cond (ltb t.used limit) (create t k) t) (reactivate t k)
        (λ d. cond_both P (ltb t.used limit) (create t k) t (λ l. inr (create_made f (omega (arith, ltb-true t.used limit l)))) (λ l. inl refl))
        (λ d. inl (reactivate_quiet t k).used))
        (λ e. inl refl)

    -- a replenish
    pub replenish_made : {t : Tables} → Whole g t → MadeFew t (class_heap g h c) (replenish limit t (class_heap g h c))
    unfolding replenish
    replenish_made {t} o =
        let k = class_heap g h c in
        let x = head_at t k full_list in
        let v = reclaim t.used t k x in
        let same = reclaim_used t.used t k x in
        cond_both (MadeFew t k) (no_partial t k) (supply limit v k) t
        (λ e.
        ⊎_elim (λ z. inl (z ∙ same)) (λ m. inr (record { used = m.used ∙ ap (λ (n : ℕ). n + 1) same; empty = m.empty }))
        (supply_made (reclaimed_whole hh hc o).near.filled))
        (λ e. inl refl)

    -- ---- a span with slots enough

    -- it has enough after a claim
    stocked_after :
        {t : Tables} (r : Ready g t (class_heap g h c)) →
        occupied_at t r.span + ((class_heap g h c).capacity - count_at t (class_heap g h c)) ≤ (class_heap g h c).slots →
        count_at t (class_heap g h c) < (class_heap g h c).capacity → (w : ℕ) →
        count_at (claim_front t (class_heap g h c) w) (class_heap g h c) < (class_heap g h c).capacity → Stocked (claim_front t (class_heap g h c) w) (class_heap g h c)
    stocked_after {t} r enough free w l =
        let q = claim_front_claims hh hc r free w in
        record {
          span = r.span;
          front = q.front (omega (arith, enough, free, l, q.counted, q.occupied)) ∙ r.front;
          enough = omega (arith, enough, free, l, q.counted, q.occupied);
        }

    -- so the rest of the refill creates none
    stocked_used :
        (n : ℕ) {t : Tables} → Whole g t → (count_at t (class_heap g h c) < (class_heap g h c).capacity → Stocked t (class_heap g h c)) →
        (ws : List ℕ) (i : ℕ) → (refill n limit t (class_heap g h c) ws i).table.used ≡ t.used
    unfolding refill
    stocked_used zero o s ws i = refl
    stocked_used (suc n) {t} o s ws i =
        let k = class_heap g h c in
        let v = replenish limit t k in
        let w = get_or ws i 0 in
        let rest = refill n limit (claim_front v k w) k ws (i + 1) in
        cond_both (λ (r : Refilled). r.table.used ≡ t.used) (ltb (count_at t k) k.capacity) (cond (no_partial v k) (refilled v i) rest) (refilled t i)
        (λ l.
        let free = ltb-true (count_at t k) k.capacity l in
        let x = s free in
        let m = front_member hh hc o (omega arith) x.front in
        let r : Ready g t k = record { span = x.span; loose = m.0; front = x.front; room = m.1.room refl } in
        let q = claim_front_claims hh hc r free w in
        let same : t ≡ v = replenish_none limit t k (λ e. omega (arith, x.front)) in
        cond_both (λ (r : Refilled). r.table.used ≡ t.used) (no_partial v k) (refilled v i) rest
        (λ e. absurd (let z : ⊥ = omega (arith, eqb-true (head_at v k partial_list) 0 e, ap (λ (u : Tables). head_at u k partial_list) same, x.front) in z))
        (λ e.
        subst (λ (u : Tables). (refill n limit (claim_front u k w) k ws (i + 1)).table.used ≡ t.used) same
        (stocked_used n q.whole (stocked_after r x.enough free w) ws (i + 1) ∙ q.used)))
        (λ l. refl)

    -- ---- a refill creates one span at most
    pub refill_used :
        (n : ℕ) {t : Tables} → Whole g t → (ws : List ℕ) (i : ℕ) → (refill n limit t (class_heap g h c) ws i).table.used ≤ t.used + 1
    unfolding refill
    refill_used zero o ws i = omega arith
    refill_used (suc n) {t} o ws i =
        let k = class_heap g h c in
        let v = replenish limit t k in
        let w = get_or ws i 0 in
        let rest = refill n limit (claim_front v k w) k ws (i + 1) in
        let made = replenish_made o in
        cond_both (λ (r : Refilled). r.table.used ≤ t.used + 1) (ltb (count_at t k) k.capacity) (cond (no_partial v k) (refilled v i) rest) (refilled t i)
        (λ l.
        cond_both (λ (r : Refilled). r.table.used ≤ t.used + 1) (no_partial v k) (refilled v i) rest (λ e. made_few made)
        (λ e.
        let free = ltb-true (count_at t k) k.capacity l in
        let some = eqb-false (head_at v k partial_list) 0 e in
        let r = supplied_ready (replenish_kept hh hc limit few o) some in
        let room : count_at v k < k.capacity = rw (replenish_count limit t k k) free in
        let q = claim_front_claims hh hc r room w in
        ⊎_elim (λ z. omega (arith, z, q.used, refill_used n q.whole ws (i + 1)))
        (λ m.
        let enough : occupied_at v r.span + (k.capacity - count_at v k) ≤ k.slots = omega (arith, m.empty r.span r.front, capacity_in_span g h c) in
        omega (arith, m.used, q.used, stocked_used n q.whole (stocked_after r enough room w) ws (i + 1)))
        made))
        (λ l. omega arith)

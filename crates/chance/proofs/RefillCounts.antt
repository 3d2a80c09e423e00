-- A refill follows the model of counts: it ends with a full magazine, or with nothing spare and no span unused, and it makes a span only where nothing is
-- spare. Assumes nothing.
use mathlib.Core.Path.{◌≡◌, refl, sym, ap, subst, ◌∙◌}
use mathlib.Core.Bool.{cond}
use mathlib.Core.List.{List}
use mathlib.Core.Logic.{◌⊎◌, inl, inr, ⊎_elim}
use Prim.Native.Nat.{ℕ, zero, suc, ◌+◌, ◌*◌, ◌^◌, ◌<◌, ◌≤◌}
use native.Mathlib.Nat.{le_refl}
use native.Mathlib.Decide.{ℕ_discrete}
use native.Mathlib.Omega.{arith}
use borrow.Author.Tests.{eqb-true, eqb-false, ltb-true}
use lib.Dec.{ltb}
use lib.ListN.{get_or}
use Rattle.laws.proofs.CondLaws.{cond_both}
use Rattle.size_classes.specs.Slots.{most_slots}
use Rattle.tables.specs.declared.ClassHeap.{ClassHeap}
use Rattle.tables.specs.Shape.{Shape, classes, class_heap}
use Rattle.tables.specs.Cells.{Tables, head_at, partial_list, full_list, count_at}
use Rattle.linked_list.proofs.QuietLaws.{push_quiet}
use Rattle.span.specs.Span.{new_span}
use Rattle.class_heap.specs.Steps.{no_partial, none_empty, reactivate, create, supply, reclaim, replenish, claim_front, refill, refilled, Refilled}
use Rattle.sound.specs.Sound.{Belongs}
use Rattle.filled_magazines.proofs.FilledFacts.{count_within, capacity_in_span}
use Rattle.placing.specs.Working.{Working}
use Rattle.placing.proofs.PlacingQuiet.{reactivate_quiet}
use Rattle.reclaiming.proofs.ReclaimingLaws.{reclaim_used}
use Rattle.replenishing.proofs.ReplenishingLaws.{create_used, supply_out, replenish_made, replenish_working}
use Rattle.claiming.specs.Claimable.{Fronted}
use Rattle.refilling.proofs.RefillingLaws.{fronts_here}
use Rattle.homes.specs.Homes.{Whole}
use Rattle.outs.specs.Outs.{SameSpans, SameOuts}
use Rattle.outs.proofs.OutsLaws.{quiet_spans, spans_then, spans_belongs, same_outs, same_outs_then}
use Rattle.outs.proofs.FillsLaws.{Fills, fills_outs, fills_then, replenish_fills}
use Rattle.outs.proofs.ClaimFills.{claim_front_fills, refill_outs}
use Rattle.sound_steps.proofs.ReclaimSteps.{reclaimed_whole}
use Rattle.sound_steps.proofs.ReplenishSteps.{new_but}
use Rattle.sound_steps.proofs.DrySteps.{Dry, replenish_dry}
use Rattle.sound_steps.proofs.RefillSteps.{turn_claims, refill_whole, whole_fronts}
use Rattle.chance.specs.Counts.{stock, refill_count}
use Rattle.chance.specs.Chance.{row_in}
use Rattle.laws.proofs.PairsLaws.{one}
use Rattle.sound_steps.proofs.RefillEnds.{refill_takes_all}
use Rattle.chance.proofs.RowTests.{belongs_passes, same_spans, one_span, same_out}
use Rattle.chance.proofs.CachedCounts.{rows_within, rows_all}
use Rattle.chance.proofs.ModelLaws.{Held, Grown, Kept, refill_is_count}

-- from t to u a span of k was created, as one was unused and nothing of k was free or pending
record Created (limit : ℕ) (t u : Tables) (k : ClassHeap) : Type 0 where
  used : u.used ≡ t.used + 1
  unused : t.used < limit
  belongs : Belongs u k t.used
  dry : Dry t.used t k

-- the same of a supply, where nothing else can be had
record Supplies (limit : ℕ) (t u : Tables) (k : ClassHeap) : Type 0 where
  used : u.used ≡ t.used + 1
  unused : t.used < limit
  belongs : Belongs u k t.used
  none : head_at t k partial_list ≡ 0
  stays : t ≡ supply t.used t k

module _ (g : Shape) (h c : ℕ) (hh : h < g.heaps) (hc : c < classes g) where
  abbrev k : ClassHeap
  k = class_heap g h c

  -- ---- numbers of a whole table

  -- its row is held
  pub whole_held : {t : Tables} → Whole g t → Held k (row_in g t h c)
  whole_held o = record { within = rows_within o.near.filled hh hc; fits = unfold row_in in count_within o.near.filled hh hc }

  module _ (limit : ℕ) (few : limit ≤ g.spans) where
    -- where nothing is left all are cached or out
    dry_all : {n : ℕ} {t : Tables} → Whole g t → Dry n t k → (row_in g t h c).cached + (row_in g t h c).out ≡ (row_in g t h c).spans * k.slots
    dry_all o d = rows_all o.near.filled hh hc d.full d.none

    -- ---- when a span is created

    supply_created : {t : Tables} → Whole g t → ((supply limit t k).used ≡ t.used) ⊎ Supplies limit t (supply limit t k) k
    unfolding supply
    supply_created {t} o =
        let P : Tables → Type 0 = λ u. (u.used ≡ t.used) ⊎ Supplies limit t u k in
        cond_both P (no_partial t k) (cond (none_empty t k) (cond (ltb t.used limit) (create t k) t) (reactivate t k)) t
        (λ e.
        cond_both P (none_empty t k) (cond (ltb t.used limit) (create t k) t) (reactivate t k)
        (λ d.
        cond_both P (ltb t.used limit) (create t k) t
        (λ l.
        let m = ltb-true t.used limit l in
        let z = eqb-true (head_at t k partial_list) 0 e in
        inr
        (record {
          used = create_used t k;
          unused = m;
          belongs =
              unfold create in spans_belongs (quiet_spans (push_quiet (new_span t k) k partial_list (omega arith) t.used)) (new_but hh hc o (omega (arith, m, few))).belongs;
          none = z;
          stays = supply_out t.used t k z d (le_refl t.used);
        }))
        (λ l. inl refl))
        (λ d. inl (reactivate_quiet t k).used))
        (λ e. inl refl)

    replenish_created : {t : Tables} → Whole g t → ((replenish limit t k).used ≡ t.used) ⊎ Created limit t (replenish limit t k) k
    unfolding replenish
    replenish_created {t} o =
        let x = head_at t k full_list in
        let v = reclaim t.used t k x in
        let same = reclaim_used t.used t k x in
        cond_both (λ (u : Tables). (u.used ≡ t.used) ⊎ Created limit t u k) (no_partial t k) (supply limit v k) t
        (λ e.
        ⊎_elim (λ z. inl (z ∙ same))
        (λ s.
        let y : v ≡ supply t.used v k = subst (λ (n : ℕ). v ≡ supply n v k) same s.stays in
        let w : v ≡ replenish t.used t k = replenish_made t.used t k v v (eqb-true (head_at t k partial_list) 0 e) refl y in
        inr
        (record {
          used = s.used ∙ ap (λ (n : ℕ). n + 1) same;
          unused = rw (← same) s.unused;
          belongs = subst (Belongs (supply limit v k) k) same s.belongs;
          dry =
              replenish_dry hh hc t.used o.near.filled.within o
              (ap (λ (u : Tables). head_at u k partial_list) (sym w) ∙ s.none);
        }))
        (supply_created (reclaimed_whole hh hc o)))
        (λ e. inl refl)

    module _ (small : g.spans * most_slots ≤ 2 ^ 64) where
      -- ---- a turn

      -- a whole table works for the class and heap
      abbrev pub working : {t : Tables} → Whole g t → Working limit k t
      working o =
          record {
            shape = g;
            heap = h;
            class = c;
            in_heaps = hh;
            in_classes = hc;
            named = refl;
            limited = few;
            few = small;
            filled = o.near.filled;
          }

      -- the claim of a turn
      front_fills :
          {t : Tables} (o : Whole g t) → count_at t k < k.capacity → (head_at (replenish limit t k) k partial_list ≡ 0 → ⊥) → (ws : List ℕ) (i : ℕ) →
          Fills g (replenish limit t k) (claim_front (replenish limit t k) k (get_or ws i 0))
      front_fills {t} o l n ws i =
          let some : 0 < head_at (replenish limit t k) k partial_list = omega (arith, n) in
          let x : Fronted limit k (replenish limit t k) =
          record {
            some = some;
            own =
                record {
                  working = replenish_working (working o);
                  belongs = fronts_here 1 limit t k ws i (omega arith) (whole_fronts hh hc limit few 1 o ws i) l some;
                };
          } in
          claim_front_fills x (get_or ws i 0)

      -- ---- the refill

      -- the spans that a refill makes: one at most, of the class and heap, and only where what is spare would not fill the magazine
      record Makes (t u : Tables) : Type 0 where
        own : (s : ℕ) → t.used ≤ s → s < u.used → Belongs u k s
        grew : Kept (row_in g t h c) t.used (row_in g u h c) u.used ⊎ Grown limit k (row_in g t h c) t.used (row_in g u h c) u.used

      -- no span more
      kept_so : {t u : Tables} → SameOuts g t u → u.used ≡ t.used → Kept (row_in g t h c) t.used (row_in g u h c) u.used
      kept_so a e = record { used = e; spans = same_spans g h c a.spans e }

      makes_none : (t : Tables) → Makes t t
      makes_none t = record { own = λ s l m. absurd (let w : ⊥ = omega arith in w); grew = inl (kept_so (same_outs g t) refl) }

      -- after a turn that makes no span
      makes_then : {t v u : Tables} → SameOuts g t v → v.used ≡ t.used → Makes v u → Makes t u
      makes_then {t} {v} {u} a e z =
          let s = same_spans g h c a.spans e in
          let q = same_out g h c a in
          record {
            own = λ s l m. z.own s (omega (arith, l, e)) m;
            grew =
                ⊎_elim (λ x. inl (record { used = x.used ∙ e; spans = x.spans ∙ s }))
                (λ x.
                inr
                (record {
                  used = x.used ∙ ap (λ (n : ℕ). n + 1) e;
                  spans = x.spans ∙ ap (λ (n : ℕ). n + 1) s;
                  unused = rw (← e) x.unused;
                  short = omega (arith, x.short, q, ap (λ (n : ℕ). n * k.slots) s);
                }))
                z.grew;
          }

      -- a span was made of it
      grown_so :
          {t v u : Tables} → Whole g t → count_at t k < k.capacity → Created limit t v k → SameSpans v u → SameOuts g t u → u.used ≡ t.used + 1 →
          Grown limit k (row_in g t h c) t.used (row_in g u h c) u.used
      grown_so {t} {v} {u} o l x a b e =
          record {
            used = e;
            spans = one_span g h c b.spans e ∙ ap (λ (n : ℕ). (row_in g t h c).spans + n) (ap one (belongs_passes (spans_belongs a x.belongs)));
            unused = x.unused;
            short = let n : (row_in g t h c).cached ≡ count_at t k = unfold row_in in refl in omega (arith, dry_all o x.dry, l, n);
          }

      refill_makes : (n : ℕ) {t : Tables} → Whole g t → (ws : List ℕ) (i : ℕ) → Makes t (refill n limit t k ws i).table
      unfolding refill
      refill_makes zero {t} o ws i = makes_none t
      refill_makes (suc n) {t} o ws i =
          let v = replenish limit t k in
          let w = get_or ws i 0 in
          let u = claim_front v k w in
          let rest = refill n limit u k ws (i + 1) in
          let P : Refilled → Type 0 = λ r. Makes t r.table in
          cond_both P (ltb (count_at t k) k.capacity) (cond (no_partial v k) (refilled v i) rest) (refilled t i)
          (λ a.
          let l = ltb-true (count_at t k) k.capacity a in
          cond_both P (no_partial v k) (refilled v i) rest
          (λ e.
          let d = replenish_dry hh hc limit few o (eqb-true (head_at v k partial_list) 0 e) in
          subst (Makes t) (sym d.same) (makes_none t))
          (λ e.
          let some = eqb-false (head_at v k partial_list) 0 e in
          let q = turn_claims hh hc limit few o l some w in
          let z = refill_makes n q.whole ws (i + 1) in
          let f = front_fills o l some ws i in
          let a : SameOuts g t u = fills_outs (fills_then (replenish_fills (working o)) f) in
          let b = refill_outs n (working q.whole) ws (i + 1) (whole_fronts hh hc limit few n q.whole ws (i + 1)) in
          ⊎_elim (λ s. makes_then a (q.used ∙ s) z)
          (λ x.
          record {
            own =
                λ s l m.
                elim (ℕ_discrete t.used s) [
                  | yes y ↦ subst (Belongs rest.table k) y (spans_belongs (spans_then f.spans b.spans) x.belongs)
                  | no y ↦ z.own s (omega (arith, l, y, q.used, x.used)) m
                ];
            grew =
                ⊎_elim
                (λ y. inr (grown_so o l x (spans_then f.spans b.spans) (same_outs_then a b) (y.used ∙ q.used ∙ x.used)))
                (λ y.
                let p = grown_so o l x f.spans a (q.used ∙ x.used) in
                let s : (row_in g u h c).spans * k.slots ≡ (row_in g t h c).spans * k.slots + k.slots = ap (λ (n : ℕ). n * k.slots) p.spans ∙ omega arith in
                absurd
                (let w : ⊥ = omega (arith, y.short, s, same_out g h c a, (whole_held o).within, capacity_in_span g h c) in w))
                z.grew;
          })
          (replenish_created o)))
          (λ a. makes_none t)

      module _ {t : Tables} (o : Whole g t) (ws : List ℕ) where
        abbrev last : Tables
        last = (refill k.capacity limit t k ws 0).table

        -- The same blocks are out after a refill,
        pub refilled_outs : SameOuts g t last
        refilled_outs = refill_outs k.capacity (working o) ws 0 (whole_fronts hh hc limit few k.capacity o ws 0)

        -- the table is whole,
        pub refilled_whole : Whole g last
        refilled_whole = refill_whole hh hc limit few k.capacity o ws 0

        -- each span that it made is of the class and heap,
        pub refilled_new : (s : ℕ) → t.used ≤ s → s < last.used → Belongs last k s
        refilled_new = (refill_makes k.capacity o ws 0).own

        -- and its row and the spans used are the model's.
        pub refilled_row : stock (row_in g last h c) last.used ≡ refill_count limit k (row_in g t h c) t.used
        refilled_row =
            let n : (row_in g last h c).cached ≡ count_at last k = unfold row_in in refl in
            refill_is_count limit k (row_in g t h c) (row_in g last h c) t.used last.used (capacity_in_span g h c) (whole_held o) (whole_held refilled_whole)
            (same_out g h c refilled_outs) (refill_makes k.capacity o ws 0).grew
            (⊎_elim (λ e. inl (omega (arith, e, n))) (λ d. inr (record { all = dry_all refilled_whole d; unused = d.used }))
            (refill_takes_all hh hc limit few k.capacity o (omega arith) ws 0))

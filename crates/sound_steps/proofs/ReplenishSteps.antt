-- A partial span for a claim: reactivate, create, supply and replenish leave a table whole, or ready for a claim. Assumes nothing.
use mathlib.Core.Path.{◌≡◌, refl, ap, subst, ◌∙◌}
use mathlib.Core.Bool.{cond}
use mathlib.Core.List.{List}
use mathlib.Core.Logic.{◌⊎◌, inl, inr, ⊎_elim}
use Prim.Native.Nat.{ℕ, ◌+◌, ◌-◌, ◌<◌, ◌≤◌}
use native.Mathlib.Omega.{arith}
use native.Mathlib.Decide.{ℕ_discrete}
use borrow.Author.Tests.{eqb-true, eqb-false, ltb-true}
use lib.Dec.{eqb, ltb}
use lib.ListN.{get_or}
use Rattle.laws.specs.Listed.{changed}
use Rattle.laws.proofs.CondLaws.{cond_both}
use Rattle.laws.proofs.ListedLaws.{changed_same, changed_other, listed_as, listed_homes}
use Rattle.tables.specs.declared.ClassHeap.{ClassHeap}
use Rattle.tables.specs.Shape.{Shape, classes, class_heap}
use Rattle.tables.specs.Cells.{Tables, class_field, owner_field, occupied_field, previous_field, next_field, head_at, set_head, partial_list, full_list, empty_list, reserve}
use Rattle.linked_list.specs.Lists.{push, remove, pop}
use Rattle.linked_list.specs.Named.{RowName, ListName, no_list}
use Rattle.linked_list.proofs.ListedKept.{no_list_lem}
use Rattle.linked_list.proofs.QuietLaws.{remove_quiet, quiet_occupied}
use Rattle.span.specs.Span.{new_span}
use Rattle.class_heap.specs.Steps.{no_partial, none_empty, reactivate, create, supply, reclaim, replenish}
use Rattle.filled_spans.proofs.NewSpanKept.{new_only, new_record_lem, new_kept}
use Rattle.replenishing.proofs.ReplenishingLaws.{some_empty}
use Rattle.homes.specs.Homes.{Whole, But, Ready}
use Rattle.homes.proofs.HomesFrame.{home_as}
use Rattle.homes.proofs.HomesMoved.{front_member, push_ready, remove_kept, take_kept}
use Rattle.sound_steps.proofs.ReclaimSteps.{reclaimed_whole}

-- ---- what there is to take

-- the partial list is empty and the table whole, or a claim may be made
abbrev pub Supplied : Shape → ClassHeap → Tables → Type 0
Supplied g k u = ((head_at u k partial_list ≡ 0) × Whole g u) ⊎ Ready g u k

-- with no partial span the table is whole
pub supplied_whole : {g : Shape} {k : ClassHeap} {u : Tables} → Supplied g k u → head_at u k partial_list ≡ 0 → Whole g u
supplied_whole s e = ⊎_elim (λ p. p.1) (λ r. absurd (let z : ⊥ = omega (arith, r.front) in z)) s

-- with one, a claim may be made
pub supplied_ready : {g : Shape} {k : ClassHeap} {u : Tables} → Supplied g k u → (head_at u k partial_list ≡ 0 → ⊥) → Ready g u k
supplied_ready s n = ⊎_elim (λ p. absurd (n p.0)) (λ r. r) s

module _ {g : Shape} {h c : ℕ} (hh : h < g.heaps) (hc : c < classes g) where
  module _ {t : Tables} (o : Whole g t) where
    -- the reserve, or else the front of the empty list, to the front of partial
    pub reactivate_ready :
        0 < head_at t (class_heap g h c) reserve + head_at t (class_heap g h c) empty_list → Ready g (reactivate t (class_heap g h c)) (class_heap g h c)
    unfolding reactivate pop
    reactivate_ready some =
        let k = class_heap g h c in
        let x = head_at t k reserve in
        let y = head_at t k empty_list in
        cond_both (λ u. Ready g u k) (eqb x 0) (push (remove t k empty_list (y - 1)) k partial_list (y - 1))
        (push (set_head t k reserve 0) k partial_list (x - 1))
        (λ e.
        let n : y ≡ y - 1 + 1 = omega (arith, eqb-true x 0 e) in
        let m = front_member hh hc o (omega arith) n in
        push_ready hh hc (remove_kept hh hc (omega arith) m.0)
        (quiet_occupied (remove_quiet t k empty_list (omega arith) (y - 1)) (y - 1) ∙ m.1.none (omega arith)))
        (λ e.
        let n : x ≡ x - 1 + 1 = omega (arith, eqb-false x 0 e) in
        let m = take_kept hh hc o n in
        push_ready hh hc m.0 m.1)

    -- the next unused span, written new, is in no list
    pub new_but : t.used < g.spans → But g (new_span t (class_heap g h c)) (class_heap g h c) t.used
    new_but l =
        let k = class_heap g h c in
        let u = new_span t k in
        let f = o.near.filled in
        let q = new_only g t f l h c hh hc in
        let r = new_record_lem g t f l h c hh hc in
        let old : (s : ℕ) → ListName (RowName g) (o.home s) → s ≡ t.used → ⊥ = λ s i e. omega (arith, o.near.listed.within s i) in
        record {
          home = changed o.home t.used no_list;
          rank = o.rank;
          near =
              record {
                filled = new_kept g t f l h c hh hc;
                listed =
                    listed_homes (λ s i. changed_other o.home t.used no_list s (old s i)) (λ s i. back s i (ℕ_discrete s t.used))
                    (listed_as (let e : t.used ≤ u.used = omega (arith, r.used) in e)
                    (λ s i. q.fields s previous_field (omega arith) (old s i)) (λ s i. q.fields s next_field (omega arith) (old s i))
                    (λ c i. ap (λ (l : List ℕ). get_or l c 0) q.heads) o.near.listed);
                homes =
                    λ s i n.
                    let v : s < t.used = omega (arith, r.used, n) in
                    let d : s ≡ t.used → ⊥ = λ e. omega arith in
                    home_as
                    (record {
                      class = q.fields s class_field (omega arith) d;
                      owner = q.fields s owner_field (omega arith) d;
                      occupied = q.fields s occupied_field (omega arith) d;
                    })
                    (changed_other o.home t.used no_list s d) (o.near.homes s v (λ e. omega arith));
              };
          belongs = record { used = omega (arith, r.used); class = r.class; owner = r.owner };
          out = changed_same o.home t.used no_list;
          top = r.previous;
          down = r.next;
        }
      where
        back : (s : ℕ) → ListName (RowName g) (changed o.home t.used no_list s) → Dec (s ≡ t.used)
            → changed o.home t.used no_list s ≡ o.home s
        back s i (yes e) =
            absurd (no_list_lem (RowName g) (subst (ListName (RowName g)) (ap (changed o.home t.used no_list) e ∙ changed_same o.home t.used no_list) i))
        back s i (no n) = changed_other o.home t.used no_list s n

    -- and goes to the front of partial
    pub create_ready : t.used < g.spans → Ready g (create t (class_heap g h c)) (class_heap g h c)
    unfolding create
    create_ready l = push_ready hh hc (new_but l) (new_record_lem g t o.near.filled l h c hh hc).occupied

    -- the front of a partial list that has one
    pub front_ready : 0 < head_at t (class_heap g h c) partial_list → Ready g t (class_heap g h c)
    front_ready l =
        let x = head_at t (class_heap g h c) partial_list in
        let n : x ≡ x - 1 + 1 = omega arith in
        let m = front_member hh hc o (omega arith) n in
        record { span = x - 1; loose = m.0; front = n; room = m.1.room refl }

  -- a partial span, if one can be had
  pub supply_kept : {t : Tables} (limit : ℕ) → limit ≤ g.spans → Whole g t → Supplied g (class_heap g h c) (supply limit t (class_heap g h c))
  unfolding supply
  supply_kept {t} limit few o =
      let k = class_heap g h c in
      let P = Supplied g k in
      cond_both P (no_partial t k) (cond (none_empty t k) (cond (ltb t.used limit) (create t k) t) (reactivate t k)) t
      (λ e.
      cond_both P (none_empty t k) (cond (ltb t.used limit) (create t k) t) (reactivate t k)
      (λ d.
      cond_both P (ltb t.used limit) (create t k) t (λ l. inr (create_ready o (omega (arith, ltb-true t.used limit l))))
      (λ l. inl (eqb-true (head_at t k partial_list) 0 e, o)))
      (λ d. inr (reactivate_ready o (some_empty t k d))))
      (λ e. inr (front_ready o (omega (arith, eqb-false (head_at t k partial_list) 0 e))))

  -- pending frees of full spans folded first
  pub replenish_kept : {t : Tables} (limit : ℕ) → limit ≤ g.spans → Whole g t → Supplied g (class_heap g h c) (replenish limit t (class_heap g h c))
  unfolding replenish
  replenish_kept {t} limit few o =
      let k = class_heap g h c in
      cond_both (Supplied g k) (no_partial t k) (supply limit (reclaim t.used t k (head_at t k full_list)) k) t
      (λ e. supply_kept limit few (reclaimed_whole hh hc o))
      (λ e. inr (front_ready o (omega (arith, eqb-false (head_at t k partial_list) 0 e))))

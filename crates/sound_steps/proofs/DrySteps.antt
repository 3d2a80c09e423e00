-- Where a replenish finds nothing: the table is as it was, no list of the class and heap but the full one holds a span, each of its spans is full with
-- nothing pending, and no span is unused. Assumes nothing.
use mathlib.Core.Path.{◌≡◌, refl, sym, ap, subst, ◌∙◌}
use mathlib.Core.Bool.{true, false, cond}
use mathlib.Core.Logic.{◌⊎◌, inl, inr, ⊎_elim}
use Prim.Native.Nat.{ℕ, zero, suc, ◌+◌, ◌-◌, ◌<◌, ◌≤◌}
use native.Mathlib.Omega.{arith}
use native.Mathlib.Decide.{ℕ_discrete}
use borrow.Author.Tests.{eq-eqb, ne_eqb, eqb-true, eqb-false, ltb-true, ltb-false}
use lib.Dec.{eqb, ltb}
use lib.Seq.{get_or-set_same}
use Rattle.laws.specs.Links.{walk}
use Rattle.laws.specs.Members.{Mem}
use Rattle.laws.proofs.CondLaws.{cond_both}
use Rattle.laws.proofs.FirstLaws.{tested}
use Rattle.laws.proofs.SomeLaws.{and_both}
use Rattle.tables.specs.declared.ClassHeap.{ClassHeap}
use Rattle.tables.specs.Shape.{Shape, classes, class_heap}
use Rattle.tables.specs.Cells.{Tables, occupied_at, next_at, head_cell, head_at, set_head, partial_list, full_list, empty_list, reserve}
use Rattle.tables.proofs.CellLaws.{head_same, list_in}
use Rattle.linked_list.specs.Lists.{push, remove, list_of}
use Rattle.linked_list.specs.Named.{heads_at, RowName, ListName, ListsIn}
use Rattle.linked_list.proofs.ReachLaws.{head_here}
use Rattle.linked_list.proofs.ListCells.{push_head, remove_head}
use Rattle.linked_list.proofs.ListedKept.{list_name, row_name, spelled_out}
use Rattle.linked_list.proofs.PlacedLaws.{by_four}
use Rattle.linked_list.proofs.QuietLaws.{remove_quiet, quiet_occupied}
use Rattle.span.specs.Span.{is_full, is_empty, has_pending, reclaim_pending}
use Rattle.class_heap.specs.Steps.{demote, release_empty, place, refile, reclaim_one, reclaim, no_partial, none_empty, reactivate, create, supply, replenish}
use Rattle.sound.specs.Sound.{Belongs}
use Rattle.sound.specs.Filled.{Filled}
use Rattle.filled_magazines.proofs.ListSteps.{remove_filled}
use Rattle.filled_spans.proofs.ReclaimKept.{reclaim_only, reclaim_kept, reclaim_occupied, pending_some}
use Rattle.reclaiming.proofs.ReclaimingLaws.{reclaim_one_kept}
use Rattle.replenishing.proofs.ReplenishingLaws.{some_empty}
use Rattle.homes.specs.Homes.{Fits, Whole}
use Rattle.homes.proofs.HomesMoved.{own_kind, own_cell, own_fits, full_home, reach, push_front}
use Rattle.sound_steps.proofs.ReclaimSteps.{FullSpan, FullLink, full_front, full_next, full_stays, reclaim_one_whole, reclaimed_whole}
use Rattle.sound_steps.proofs.ReplenishSteps.{reactivate_ready, create_ready}

-- a partial span, or a reserve
abbrev SomeSpan : Tables → ClassHeap → Type 0
SomeSpan t k = 0 < head_at t k partial_list + head_at t k reserve

-- what a walk of n turns from the link x does: it gives some, or changes nothing as nothing is pending
abbrev Walked : Tables → ClassHeap → ℕ → ℕ → Type 0
Walked t k n x =
    SomeSpan (reclaim n t k x) k ⊎ ((reclaim n t k x ≡ t) × ((s : ℕ) → Mem s (walk (next_at t) n x) → has_pending t s ≡ false))

-- nothing was done from t to u, as there is no partial or empty span of k, no reserve, and none unused
record Stopped (limit : ℕ) (t u : Tables) (k : ClassHeap) : Type 0 where
  same : u ≡ t
  partial : head_at t k partial_list ≡ 0
  empty : head_at t k empty_list ≡ 0
  kept : head_at t k reserve ≡ 0
  used : limit ≤ t.used

-- the same of an equal table
stopped_at : {limit : ℕ} {t v u : Tables} {k : ClassHeap} → v ≡ t → Stopped limit v u k → Stopped limit t u k
stopped_at e a = rw (← e) a

-- no span stands in a list with no front
none_stands : (next : ℕ → ℕ) (n s : ℕ) {x : ℕ} → x ≡ 0 → Mem s (walk next n x) → ⊥
unfolding walk
none_stands next zero s e m = m
none_stands next (suc n) s {x} e m = rw (eq-eqb x 0 e) at m

-- nothing for a claim of k: no partial or empty span, no reserve, none unused; each span of k is full, with nothing pending; and a replenish does nothing
pub record Dry (limit : ℕ) (t : Tables) (k : ClassHeap) : Type 0 where
  pub same : replenish limit t k ≡ t
  pub partial : head_at t k partial_list ≡ 0
  pub empty : head_at t k empty_list ≡ 0
  pub kept : head_at t k reserve ≡ 0
  pub used : limit ≤ t.used
  pub full : (s : ℕ) → Belongs t k s → occupied_at t s ≡ k.slots
  pub none : (s : ℕ) → Belongs t k s → has_pending t s ≡ false

-- the heads of two lists of a row stand apart
heads_apart : (r : ℕ) {f e : ℕ} → f ≤ reserve → e ≤ reserve → (f ≡ e → ⊥) → head_cell r f ≡ head_cell r e → ⊥
heads_apart r hf he n z = n (head_same r r (list_in (omega arith)) (list_in (omega arith)) z).1

module _ (t : Tables) (k : ClassHeap) (s : ℕ) where
  -- a push to the full or the empty list leaves partial spans and the reserve
  push_leaves : (f : ℕ) → full_list ≤ f → f ≤ empty_list → SomeSpan t k → SomeSpan (push t k f s) k
  push_leaves f lo hi l =
      omega (
        arith,
        l,
        push_head t k f s (head_cell k.row partial_list) (heads_apart k.row (omega arith) (omega arith) (λ e. omega arith)),
        push_head t k f s (head_cell k.row reserve) (heads_apart k.row (omega arith) (omega arith) (λ e. omega arith)),
      )

  -- and so does a remove from the full list
  remove_leaves : SomeSpan t k → SomeSpan (remove t k full_list s) k
  remove_leaves l =
      omega (
        arith,
        l,
        remove_head t k full_list s (head_cell k.row partial_list) (heads_apart k.row (omega arith) (omega arith) (λ e. omega arith)),
        remove_head t k full_list s (head_cell k.row reserve) (heads_apart k.row (omega arith) (omega arith) (λ e. omega arith)),
      )

module _ {g : Shape} {h c : ℕ} (hh : h < g.heaps) (hc : c < classes g) where
  -- ---- what a walk over the full spans gives

  -- a span placed that is not full is partial or the reserve; and what there was stays
  place_some :
      {t : Tables} (a : ℕ) → Filled g t → SomeSpan t (class_heap g h c) ⊎ (occupied_at t a < (class_heap g h c).slots) →
      SomeSpan (place t (class_heap g h c) a) (class_heap g h c)
  unfolding place release_empty demote
  place_some {t} a w s =
      let k = class_heap g h c in
      let u = set_head t k reserve (a + 1) in
      let x = head_at t k reserve in
      let kept : head_at u k reserve ≡ a + 1 = get_or-set_same t.heads (head_cell k.row reserve) (a + 1) 0 (head_here (reach hh hc w) (omega arith)) in
      let P : Tables → Type 0 = λ v. SomeSpan v k in
      cond_both P (is_empty t a) (cond (eqb x 0) u (push u k empty_list (x - 1))) (cond (is_full t k a) (push t k full_list a) (push t k partial_list a))
      (λ e.
      cond_both P (eqb x 0) u (push u k empty_list (x - 1)) (λ d. omega (arith, kept))
      (λ d. push_leaves u k (x - 1) empty_list (omega arith) (omega arith) (omega (arith, kept))))
      (λ e.
      cond_both P (is_full t k a) (push t k full_list a) (push t k partial_list a)
      (λ d.
      push_leaves t k a full_list (omega arith) (omega arith)
      (⊎_elim (λ l. l) (λ l. absurd (let z : ⊥ = omega (arith, eqb-true (occupied_at t a) k.slots d, l) in z)) s))
      (λ d. omega (arith, push_front hh hc {t = t} {f = partial_list} a (omega arith) w)))

  module _ {t : Tables} (o : Whole g t) {s : ℕ} (b : FullSpan t (class_heap g h c) s) where
    -- a full span folded, unlinked and placed
    refiled_some :
        SomeSpan t (class_heap g h c) ⊎ (occupied_at (reclaim_pending t s) s < (class_heap g h c).slots) →
        SomeSpan (refile (reclaim_pending t s) (class_heap g h c) full_list s) (class_heap g h c)
    unfolding refile
    refiled_some x =
        let k = class_heap g h c in
        let f = o.near.filled in
        let u = reclaim_pending t s in
        let q = reclaim_only g t f s b.belongs.used in
        let used : s < u.used = rw q.used b.belongs.used in
        let there : SomeSpan t k → SomeSpan u k = λ l. rw q.span.heads l in
        place_some s (remove_filled (reclaim_kept g t f s b.belongs.used) hh hc (omega arith) used)
        (⊎_elim (λ l. inl (remove_leaves u k s (there l)))
        (λ l. inr (rw (quiet_occupied (remove_quiet u k full_list (omega arith) s) s) l)) x)

    -- what there was stays
    one_leaves : SomeSpan t (class_heap g h c) → SomeSpan (reclaim_one t (class_heap g h c) s) (class_heap g h c)
    unfolding reclaim_one
    one_leaves l =
        let k = class_heap g h c in
        cond_both (λ v. SomeSpan v k) (has_pending t s) (refile (reclaim_pending t s) k full_list s) t (λ e. refiled_some (inl l)) (λ e. l)

    -- a span with pending frees gives some
    one_gives : has_pending t s ≡ true → SomeSpan (reclaim_one t (class_heap g h c) s) (class_heap g h c)
    unfolding reclaim_one
    one_gives e =
        let f = o.near.filled in
        let u = b.belongs.used in
        rw e (refiled_some (inr (omega (arith, b.full, pending_some g t f s u e, reclaim_occupied g t f s u))))

  -- the walk leaves what there was
  walk_leaves :
      (n : ℕ) {t : Tables} (x : ℕ) → Whole g t → FullLink t (class_heap g h c) x → SomeSpan t (class_heap g h c) →
      SomeSpan (reclaim n t (class_heap g h c) x) (class_heap g h c)
  unfolding reclaim
  walk_leaves zero x o w l = l
  walk_leaves (suc n) {t} x o w l =
      let k = class_heap g h c in
      cond_both (λ v. SomeSpan v k) (eqb x 0) t (reclaim n (reclaim_one t k (x - 1)) k (next_at t (x - 1))) (λ e. l)
      (λ e.
      let b = w (x - 1) (omega (arith, eqb-false x 0 e)) in
      walk_leaves n (next_at t (x - 1)) (reclaim_one_whole hh hc o b) (full_stays hh hc o (x - 1) b) (one_leaves o b l))

  -- so it gives some, or changes nothing as nothing is pending
  walk_gives : {t : Tables} → Whole g t → (n x : ℕ) → FullLink t (class_heap g h c) x → Walked t (class_heap g h c) n x
  unfolding reclaim walk
  walk_gives o zero x w = inr (refl, λ s m. absurd m)
  walk_gives {t} o (suc n) x w =
      turn (ℕ_discrete x 0) (λ b. walk_gives o n (next_at t (x - 1)) (λ y e. (full_next hh hc o (x - 1) y b e).0))
    where
      one : FullSpan t (class_heap g h c) (x - 1) → (has_pending t (x - 1) ≡ true) ⊎ (has_pending t (x - 1) ≡ false) → Walked t (class_heap g h c) n (next_at t (x - 1))
          → SomeSpan (reclaim n (reclaim_one t (class_heap g h c) (x - 1)) (class_heap g h c) (next_at t (x - 1))) (class_heap g h c)
          ⊎ ((reclaim n (reclaim_one t (class_heap g h c) (x - 1)) (class_heap g h c) (next_at t (x - 1)) ≡ t)
          × ((s : ℕ) → (s ≡ x - 1) ⊎ Mem s (walk (next_at t) n (next_at t (x - 1))) → has_pending t s ≡ false))
      one b (inl e) rest =
          inl
          (walk_leaves n (next_at t (x - 1)) (reclaim_one_whole hh hc o b) (full_stays hh hc o (x - 1) b) (one_gives o b e))
      one b (inr e) rest =
          rw (← reclaim_one_kept t (class_heap g h c) (x - 1) e)
          (⊎_elim inl (λ v. inr (v.0, λ s m. ⊎_elim (λ q. ap (has_pending t) q ∙ e) (v.1 s) m)) rest)

      turn : Dec (x ≡ 0) → (FullSpan t (class_heap g h c) (x - 1) → Walked t (class_heap g h c) n (next_at t (x - 1))) → Walked t (class_heap g h c) (suc n) x
      turn (yes e) rest = rw (eq-eqb x 0 e) (inr (refl, λ s m. absurd m))
      turn (no z) rest =
          let b = w (x - 1) (omega arith) in
          rw (ne_eqb x 0 z) (one b (tested (has_pending t (x - 1))) (rest b))

  -- ---- nothing to supply

  module _ (limit : ℕ) (few : limit ≤ g.spans) where
    -- a supply that finds none
    supply_stops : {t : Tables} → Whole g t → head_at (supply limit t (class_heap g h c)) (class_heap g h c) partial_list ≡ 0 → Stopped limit t (supply limit t (class_heap g h c)) (class_heap g h c)
    unfolding supply
    supply_stops {t} o =
        let k = class_heap g h c in
        let P : Tables → Type 0 = λ u. head_at u k partial_list ≡ 0 → Stopped limit t u k in
        cond_both P (no_partial t k) (cond (none_empty t k) (cond (ltb t.used limit) (create t k) t) (reactivate t k)) t
        (λ e.
        cond_both P (none_empty t k) (cond (ltb t.used limit) (create t k) t) (reactivate t k)
        (λ d.
        cond_both P (ltb t.used limit) (create t k) t
        (λ l z. absurd (let y : ⊥ = omega (arith, z, (create_ready hh hc o (omega (arith, ltb-true t.used limit l))).front) in y))
        (λ l z.
        let none = and_both (eqb (head_at t k reserve) 0) (eqb (head_at t k empty_list) 0) d in
        record {
          same = refl;
          partial = z;
          empty = eqb-true (head_at t k empty_list) 0 none.1;
          kept = eqb-true (head_at t k reserve) 0 none.0;
          used = ltb-false t.used limit l;
        }))
        (λ d z. absurd (let y : ⊥ = omega (arith, z, (reactivate_ready hh hc o (some_empty t k d)).front) in y)))
        (λ e z. absurd (eqb-false (head_at t k partial_list) 0 e z))

    -- a replenish that finds none
    replenish_stops :
        {t : Tables} → Whole g t → head_at (replenish limit t (class_heap g h c)) (class_heap g h c) partial_list ≡ 0 →
        Stopped limit t (replenish limit t (class_heap g h c)) (class_heap g h c)
        × ((s : ℕ) → Mem s (list_of t (class_heap g h c) full_list) → has_pending t s ≡ false)
    unfolding replenish
    replenish_stops {t} o =
        let k = class_heap g h c in
        let x = head_at t k full_list in
        let v = reclaim t.used t k x in
        cond_both (λ u. head_at u k partial_list ≡ 0 → Stopped limit t u k × ((s : ℕ) → Mem s (list_of t k full_list) → has_pending t s ≡ false))
        (no_partial t k) (supply limit v k) t
        (λ e z.
        let a = supply_stops (reclaimed_whole hh hc o) z in
        ⊎_elim (λ l. absurd (let y : ⊥ = omega (arith, l, a.partial, a.kept) in y))
        (λ b. (stopped_at b.0 a, b.1))
        (walk_gives o t.used x (full_front hh hc o)))
        (λ e z. absurd (eqb-false (head_at t k partial_list) 0 e z))

    -- ---- 01's reading of it

    module _ {t : Tables} (o : Whole g t) (z : head_at (replenish limit t (class_heap g h c)) (class_heap g h c) partial_list ≡ 0) where
      -- every used span's home is a list
      spelled : ListsIn (RowName g) t o.home
      spelled =
          spelled_out t o.near.listed
          (λ s u.
          let x = o.near.homes s u (λ e. omega arith) in
          let y = o.near.filled.spans s u in
          subst (ListName (RowName g)) (sym x.cell) (list_name _ (row_name g y.owner y.class) x.fits.low))

      -- a span of the class and heap stands in the list that is its home
      stands : {s : ℕ} (b : Belongs t (class_heap g h c) s) → Mem s (list_of t (class_heap g h c) (own_kind hh hc o b))
      stands {s} b =
          subst (λ (x : ℕ). Mem s (walk (next_at t) t.used (heads_at t x))) (own_cell hh hc o b) (spelled.all s b.used).1

      -- so it is full
      all_full : {s : ℕ} → Belongs t (class_heap g h c) s → occupied_at t s ≡ (class_heap g h c).slots
      all_full {s} b =
          let k = class_heap g h c in
          let a = (replenish_stops o z).0 in
          let f = own_fits hh hc o b in
          by_four (λ f. Mem s (list_of t k f) → Fits f (occupied_at t s) k.slots → occupied_at t s ≡ k.slots) (own_kind hh hc o b) f.low
          (λ m i. absurd (none_stands (next_at t) t.used s a.partial m)) (λ m i. i.all refl)
          (λ m i. absurd (none_stands (next_at t) t.used s a.empty m)) (λ m i. absurd (none_stands (next_at t) t.used s a.kept m)) (stands b) f

      -- with nothing pending
      none_pending : {s : ℕ} → Belongs t (class_heap g h c) s → has_pending t s ≡ false
      none_pending {s} b =
          (replenish_stops o z).1 s
          (subst (λ (x : ℕ). Mem s (walk (next_at t) t.used (heads_at t x))) (full_home hh hc o b (all_full b)) (spelled.all s b.used).1)

      -- where a replenish finds nothing it changed nothing, and there was nothing
      pub replenish_dry : Dry limit t (class_heap g h c)
      replenish_dry =
          let a = (replenish_stops o z).0 in
          record {
            same = a.same;
            partial = a.partial;
            empty = a.empty;
            kept = a.kept;
            used = a.used;
            full = λ s b. all_full b;
            none = λ s b. none_pending b;
          }

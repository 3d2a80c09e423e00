-- Allocate and free in one class of one heap of a lent table: the table after it is lent again, and an allocation is refused exactly where the class
-- of the heap is exhausted. Assumes nothing.
use mathlib.Core.Path.{◌≡◌, refl, sym, ap, subst, ◌∙◌}
use mathlib.Core.List.{List}
use mathlib.Core.Logic.{◌⊎◌, ⊎_elim}
use Prim.Native.Nat.{ℕ, ◌+◌, ◌<◌}
use native.Mathlib.Nat.{le_refl}
use native.Mathlib.Omega.{arith}
use borrow.Author.Tests.{eqb-true, eqb-false, leb-false}
use lib.ListN.{get_or}
use lib.Dec.{eqb}
use Rattle.laws.proofs.CondLaws.{cond_both}
use Rattle.tables.specs.declared.ClassHeap.{ClassHeap}
use Rattle.tables.specs.Shape.{Shape, classes, class_heap}
use Rattle.tables.specs.Cells.{Tables, class_at, owner_at, count_at, entry_of}
use Rattle.magazine.specs.Magazine.{needs_refill, is_full}
use Rattle.magazine.proofs.CachedLaws.{cached_among}
use Rattle.span.specs.Span.{remote_free}
use Rattle.class_heap.specs.Steps.{refill, refilled, Refilled, flush}
use Rattle.sound.specs.Sound.{home_of, Belongs}
use Rattle.sound.proofs.StateTests.{cached_says}
use Rattle.filled_magazines.proofs.FilledFacts.{belongs_home, span_belongs}
use Rattle.filled_magazines.proofs.MagazineSteps.{block_out_entry}
use Rattle.placing.specs.Working.{Working}
use Rattle.homes.specs.Homes.{Whole}
use Rattle.homes.proofs.SoundWhole.{whole_sound}
use Rattle.sound_steps.proofs.RefillSteps.{refill_whole}
use Rattle.sound_steps.proofs.FlushSteps.{flush_whole, push_entry_whole, draw_entry_whole, remote_whole}
use Rattle.sound_steps.proofs.DrySteps.{Dry}
use Rattle.sound_steps.proofs.RefillEnds.{dry_states, refill_dry_at_once}
use Rattle.heap.proofs.HeapLaws.{flushed_room}
use Rattle.calls.specs.Outcome.{Outcome, refused}
use Rattle.calls.specs.Heap.{granted, draw, refill_first, alloc_small, flush_first, dealloc_local}
use Rattle.calls.specs.Primary.{dealloc_small}
use Rattle.outs.specs.Outs.{IsOut, SameOuts, GoesBack}
use Rattle.outs.specs.Allocated.{Dry as Refused, Allocated}
use Rattle.outs.proofs.OutsLaws.{same_outs, spans_belongs}
use Rattle.outs.proofs.BlockOuts.{flush_outs}
use Rattle.outs.proofs.CallOuts.{alloc_small_outs, dealloc_small_goes}
use Rattle.sound_calls.specs.Lent.{Lent}
use Rattle.sound_calls.proofs.LentLaws.{lent_whole, lent_working, lent_fronts, lent_owner, lent_class}
use Rattle.call_laws.specs.Exhausted.{Exhausted}

module _ {g : Shape} {t : Tables} (x : Lent g t) where
  -- A whole table of the same shape is lent again.
  pub lent_again : {u : Tables} → Whole g u → Lent g u
  lent_again o = record { sizes = x.sizes; stated = o.near.filled.stated; sound = whole_sound o; few = x.few }

  -- ---- allocate in class c of heap h

  module _ {h c : ℕ} (hh : h < g.heaps) (hc : c < classes g) (ws : List ℕ) where
    abbrev first : Refilled
    first = refill_first g.spans t (class_heap g h c) ws

    abbrev outcome : Outcome
    outcome = alloc_small g.spans t (class_heap g h c) ws

    first_whole : Whole g first.table
    unfolding refill_first
    first_whole =
        let k = class_heap g h c in
        cond_both (λ (r : Refilled). Whole g r.table) (needs_refill t k) (refill k.capacity g.spans t k ws 0) (refilled t 0)
        (λ e. refill_whole hh hc g.spans (le_refl g.spans) k.capacity (lent_whole x) ws 0) (λ e. lent_whole x)

    -- The table after an allocation is lent again.
    pub alloc_small_lent : Lent g (alloc_small g.spans t (class_heap g h c) ws).table
    unfolding alloc_small draw granted
    alloc_small_lent =
        let k = class_heap g h c in
        let u = first.table in
        let w = get_or ws first.words 0 in
        cond_both (λ (o : Outcome). Lent g o.table) (eqb (count_at u k) 0) (refused 6 u) (granted u k w (first.words + 1))
        (λ e. lent_again first_whole)
        (λ e. lent_again (draw_entry_whole hh hc first_whole (omega (arith, eqb-false (count_at u k) 0 e)) w))

    -- An allocation is refused with 6, or takes out the block that it answers.
    pub alloc_small_cases : Refused g t (alloc_small g.spans t (class_heap g h c) ws) ⊎ Allocated g t (class_heap g h c) (alloc_small g.spans t (class_heap g h c) ws)
    alloc_small_cases =
        alloc_small_outs (lent_working x hh hc refl) ws (λ e. lent_fronts x hh hc refl (class_heap g h c).capacity ws 0)

    -- ---- 6

    -- An empty magazine after the refill was empty before it, and there was nothing left to claim.
    first_dry : count_at first.table (class_heap g h c) ≡ 0 → (first ≡ refilled t 0) × (count_at t (class_heap g h c) ≡ 0) × Dry g.spans t (class_heap g h c)
    unfolding refill_first
    first_dry =
        let k = class_heap g h c in
        cond_both (λ (r : Refilled). count_at r.table k ≡ 0 → (r ≡ refilled t 0) × (count_at t k ≡ 0) × Dry g.spans t k) (needs_refill t k)
        (refill k.capacity g.spans t k ws 0) (refilled t 0)
        (λ e z.
        let d = refill_dry_at_once hh hc g.spans (le_refl g.spans) k.capacity (lent_whole x) (le_refl k.capacity) ws 0 z in
        (d.0, subst (λ (r : Refilled). count_at r.table k ≡ 0) d.0 z, d.1))
        (λ e z. absurd (let y : ⊥ = omega (arith, z, leb-false (count_at t k) k.low e) in y))

    -- With nothing left to claim and an empty magazine every block of the class and heap is out.
    dry_exhausted : count_at t (class_heap g h c) ≡ 0 → Dry g.spans t (class_heap g h c) → Exhausted g t h c
    dry_exhausted z d =
        record {
          out =
              λ s q b l.
              let home = belongs_home g t h c s b in
              record {
                used = b.used;
                slot = rw home l;
                out =
                    ⊎_elim
                    (λ e.
                    let a = cached_among t (home_of g t s) (entry_of s q) (cached_says g t s q e).kept in
                    absurd (let y : ⊥ = omega (arith, z, a.below, ap (count_at t) home) in y))
                    (λ e. e) (dry_states (lent_whole x).near.filled h c d s q b l);
              };
          used = d.used;
        }

    -- Refused with 6, the class of the heap is exhausted and nothing is changed.
    pub six_exhausted : (alloc_small g.spans t (class_heap g h c) ws).answer.number ≡ 6 → (alloc_small g.spans t (class_heap g h c) ws ≡ refused 6 t) × Exhausted g t h c
    unfolding alloc_small draw granted
    six_exhausted =
        let k = class_heap g h c in
        let u = first.table in
        let w = get_or ws first.words 0 in
        cond_both (λ (o : Outcome). o.answer.number ≡ 6 → (o ≡ refused 6 t) × Exhausted g t h c) (eqb (count_at u k) 0) (refused 6 u)
        (granted u k w (first.words + 1))
        (λ e n.
        let d = first_dry (eqb-true (count_at u k) 0 e) in
        (ap (λ (r : Refilled). refused 6 r.table) d.0, dry_exhausted d.1 d.2))
        (λ e n. absurd (let y : ⊥ = omega (arith, n) in y))

    -- An exhausted class of a heap is refused with 6.
    pub exhausted_six : Exhausted g t h c → (alloc_small g.spans t (class_heap g h c) ws).answer.number ≡ 6
    exhausted_six y =
        let k = class_heap g h c in
        let o = alloc_small g.spans t k ws in
        ⊎_elim (λ d. d.number)
        (λ a.
        let s = o.answer.span in
        let b = a.belongs in
        let u : s < t.used = omega (arith, b.used, y.used, alloc_small_lent.sound.within) in
        let here : Belongs t k s =
        record { used = u; class = sym (a.comes.spans.class s u) ∙ b.class; owner = sym (a.comes.spans.owner s u) ∙ b.owner } in
        let l : a.slot < k.slots = subst (λ (m : ClassHeap). a.slot < m.slots) (belongs_home g o.table h c s b) a.comes.now.slot in
        absurd (a.comes.was (y.out s a.slot here l)))
        alloc_small_cases

  -- ---- free of a block that is out

  module _ {s q : ℕ} (i : IsOut g t s q) where
    abbrev home_working : Working g.spans (home_of g t s) t
    home_working = lent_working x (lent_owner x i.used) (lent_class x i.used) refl

    home_belongs : Belongs t (home_of g t s) s
    home_belongs = span_belongs (lent_whole x).near.filled s i.used

    flushed_whole : Whole g (flush_first t (home_of g t s))
    unfolding flush_first
    flushed_whole =
        let k = home_of g t s in
        cond_both (Whole g) (is_full t k) (flush k.capacity t k) t
        (λ e. flush_whole (lent_owner x i.used) (lent_class x i.used) k.capacity (lent_whole x)) (λ e. lent_whole x)

    flushed_outs : SameOuts g t (flush_first t (home_of g t s))
    unfolding flush_first
    flushed_outs =
        let k = home_of g t s in
        cond_both (SameOuts g t) (is_full t k) (flush k.capacity t k) t (λ e. flush_outs k.capacity home_working) (λ e. same_outs g t)

    -- The table after the owner's free is lent again,
    dealloc_local_whole : Whole g (dealloc_local t (home_of g t s) s q)
    unfolding dealloc_local
    dealloc_local_whole =
        let k = home_of g t s in
        let u = flush_first t k in
        push_entry_whole (lent_owner x i.used) (lent_class x i.used) flushed_whole
        (block_out_entry g u (owner_at t s) (class_at t s) s (spans_belongs flushed_outs.spans home_belongs) i.slot (flushed_outs.kept s q i).out)
        (flushed_room home_working)

    -- and after any heap's free.
    pub dealloc_small_lent : (heap : ℕ) → Lent g (dealloc_small t (home_of g t s) heap s q)
    unfolding dealloc_small
    dealloc_small_lent heap =
        let k = home_of g t s in
        cond_both (Lent g) (eqb k.owner heap) (dealloc_local t k s q) (remote_free t s q) (λ e. lent_again dealloc_local_whole)
        (λ e. lent_again (remote_whole s q (lent_whole x) i.used i.slot i.out))

    -- The block goes back, and no other.
    pub dealloc_goes : (heap : ℕ) → GoesBack g t (dealloc_small t (home_of g t s) heap s q) s q
    dealloc_goes heap = dealloc_small_goes home_working home_belongs i heap

-- An allocation takes at most one block out, and a free brings one back, whoever frees it; every other block that is out stays so. Assumes nothing.
use mathlib.Core.Path.{◌≡◌, refl}
use mathlib.Core.Bool.{true}
use mathlib.Core.List.{List}
use mathlib.Core.Logic.{◌⊎◌, inl, inr}
use Prim.Native.Nat.{ℕ, ◌+◌, ◌<◌}
use native.Mathlib.Omega.{arith}
use borrow.Author.Tests.{eqb-true, eqb-false}
use lib.ListN.{get_or}
use lib.Dec.{eqb}
use Rattle.laws.proofs.CondLaws.{cond_both}
use Rattle.tables.specs.declared.ClassHeap.{ClassHeap}
use Rattle.tables.specs.Cells.{Tables, count_at, entry_at, entry_of, entry_slot}
use Rattle.magazine.specs.Magazine.{needs_refill, is_full, push_entry, drawn_at}
use Rattle.span.specs.Span.{remote_free}
use Rattle.class_heap.specs.Steps.{refill, refilled, flush}
use Rattle.calls.specs.Outcome.{refused}
use Rattle.calls.specs.Heap.{granted, draw, alloc_small, dealloc_local, refill_first, flush_first}
use Rattle.calls.specs.Primary.{dealloc_small}
use Rattle.sound.specs.Sound.{Belongs}
use Rattle.filled_magazines.proofs.FilledFacts.{capacity_some, full_above_low}
use Rattle.placing.specs.Working.{Working}
use Rattle.placing.proofs.PlacingKept.{working_room}
use Rattle.flushing.proofs.FlushingLaws.{flush_working, flush_makes_room}
use Rattle.refilling.specs.Fronts.{Fronts}
use Rattle.refilling.proofs.RefillingLaws.{refill_working}
use Rattle.outs.specs.Outs.{IsOut, SameOuts, GoesBack}
use Rattle.outs.specs.Allocated.{Dry, Allocated}
use Rattle.outs.proofs.OutsLaws.{spans_belongs, same_outs, same_comes, same_goes}
use Rattle.outs.proofs.ClaimFills.{refill_outs}
use Rattle.outs.proofs.BlockOuts.{draw_comes, draw_belongs, push_goes, remote_goes, flush_outs}

-- ---- free

module _ {n : ℕ} {k : ClassHeap} {t : Tables} (w : Working n k t) {s q : ℕ} (b : Belongs t k s) (i : IsOut w.shape t s q) where
  -- After a flush of a full magazine there is room.
  flushed_room : count_at t k ≡ k.capacity → count_at (flush k.capacity t k) k < k.capacity
  flushed_room e =
      let some : 0 < k.capacity = rw w.named (capacity_some w.shape w.heap w.class) in
      let above : k.low < count_at t k = rw w.named (full_above_low w.shape w.heap w.class (rw w.named at e)) in
      omega (arith, e, flush_makes_room k.capacity some w above)

  -- A free by the owner, of a block that is out.
  pub dealloc_local_goes : GoesBack w.shape t (dealloc_local t k s q) s q
  unfolding dealloc_local flush_first
  dealloc_local_goes =
      let g = w.shape in
      cond_both (λ u. GoesBack g t (push_entry u k (entry_of s q)) s q) (is_full t k) (flush k.capacity t k) t
      (λ e.
      let same = flush_outs k.capacity w in
      same_goes same
      (push_goes (flush_working k.capacity w) (spans_belongs same.spans b) (same.kept s q i)
      (flushed_room (eqb-true (count_at t k) k.capacity e))))
      (λ e. push_goes w b i (omega (arith, eqb-false (count_at t k) k.capacity e, (working_room w).held)))

  -- A free by any heap.
  pub dealloc_small_goes : (heap : ℕ) → GoesBack w.shape t (dealloc_small t k heap s q) s q
  unfolding dealloc_small
  dealloc_small_goes heap =
      cond_both (λ u. GoesBack w.shape t u s q) (eqb k.owner heap) (dealloc_local t k s q) (remote_free t s q)
      (λ e. dealloc_local_goes) (λ e. remote_goes w.shape t w.filled s q i)

-- ---- allocate

-- A draw from a working table.
draw_outs :
    {n : ℕ} {k : ClassHeap} {t u : Tables} (w : Working n k u) (words : ℕ) (ws : List ℕ) →
    SameOuts w.shape t u →
    Dry w.shape t (draw (refilled u words) k ws) ⊎ Allocated w.shape t k (draw (refilled u words) k ws)
unfolding draw granted
draw_outs {n} {k} {t} {u} w words ws same =
    let g = w.shape in
    let word = get_or ws words 0 in
    cond_both (λ r. Dry g t r ⊎ Allocated g t k r) (eqb (count_at u k) 0) (refused 6 u) (granted u k word (words + 1))
    (λ e. inl (record { number = refl; same = same }))
    (λ e.
    let some : 0 < count_at u k = omega (arith, eqb-false (count_at u k) 0 e) in
    let comes = draw_comes w some word in
    inr
    (record {
      slot = entry_slot (entry_at u k (drawn_at u k word));
      number = refl;
      offset = refl;
      belongs = spans_belongs comes.spans (draw_belongs w some word);
      comes = same_comes same comes;
    }))

-- An allocation is refused with 6 and changes no block that is out, or takes out the block that it answers.
pub alloc_small_outs :
    {limit : ℕ} {k : ClassHeap} {t : Tables} (w : Working limit k t) (ws : List ℕ) →
    (needs_refill t k ≡ true → Fronts k.capacity limit t k ws 0) →
    Dry w.shape t (alloc_small limit t k ws) ⊎ Allocated w.shape t k (alloc_small limit t k ws)
unfolding alloc_small refill_first
alloc_small_outs {limit} {k} {t} w ws fronts =
    let g = w.shape in
    cond_both (λ r. Dry g t (draw r k ws) ⊎ Allocated g t k (draw r k ws)) (needs_refill t k) (refill k.capacity limit t k ws 0)
    (refilled t 0)
    (λ e.
    let r = refill k.capacity limit t k ws 0 in
    draw_outs (refill_working k.capacity w ws 0 (fronts e)) r.words ws (refill_outs k.capacity w ws 0 (fronts e)))
    (λ e. draw_outs w 0 ws (same_outs g t))

-- Slots given back, a flush, and the steps of one magazine or of one pending bit keep a table whole. Assumes nothing.
use mathlib.Core.Path.{◌≡◌, refl, sym, subst}
use mathlib.Core.Bool.{cond}
use Prim.Native.Nat.{ℕ, zero, suc, ◌<◌}
use native.Mathlib.Nat.{lt_of_lt_of_le}
use native.Mathlib.Omega.{arith}
use borrow.Author.Tests.{eqb-true, eqb-false, ltb-true}
use lib.Dec.{ltb}
use Rattle.laws.proofs.CondLaws.{cond_both}
use Rattle.tables.specs.declared.ClassHeap.{ClassHeap}
use Rattle.tables.specs.Shape.{Shape, classes, class_heap}
use Rattle.tables.specs.Cells.{Tables, occupied_at, partial_list, full_list, count_at, entry_span, entry_slot}
use Rattle.magazine.specs.Magazine.{top_entry, push_entry, pop_entry, draw_entry}
use Rattle.magazine.proofs.OtherMagazines.{push_only, pop_only, draw_only}
use Rattle.span.specs.declared.BlockState.TheVariants.{Out}
use Rattle.span.specs.State.{state_of}
use Rattle.span.specs.Span.{is_full, is_empty, dealloc_slot, remote_free}
use Rattle.class_heap.specs.Steps.{refile, give_back, flush_one, flush}
use Rattle.sound.specs.Sound.{home_of, Belongs}
use Rattle.filled_magazines.proofs.FilledFacts.{belongs_home, filled_room}
use Rattle.filled_magazines.specs.Pushable.{OutEntry}
use Rattle.filled_magazines.proofs.MagazineSteps.{push_out_filled, pop_entry_filled, popped_out, draw_entry_filled}
use Rattle.filled_spans.proofs.SpanValues.{home_most, filled_cells}
use Rattle.filled_spans.proofs.ReleaseKept.{release_only, release_kept, release_occupied}
use Rattle.filled_spans.proofs.RemoteFreeKept.{remote_only, remote_kept}
use Rattle.homes.specs.Homes.{Whole}
use Rattle.homes.proofs.FitsLaws.{fits_partial}
use Rattle.homes.proofs.HomesFrame.{loose_recounted, whole_recounted, whole_counted}
use Rattle.homes.proofs.HomesMoved.{count_within_slots, settle, full_loose, partial_loose}
use Rattle.homes.proofs.HomesPlaced.{refile_kept}

-- a free by another heap, of a block that is out, sets bits alone
pub remote_whole :
    {g : Shape} {t : Tables} (s q : ℕ) → Whole g t → s < t.used → q < (home_of g t s).slots → state_of g t s q ≡ Out → Whole g (remote_free t s q)
remote_whole {g} {t} s q o l inside out =
    let f = o.near.filled in
    whole_recounted o (remote_only t s (filled_cells g t f s l).words q (lt_of_lt_of_le inside (home_most g t s))) (remote_kept g t f s l q inside out)
    (unfold remote_free in refl)

module _ {g : Shape} {h c : ℕ} (hh : h < g.heaps) (hc : c < classes g) where
  module _ {t : Tables} (o : Whole g t) where
    -- ---- one magazine

    -- an entry of a block that is out, on the top
    pub push_entry_whole :
        {e : ℕ} → OutEntry g t (class_heap g h c) e → count_at t (class_heap g h c) < (class_heap g h c).capacity → Whole g (push_entry t (class_heap g h c) e)
    push_entry_whole {e} m l = whole_counted o (push_only t (class_heap g h c) e l) (push_out_filled o.near.filled hh hc m l)

    module _ (some : 0 < count_at t (class_heap g h c)) where
      -- the top entry away
      pub pop_entry_whole : Whole g (pop_entry t (class_heap g h c))
      pop_entry_whole = whole_counted o (pop_only t (class_heap g h c)) (pop_entry_filled o.near.filled hh hc some)

      -- a drawn entry away
      pub draw_entry_whole : (word : ℕ) → Whole g (draw_entry t (class_heap g h c) word)
      draw_entry_whole word =
          whole_counted o (draw_only t (class_heap g h c) word (filled_room o.near.filled hh hc) some)
          (draw_entry_filled o.near.filled hh hc some word)

    -- ---- one span

    -- a slot of a block that is out, back to its span, which is unlinked and placed if it was full or is empty now
    pub give_back_whole :
        (s q : ℕ) → Belongs t (class_heap g h c) s → q < (class_heap g h c).slots → state_of g t s q ≡ Out → Whole g (give_back t (class_heap g h c) s q)
    unfolding give_back
    give_back_whole s q b l out =
        let k = class_heap g h c in
        let f = o.near.filled in
        let inside : q < (home_of g t s).slots = subst (λ (k : ClassHeap). q < k.slots) (sym (belongs_home g t h c s b)) l in
        let u = dealloc_slot t s q in
        let only = release_only g t f s b.used q inside out in
        let kept = release_kept g t f s b.used q inside out in
        let less = release_occupied g t f s b.used q inside out in
        let most = count_within_slots hh hc f b in
        let n = occupied_at t s in
        cond_both (Whole g) (is_full t k s) (refile u k full_list s) (cond (is_empty u s) (refile u k partial_list s) u)
        (λ e. refile_kept hh hc (omega arith) (loose_recounted (full_loose hh hc o b (eqb-true n k.slots e)) only kept))
        (λ e.
        let room : n < k.slots = omega (arith, eqb-false n k.slots e, most) in
        let p = loose_recounted (partial_loose hh hc o b (omega (arith, less)) room) only kept in
        cond_both (Whole g) (is_empty u s) (refile u k partial_list s) u (λ d. refile_kept hh hc (omega arith) p)
        (λ d. settle hh hc p (fits_partial (omega (arith, eqb-false (occupied_at u s) 0 d)) (omega (arith, less, room)))))

  -- ---- a flush

  -- the top entry popped, and its slot given back
  pub flush_one_whole : {t : Tables} → Whole g t → 0 < count_at t (class_heap g h c) → Whole g (flush_one t (class_heap g h c))
  unfolding flush_one
  flush_one_whole {t} o some =
      let k = class_heap g h c in
      let m = popped_out o.near.filled hh hc some in
      give_back_whole (pop_entry_whole o some) (entry_span (top_entry t k)) (entry_slot (top_entry t k)) m.belongs m.in_range m.out

  -- down to low water
  pub flush_whole : (n : ℕ) {t : Tables} → Whole g t → Whole g (flush n t (class_heap g h c))
  unfolding flush
  flush_whole zero o = o
  flush_whole (suc n) {t} o =
      let k = class_heap g h c in
      cond_both (Whole g) (ltb k.low (count_at t k)) (flush n (flush_one t k) k) t
      (λ e. flush_whole n (flush_one_whole o (omega (arith, ltb-true k.low (count_at t k) e)))) (λ e. o)

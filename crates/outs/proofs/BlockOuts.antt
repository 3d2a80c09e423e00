-- The steps that take one block out or bring one back: a draw and a pop, a push, a slot back to its span, a free by another heap; and a flush, which
-- does both to each block it returns. Assumes nothing.
use mathlib.Core.Path.{sym, ◌∙◌}
use mathlib.Core.Bool.{cond}
use Prim.Native.Nat.{ℕ, zero, suc, ◌<◌}
use native.Mathlib.Omega.{arith}
use borrow.Author.Tests.{ltb-true}
use lib.Dec.{ltb}
use Rattle.laws.proofs.CondLaws.{cond_both}
use Rattle.tables.specs.declared.ClassHeap.{ClassHeap}
use Rattle.tables.specs.Shape.{Shape, classes, class_heap}
use Rattle.tables.specs.Cells.{Tables, partial_list, full_list, count_at, entry_at, entry_of, entry_span, entry_slot}
use Rattle.magazine.specs.Magazine.{push_entry, top_entry, pop_entry, drawn_at, draw_entry}
use Rattle.magazine.proofs.OtherMagazines.{push_only, pop_only, draw_only}
use Rattle.span.specs.Span.{is_full, is_empty, dealloc_slot, remote_free}
use Rattle.class_heap.specs.Steps.{refile, give_back, flush_one, flush}
use Rattle.sound.specs.Sound.{home_of, Belongs, EntrySound}
use Rattle.sound.specs.Filled.{Filled}
use Rattle.filled_magazines.proofs.FilledFacts.{belongs_home, filled_room}
use Rattle.sound.proofs.StateTests.{free_no_out, pending_no_out, cached_no_out}
use Rattle.filled_magazines.proofs.MagazineSteps.{top_is_cached, top_sound, drawn_is_cached, drawn_sound, push_entry_becomes, pop_entry_becomes, draw_entry_becomes}
use Rattle.filled_spans.proofs.SpanValues.{filled_cells}
use Rattle.filled_spans.proofs.ReleaseKept.{release_only, release_states}
use Rattle.filled_spans.proofs.RemoteFreeKept.{remote_only, remote_states}
use Rattle.placing.specs.Working.{Working}
use Rattle.placing.proofs.PlacingQuiet.{refile_quiet}
use Rattle.flushing.specs.Returnable.{Returnable}
use Rattle.flushing.proofs.FlushingLaws.{top_returnable, flush_one_working}
use Rattle.outs.specs.Outs.{IsOut, SameOuts, ComesOut, GoesBack}
use Rattle.outs.proofs.OutsLaws.{magazine_spans, occupancy_spans, out_within, same_outs, same_outs_then, goes_same, comes_goes, becomes_comes, becomes_goes}
use Rattle.outs.proofs.FillsLaws.{quiet_outs}

-- ---- a magazine's entry

-- A sound entry's slot is one of its span.
sound_inside :
    (g : Shape) (t : Tables) (h c e : ℕ) → EntrySound t (class_heap g h c) e → entry_slot e < (home_of g t (entry_span e)).slots
sound_inside g t h c e m = rw (belongs_home g t h c (entry_span e) m.belongs) m.in_range

module _ {g : Shape} {t : Tables} (o : Filled g t) {h c : ℕ} (hh : h < g.heaps) (hc : c < classes g) where
  module _ (some : 0 < count_at t (class_heap g h c)) where
    -- The block of the top entry comes out,
    pop_out :
        ComesOut g t (pop_entry t (class_heap g h c)) (entry_span (top_entry t (class_heap g h c))) (entry_slot (top_entry t (class_heap g h c)))
    pop_out =
        let k = class_heap g h c in
        let m = top_sound o hh hc some in
        becomes_comes (magazine_spans (pop_only t k)) (pop_only t k).used (pop_entry_becomes o hh hc some) m.belongs.used
        (sound_inside g t h c (top_entry t k) m)
        (λ e. cached_no_out (sym (top_is_cached o hh hc some) ∙ e))

    -- and that of a drawn one.
    draw_out :
        (word : ℕ) →
        ComesOut g t (draw_entry t (class_heap g h c) word) (entry_span (entry_at t (class_heap g h c) (drawn_at t (class_heap g h c) word)))
        (entry_slot (entry_at t (class_heap g h c) (drawn_at t (class_heap g h c) word)))
    draw_out word =
        let k = class_heap g h c in
        let only = draw_only t k word (filled_room o hh hc) some in
        let m = drawn_sound o hh hc some word in
        becomes_comes (magazine_spans only) only.used (draw_entry_becomes o hh hc some word) m.belongs.used
        (sound_inside g t h c (entry_at t k (drawn_at t k word)) m)
        (λ e. cached_no_out (sym (drawn_is_cached o hh hc some word) ∙ e))

  -- A block that is out, of that class and heap, goes back into the magazine.
  push_back :
      {s q : ℕ} →
      Belongs t (class_heap g h c) s →
      IsOut g t s q →
      count_at t (class_heap g h c) < (class_heap g h c).capacity →
      GoesBack g t (push_entry t (class_heap g h c) (entry_of s q)) s q
  push_back {s} {q} b i free =
      let k = class_heap g h c in
      let only = push_only t k (entry_of s q) free in
      let inside : q < k.slots = rw (sym (belongs_home g t h c s b)) i.slot in
      becomes_goes (magazine_spans only) only.used (push_entry_becomes o hh hc b inside i.out free) cached_no_out i

-- The same of a working table, whose class of a heap has a name.
module _ {n : ℕ} {k : ClassHeap} {t : Tables} (w : Working n k t) where
  module _ (some : 0 < count_at t k) where
    -- A pop takes the top entry's block out.
    pub pop_comes : ComesOut w.shape t (pop_entry t k) (entry_span (top_entry t k)) (entry_slot (top_entry t k))
    pop_comes = rw w.named (pop_out w.filled w.in_heaps w.in_classes (rw w.named at some))

    -- A draw takes the drawn entry's block out.
    pub draw_comes :
        (word : ℕ) →
        ComesOut w.shape t (draw_entry t k word) (entry_span (entry_at t k (drawn_at t k word))) (entry_slot (entry_at t k (drawn_at t k word)))
    draw_comes word = rw w.named (draw_out w.filled w.in_heaps w.in_classes (rw w.named at some) word)

    -- The drawn entry's span is of that class and heap.
    pub draw_belongs : (word : ℕ) → Belongs t k (entry_span (entry_at t k (drawn_at t k word)))
    draw_belongs word = rw w.named (drawn_sound w.filled w.in_heaps w.in_classes (rw w.named at some) word).belongs

  -- A push brings a block back that is out, where there is room.
  pub push_goes :
      {s q : ℕ} → Belongs t k s → IsOut w.shape t s q → count_at t k < k.capacity → GoesBack w.shape t (push_entry t k (entry_of s q)) s q
  push_goes b i free =
      rw w.named (push_back w.filled w.in_heaps w.in_classes (rw w.named at b) i (rw w.named at free))

-- ---- a slot of a span

module _ (g : Shape) (t : Tables) (f : Filled g t) (s q : ℕ) (i : IsOut g t s q) where
  -- A block that is out goes back to its span and is free,
  pub release_goes : GoesBack g t (dealloc_slot t s q) s q
  release_goes =
      let only = release_only g t f s i.used q i.slot i.out in
      becomes_goes (occupancy_spans only) only.used (release_states g t f s i.used q i.slot i.out) free_no_out i

  -- or waits to be folded.
  pub remote_goes : GoesBack g t (remote_free t s q) s q
  remote_goes =
      let only = remote_only t s (filled_cells g t f s i.used).words q (out_within i) in
      becomes_goes (occupancy_spans only) only.used (remote_states g t f s i.used q i.slot i.out) pending_no_out i

-- A slot given back, with its span placed anew.
pub give_back_goes : {n : ℕ} {k : ClassHeap} {t : Tables} {s q : ℕ} (r : Returnable n k t s q) → GoesBack r.working.shape t (give_back t k s q) s q
unfolding give_back
give_back_goes {n} {k} {t} {s} {q} r =
    let g = r.working.shape in
    let u = dealloc_slot t s q in
    let P : Tables → Type 0 = λ v. GoesBack g t v s q in
    let here = release_goes g t r.working.filled s q (record { used = r.used; slot = r.inside; out = r.out }) in
    cond_both P (is_full t k s) (refile u k full_list s) (cond (is_empty u s) (refile u k partial_list s) u)
    (λ e. goes_same here (quiet_outs (refile_quiet u k full_list (omega arith) s) g))
    (λ e.
    cond_both P (is_empty u s) (refile u k partial_list s) u (λ d. goes_same here (quiet_outs (refile_quiet u k partial_list (omega arith) s) g))
    (λ d. here))

-- ---- a flush leaves the same blocks out

-- The top entry's block comes out and goes back to its span.
pub flush_one_outs : {n : ℕ} {k : ClassHeap} {t : Tables} (w : Working n k t) → 0 < count_at t k → SameOuts w.shape t (flush_one t k)
unfolding flush_one
flush_one_outs w some = comes_goes (pop_comes w some) (give_back_goes (top_returnable w some))

-- The same for each entry down to low water.
pub flush_outs : (i : ℕ) {n : ℕ} {k : ClassHeap} {t : Tables} (w : Working n k t) → SameOuts w.shape t (flush i t k)
unfolding flush
flush_outs zero {t = t} w = same_outs w.shape t
flush_outs (suc i) {n} {k} {t} w =
    cond_both (SameOuts w.shape t) (ltb k.low (count_at t k)) (flush i (flush_one t k) k) t
    (λ e.
    let some : 0 < count_at t k = omega (arith, ltb-true k.low (count_at t k) e) in
    same_outs_then (flush_one_outs w some) (flush_outs i (flush_one_working w some)))
    (λ e. same_outs w.shape t)

-- What the steps of a call do to the rows of a whole table: a refill first, a draw, a free by the owner, a free by another heap. Each changes one row, as
-- the model says, and leaves the others. Assumes nothing.
use mathlib.Core.Path.{◌≡◌, refl, sym, ap, subst, ◌∙◌}
use mathlib.Core.Bool.{Bool, true, false, cond}
use mathlib.Core.List.{List}
use Prim.Native.Nat.{ℕ, ◌+◌, ◌-◌, ◌*◌, ◌^◌, ◌<◌, ◌≤◌}
use native.Mathlib.Nat.{le_refl}
use native.Mathlib.Omega.{arith}
use borrow.Author.Tests.{eqb-true, eqb-false}
use lib.Dec.{eqb, leb}
use Rattle.laws.proofs.CondLaws.{cond_both}
use Rattle.size_classes.specs.Slots.{most_slots}
use Rattle.tables.specs.declared.ClassHeap.{ClassHeap}
use Rattle.tables.specs.Shape.{Shape, classes, class_heap}
use Rattle.tables.specs.Cells.{Tables, count_at, entry_at, entry_of, entry_span, entry_slot}
use Rattle.magazine.specs.Held.{Apart}
use Rattle.magazine.specs.Magazine.{needs_refill, is_full, push_entry, drawn_at, draw_entry}
use Rattle.magazine.proofs.MagazineLaws.{push_count, draw_count_lem}
use Rattle.magazine.proofs.OtherMagazines.{class_heaps_apart, push_only, draw_only}
use Rattle.span.specs.Span.{remote_free}
use Rattle.class_heap.specs.Steps.{Refilled, refill, refilled, flush}
use Rattle.calls.specs.Heap.{refill_first, flush_first, dealloc_local}
use Rattle.calls.specs.Primary.{dealloc_small}
use Rattle.sound.specs.Sound.{Belongs}
use Rattle.filled_magazines.proofs.FilledFacts.{belongs_home, home_owner, filled_room, low_under, count_within}
use Rattle.filled_magazines.proofs.MagazineSteps.{block_out_entry}
use Rattle.homes.specs.Homes.{Whole}
use Rattle.outs.specs.Outs.{IsOut, SameOuts, ComesOut, GoesBack}
use Rattle.outs.proofs.OutsLaws.{spans_belongs, same_outs, same_goes}
use Rattle.outs.proofs.BlockOuts.{draw_comes, draw_belongs, push_goes, remote_goes, flush_outs}
use Rattle.sound_steps.proofs.FlushSteps.{remote_whole, push_entry_whole, draw_entry_whole, flush_whole}
use Rattle.chance.specs.Counts.{Row, stock, refill_first_count, draw_row, free_row}
use Rattle.chance.specs.Chance.{row_in}
use Rattle.chance.proofs.RowTests.{belongs_once, same_spans, other_spans, same_out, comes_more, comes_other, goes_fewer, goes_other}
use Rattle.chance.proofs.ModelLaws.{same_row}
use Rattle.chance.proofs.RefillCounts.{working, refilled_outs, refilled_whole, refilled_new, refilled_row}
use Rattle.chance.proofs.OtherCounts.{push_other, draw_other, refill_other, flush_other, flush_used, flush_count}

-- from t to u the row of class c of heap h alone may have changed, and the table is whole
pub record Stays (g : Shape) (h c : ℕ) (t u : Tables) : Type 0 where
  pub whole : Whole g u
  pub others : (x y : ℕ) → x < g.heaps → y < classes g → (x ≡ h → y ≡ c → ⊥) → row_in g u x y ≡ row_in g t x y

-- Rows of equal numbers are equal.
rows_same : (r s : Row) → r.cached ≡ s.cached → r.out ≡ s.out → r.spans ≡ s.spans → r ≡ s
rows_same r s a b d = same_row r s.cached s.out s.spans a b d

-- The number cached is the count.
row_cached : (g : Shape) (t : Tables) (h c : ℕ) → (row_in g t h c).cached ≡ count_at t (class_heap g h c)
unfolding row_in
row_cached g t h c = refl

-- the block of a draw, and the row after it
pub record Draws (g : Shape) (h c : ℕ) (t u : Tables) (s q : ℕ) : Type 0 where
  pub stays : Stays g h c t u
  pub comes : ComesOut g t u s q
  pub belongs : Belongs u (class_heap g h c) s
  pub row : row_in g u h c ≡ draw_row (row_in g t h c)
  pub used : u.used ≡ t.used

-- the block of a free, and the row after it
pub record Frees (g : Shape) (h c : ℕ) (own : Bool) (t u : Tables) (s q : ℕ) : Type 0 where
  pub stays : Stays g h c t u
  pub goes : GoesBack g t u s q
  pub row : row_in g u h c ≡ free_row (class_heap g h c) own (row_in g t h c)
  pub used : u.used ≡ t.used

-- the same blocks are out, and the row is the model's
pub record Refills (g : Shape) (h c : ℕ) (t u : Tables) : Type 0 where
  pub stays : Stays g h c t u
  pub outs : SameOuts g t u
  pub stocked : stock (row_in g u h c) u.used ≡ refill_first_count g.spans (class_heap g h c) (row_in g t h c) t.used

module _ (g : Shape) (small : g.spans * most_slots ≤ 2 ^ 64) (h c : ℕ) (hh : h < g.heaps) (hc : c < classes g) where
  abbrev k : ClassHeap
  k = class_heap g h c

  -- another class or heap has another magazine
  apart : (x y : ℕ) → y < classes g → (x ≡ h → y ≡ c → ⊥) → Apart k (class_heap g x y)
  apart x y l n = class_heaps_apart g h x c y hc l (λ e d. n (sym e) (sym d))

  -- a span of this one is of no other
  not_other : {u : Tables} {s : ℕ} (x y : ℕ) → (x ≡ h → y ≡ c → ⊥) → Belongs u k s → Belongs u (class_heap g x y) s → ⊥
  not_other {u} {s} x y n a b = let r = belongs_once g u h c x y s a b in n r.0 r.1

  -- Nothing changed.
  pub stays_same : {t : Tables} → Whole g t → Stays g h c t t
  stays_same o = record { whole = o; others = λ x y l m n. refl }

  -- One step after another.
  pub stays_then : {t u v : Tables} → Stays g h c t u → Stays g h c u v → Stays g h c t v
  stays_then a b = record { whole = b.whole; others = λ x y l m n. b.others x y l m n ∙ a.others x y l m n }

  module _ {t : Tables} (o : Whole g t) where
    -- ---- the refill of an allocation

    -- A refill.
    refill_stays : (ws : List ℕ) → Stays g h c t (refill k.capacity g.spans t k ws 0).table
    refill_stays ws =
        let few = le_refl g.spans in
        let u = (refill k.capacity g.spans t k ws 0).table in
        let a = refilled_outs g h c hh hc g.spans few small o ws in
        record {
          whole = refilled_whole g h c hh hc g.spans few small o ws;
          others =
              λ x y l m n.
              rows_same (row_in g u x y) (row_in g t x y)
              (row_cached g u x y ∙ refill_other k (class_heap g x y) (apart x y m n) k.capacity g.spans t ws 0 ∙ sym (row_cached g t x y))
              (same_out g x y a)
              (other_spans g x y a.spans
              (λ s i b. not_other x y n (refilled_new g h c hh hc g.spans few small o ws s i b.used) b));
        }

    -- A refill where the count is at or below low water.
    pub refill_first_lem : (ws : List ℕ) → Refills g h c t (refill_first g.spans t k ws).table
    unfolding refill_first refill_first_count
    refill_first_lem ws =
        let few = le_refl g.spans in
        let low : leb (row_in g t h c).cached k.low ≡ needs_refill t k = ap (λ (n : ℕ). leb n k.low) (row_cached g t h c) in
        cond_both (λ (x : Refilled). Refills g h c t x.table) (needs_refill t k) (refill k.capacity g.spans t k ws 0) (refilled t 0)
        (λ e.
        record {
          stays = refill_stays ws;
          outs = refilled_outs g h c hh hc g.spans few small o ws;
          stocked = refilled_row g h c hh hc g.spans few small o ws ∙ rw (low ∙ e);
        })
        (λ e. record { stays = stays_same o; outs = same_outs g t; stocked = rw (low ∙ e) })

    -- ---- the draw

    module _ (some : 0 < count_at t k) (word : ℕ) where
      -- A draw takes the drawn entry's block out.
      pub draws :
          Draws g h c t (draw_entry t k word) (entry_span (entry_at t k (drawn_at t k word))) (entry_slot (entry_at t k (drawn_at t k word)))
      draws =
          let w = working g h c hh hc g.spans (le_refl g.spans) small o in
          let u = draw_entry t k word in
          let only = draw_only t k word (filled_room o.near.filled hh hc) some in
          let comes = draw_comes w some word in
          let b = spans_belongs comes.spans (draw_belongs w some word) in
          record {
            stays =
                record {
                  whole = draw_entry_whole hh hc o some word;
                  others =
                      λ x y l m n.
                      rows_same (row_in g u x y) (row_in g t x y)
                      (row_cached g u x y ∙ draw_other k (class_heap g x y) (apart x y m n) t word ∙ sym (row_cached g t x y))
                      (comes_other g x y only.used comes (λ d. not_other x y n b d)) (same_spans g x y comes.spans only.used);
                };
            comes = comes;
            belongs = b;
            row =
                same_row (row_in g u h c) _ _ _
                (row_cached g u h c ∙ draw_count_lem t k (filled_room o.near.filled hh hc) some word ∙ ap (λ (n : ℕ). n - 1) (sym (row_cached g t h c)))
                (comes_more g h c only.used comes b) (same_spans g h c comes.spans only.used);
            used = only.used;
          }

    -- ---- the frees

    -- A flush of a full magazine.
    flush_stays : Stays g h c t (flush k.capacity t k)
    flush_stays =
        let u = flush k.capacity t k in
        let a = flush_outs k.capacity (working g h c hh hc g.spans (le_refl g.spans) small o) in
        record {
          whole = flush_whole hh hc k.capacity o;
          others =
              λ x y l m n.
              rows_same (row_in g u x y) (row_in g t x y)
              (row_cached g u x y ∙ flush_other k (class_heap g x y) (apart x y m n) k.capacity t ∙ sym (row_cached g t x y))
              (same_out g x y a) (same_spans g x y a.spans (flush_used k.capacity t k));
        }

    module _ {s q : ℕ} (b : Belongs t k s) (i : IsOut g t s q) where
      inside : q < k.slots
      inside = subst (λ (x : ClassHeap). q < x.slots) (belongs_home g t h c s b) i.slot

      -- A push, where there is room.
      push_stays : count_at t k < k.capacity → Stays g h c t (push_entry t k (entry_of s q))
      push_stays room =
          let u = push_entry t k (entry_of s q) in
          let only = push_only t k (entry_of s q) room in
          let goes = push_goes (working g h c hh hc g.spans (le_refl g.spans) small o) b i room in
          record {
            whole = push_entry_whole hh hc o (block_out_entry g t h c s b inside i.out) room;
            others =
                λ x y l m n.
                rows_same (row_in g u x y) (row_in g t x y)
                (row_cached g u x y ∙ push_other k (class_heap g x y) (apart x y m n) t (entry_of s q) ∙ sym (row_cached g t x y))
                (goes_other g x y only.used goes (λ d. not_other x y n b d)) (same_spans g x y goes.spans only.used);
          }

      -- A free by another heap.
      pub remote_frees : Frees g h c false t (remote_free t s q) s q
      unfolding free_row
      remote_frees =
          let u = remote_free t s q in
          let goes = remote_goes g t o.near.filled s q i in
          let e : u.used ≡ t.used = unfold remote_free in refl in
          let d : (x y : ℕ) → (row_in g u x y).cached ≡ (row_in g t x y).cached = unfold remote_free row_in in λ x y. refl in
          record {
            stays =
                record {
                  whole = remote_whole s q o i.used i.slot i.out;
                  others =
                      λ x y l m n.
                      rows_same (row_in g u x y) (row_in g t x y) (d x y) (goes_other g x y e goes (λ z. not_other x y n b z))
                      (same_spans g x y goes.spans e);
                };
            goes = goes;
            row = same_row (row_in g u h c) _ _ _ (d h c) (omega (arith, goes_fewer g h c e goes b)) (same_spans g h c goes.spans e);
            used = e;
          }

-- a push after a flush, or after nothing
module _ (g : Shape) (small : g.spans * most_slots ≤ 2 ^ 64) (h c : ℕ) (hh : h < g.heaps) (hc : c < classes g) {t u : Tables} {s q : ℕ} where
  push_frees :
      Whole g u → Stays g h c t u → SameOuts g t u → u.used ≡ t.used → Belongs t (class_heap g h c) s → IsOut g t s q →
      count_at u (class_heap g h c) < (class_heap g h c).capacity →
      count_at u (class_heap g h c) + 1 ≡ cond (eqb (row_in g t h c).cached (class_heap g h c).capacity) ((class_heap g h c).low + 1) ((row_in g t h c).cached + 1) →
      Frees g h c true t (push_entry u (class_heap g h c) (entry_of s q)) s q
  unfolding free_row
  push_frees o a same e b i room n =
      let k = class_heap g h c in
      let v = push_entry u k (entry_of s q) in
      let only = push_only u k (entry_of s q) room in
      let b' = spans_belongs same.spans b in
      let i' = same.kept s q i in
      let goes = push_goes (working g h c hh hc g.spans (le_refl g.spans) small o) b' i' room in
      let used : v.used ≡ t.used = only.used ∙ e in
      let all = same_goes same goes in
      record {
        stays = stays_then g small h c hh hc a (push_stays g small h c hh hc o b' i' room);
        goes = all;
        row =
            same_row (row_in g v h c) _ _ _
            (row_cached g v h c ∙ push_count u k (filled_room o.near.filled hh hc) (entry_of s q) room ∙ n)
            (omega (arith, goes_fewer g h c used all b)) (same_spans g h c all.spans used);
        used = used;
      }

module _ (g : Shape) (small : g.spans * most_slots ≤ 2 ^ 64) (h c : ℕ) (hh : h < g.heaps) (hc : c < classes g) {t : Tables} (o : Whole g t) {s q : ℕ}
    (b : Belongs t (class_heap g h c) s) (i : IsOut g t s q) where
  -- A free by the owner.
  local_frees : Frees g h c true t (dealloc_local t (class_heap g h c) s q) s q
  unfolding dealloc_local flush_first
  local_frees =
      let k = class_heap g h c in
      let w = working g h c hh hc g.spans (le_refl g.spans) small o in
      let same = row_cached g t h c in
      let test : eqb (row_in g t h c).cached k.capacity ≡ is_full t k = ap (λ (n : ℕ). eqb n k.capacity) same in
      let low = low_under g h c in
      cond_both (λ (u : Tables). Frees g h c true t (push_entry u k (entry_of s q)) s q) (is_full t k) (flush k.capacity t k) t
      (λ e.
      let full = eqb-true (count_at t k) k.capacity e in
      let d = flush_count k.capacity w (omega (arith, full, low)) (omega (arith, full)) in
      push_frees g small h c hh hc (flush_whole hh hc k.capacity o) (flush_stays g small h c hh hc o) (flush_outs k.capacity w)
      (flush_used k.capacity t k) b i (omega (arith, d, low)) (rw (test ∙ e) (omega (arith, d))))
      (λ e.
      push_frees g small h c hh hc o (stays_same g small h c hh hc o) (same_outs g t) refl b i
      (omega (arith, eqb-false (count_at t k) k.capacity e, count_within o.near.filled hh hc)) (rw (test ∙ e) (omega (arith, same))))

  -- A free by any heap.
  pub frees : (heap : ℕ) → Frees g h c (eqb h heap) t (dealloc_small t (class_heap g h c) heap s q) s q
  unfolding dealloc_small
  frees heap =
      let k = class_heap g h c in
      let own : eqb k.owner heap ≡ eqb h heap = ap (λ (n : ℕ). eqb n heap) (home_owner g h c) in
      cond_both (λ (u : Tables). Frees g h c (eqb h heap) t u s q) (eqb k.owner heap) (dealloc_local t k s q) (remote_free t s q)
      (λ e. rw (sym own ∙ e) local_frees) (λ e. rw (sym own ∙ e) (remote_frees g small h c hh hc o b i))

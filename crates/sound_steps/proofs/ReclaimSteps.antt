-- The walk over the full spans of a class of a heap keeps a table whole. Assumes nothing.
use mathlib.Core.Path.{◌≡◌, refl, ap, ◌∙◌}
use Prim.Native.Nat.{ℕ, zero, suc, ◌+◌, ◌-◌, ◌<◌}
use native.Mathlib.Omega.{arith}
use borrow.Author.Tests.{eqb-false}
use lib.Dec.{eqb}
use Rattle.laws.proofs.CondLaws.{cond_both}
use Rattle.tables.specs.declared.ClassHeap.{ClassHeap}
use Rattle.tables.specs.Shape.{Shape, classes, class_heap}
use Rattle.tables.specs.Cells.{Tables, class_field, owner_field, occupied_at, next_at, head_cell, head_at, full_list}
use Rattle.linked_list.specs.Named.{RowName, ListName}
use Rattle.linked_list.proofs.QuietLaws.{quiet_class, quiet_owner, quiet_occupied}
use Rattle.span.specs.Span.{has_pending, reclaim_pending}
use Rattle.class_heap.specs.Steps.{refile, reclaim_one, reclaim}
use Rattle.sound.specs.Sound.{Belongs}
use Rattle.sound.specs.Filled.{Filled}
use Rattle.filled_spans.proofs.FilledKept.{only_field}
use Rattle.filled_spans.proofs.ReclaimKept.{reclaim_only, reclaim_kept}
use Rattle.placing.proofs.PlacingQuiet.{refile_quiet}
use Rattle.reclaiming.proofs.ReclaimingLaws.{reclaim_one_used}
use Rattle.homes.specs.Homes.{Whole}
use Rattle.homes.proofs.HomesFrame.{SameRecord, count_other, loose_recounted}
use Rattle.homes.proofs.HomesMoved.{class_list_lem, full_home, full_loose, member}
use Rattle.homes.proofs.HomesPlaced.{refile_kept}

-- ---- full spans

-- a used span of k with every slot occupied
pub record FullSpan (t : Tables) (k : ClassHeap) (s : ℕ) : Type 0 where
  pub belongs : Belongs t k s
  pub full : occupied_at t s ≡ k.slots

-- a link to none or to a full span of k
abbrev pub FullLink : Tables → ClassHeap → ℕ → Type 0
FullLink t k x = (y : ℕ) → x ≡ y + 1 → FullSpan t k y

module _ {g : Shape} {h c : ℕ} (hh : h < g.heaps) (hc : c < classes g) where
  module _ {t : Tables} (o : Whole g t) where
    -- a span at home in the full list is full
    pub full_member : {s : ℕ} → o.home s ≡ head_cell (class_heap g h c).row full_list → FullSpan t (class_heap g h c) s
    full_member e = let m = member hh hc o (omega arith) e in record { belongs = m.0.belongs; full = m.1.all refl }

    -- the front of the full list
    pub full_front : FullLink t (class_heap g h c) (head_at t (class_heap g h c) full_list)
    full_front y e =
        full_member (o.near.listed.front (head_cell (class_heap g h c).row full_list) y (class_list_lem hh hc (omega arith)) e).mine

    -- what is next after a full span is a full span, another one
    pub full_next : (s y : ℕ) → FullSpan t (class_heap g h c) s → next_at t s ≡ y + 1 → FullSpan t (class_heap g h c) y × (y ≡ s → ⊥)
    full_next s y w e =
        let q = full_home hh hc o w.belongs w.full in
        let i : ListName (RowName g) (o.home s) = rw q (class_list_lem hh hc {f = full_list} (omega arith)) in
        let a = o.near.listed.after s y i e in
        (full_member (a.same ∙ q), λ z. omega (arith, a.lower, ap o.rank z))

    -- ---- one span

    -- a full span with pending frees, folded, unlinked and placed
    pub reclaim_one_whole : {s : ℕ} → FullSpan t (class_heap g h c) s → Whole g (reclaim_one t (class_heap g h c) s)
    unfolding reclaim_one
    reclaim_one_whole {s} w =
        let f = o.near.filled in
        let u = w.belongs.used in
        cond_both (Whole g) (has_pending t s) (refile (reclaim_pending t s) (class_heap g h c) full_list s) t
        (λ e.
        refile_kept hh hc (omega arith)
        (loose_recounted (full_loose hh hc o w.belongs w.full) (reclaim_only g t f s u) (reclaim_kept g t f s u)))
        (λ e. o)

  -- every other span keeps its class, owner and count
  pub reclaim_one_others :
      {t : Tables} {s y : ℕ} → Filled g t → s < t.used → (y ≡ s → ⊥) → SameRecord t (reclaim_one t (class_heap g h c) s) y
  unfolding reclaim_one
  reclaim_one_others {t} {s} {y} f u n =
      let v = reclaim_pending t s in
      let q = refile_quiet v (class_heap g h c) full_list (omega arith) s in
      let p = reclaim_only g t f s u in
      cond_both (λ u. SameRecord t u y) (has_pending t s) (refile v (class_heap g h c) full_list s) t
      (λ e.
      record {
        class = quiet_class q y ∙ only_field p y class_field (omega arith) (λ e. omega (arith, e));
        owner = quiet_owner q y ∙ only_field p y owner_field (omega arith) (λ e. omega (arith, e));
        occupied = quiet_occupied q y ∙ count_other p n;
      })
      (λ e. record { class = refl; owner = refl; occupied = refl })

  -- so what was next is a full span still
  pub full_stays :
      {t : Tables} (o : Whole g t) (s : ℕ) → FullSpan t (class_heap g h c) s → FullLink (reclaim_one t (class_heap g h c) s) (class_heap g h c) (next_at t s)
  full_stays {t} o s w y e =
      let p = full_next o s y w e in
      let r = reclaim_one_others o.near.filled w.belongs.used p.1 in
      record {
        belongs =
            record {
              used = rw (reclaim_one_used t (class_heap g h c) s) p.0.belongs.used;
              class = r.class ∙ p.0.belongs.class;
              owner = r.owner ∙ p.0.belongs.owner;
            };
        full = r.occupied ∙ p.0.full;
      }

  -- ---- the walk

  -- whatever its fuel, from a link to none or to a full span
  pub reclaim_whole :
      (n : ℕ) {t : Tables} (x : ℕ) → Whole g t → FullLink t (class_heap g h c) x → Whole g (reclaim n t (class_heap g h c) x)
  unfolding reclaim
  reclaim_whole zero x o w = o
  reclaim_whole (suc n) {t} x o w =
      cond_both (Whole g) (eqb x 0) t (reclaim n (reclaim_one t (class_heap g h c) (x - 1)) (class_heap g h c) (next_at t (x - 1))) (λ e. o)
      (λ e.
      let f = w (x - 1) (omega (arith, eqb-false x 0 e)) in
      reclaim_whole n (next_at t (x - 1)) (reclaim_one_whole o f) (full_stays o (x - 1) f))

  -- and so from the front of the full list
  pub reclaimed_whole : {t : Tables} → Whole g t → Whole g (reclaim t.used t (class_heap g h c) (head_at t (class_heap g h c) full_list))
  reclaimed_whole {t} o = reclaim_whole t.used (head_at t (class_heap g h c) full_list) o (full_front o)

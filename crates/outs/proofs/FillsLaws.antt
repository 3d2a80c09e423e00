-- The steps of a refill take no block out and bring none back, and what is cached stays cached: they make pending blocks free, new ones free, and free
-- ones cached. Assumes nothing.
use mathlib.Core.Path.{◌≡◌, refl, sym, ap, ◌∙◌}
use mathlib.Core.Bool.{cond}
use Prim.Native.Nat.{ℕ, zero, suc, ◌-◌, ◌<◌, ◌≤◌}
use native.Mathlib.Nat.{lt_of_lt_of_le}
use native.Mathlib.Decide.{ℕ_discrete, dec_lt}
use native.Mathlib.Omega.{arith}
use borrow.Author.Tests.{eqb-false, ltb-true}
use lib.Dec.{eqb, ltb}
use Rattle.laws.proofs.CondLaws.{cond_both}
use Rattle.size_classes.specs.Slots.{most_slots}
use Rattle.tables.specs.declared.ClassHeap.{ClassHeap}
use Rattle.tables.specs.Shape.{Shape, classes, class_heap}
use Rattle.tables.specs.Cells.{Tables, class_field, owner_field, next_at, head_at, partial_list, full_list}
use Rattle.linked_list.specs.Quiet.{Quiet}
use Rattle.linked_list.proofs.QuietLaws.{push_quiet}
use Rattle.span.specs.Span.{has_pending, reclaim_pending, folded, new_span}
use Rattle.span.specs.declared.BlockState.{BlockState}
use Rattle.span.specs.declared.BlockState.TheVariants.{Free, Cached, Pending, Out}
use Rattle.span.specs.State.{state_of}
use Rattle.class_heap.specs.Steps.{refile, reclaim_one, reclaim, reactivate, create, no_partial, none_empty, supply, replenish}
use Rattle.sound.specs.Sound.{home_of}
use Rattle.sound.specs.Filled.{Filled}
use Rattle.sound.specs.States.{Becomes, SlotsOf}
use Rattle.sound.proofs.StateTests.{free_no_pending, free_no_out, pending_no_cached, pending_no_out, cached_no_out}
use Rattle.filled_magazines.proofs.ListSteps.{quiet_state}
use Rattle.filled_spans.proofs.SpanValues.{home_most}
use Rattle.filled_spans.proofs.FilledKept.{OnlyOccupancy}
use Rattle.filled_spans.proofs.ReclaimKept.{WasPending, reclaim_only, reclaim_states, folded_only, folded_states}
use Rattle.filled_spans.proofs.NewSpanKept.{new_home, new_only, new_record_lem, new_states}
use Rattle.placing.specs.Working.{Working}
use Rattle.placing.proofs.PlacingQuiet.{refile_quiet, reactivate_quiet}
use Rattle.placing.proofs.PlacingKept.{working_links}
use Rattle.reclaiming.proofs.ReclaimingLaws.{reclaim_one_working, reclaim_one_used}
use Rattle.replenishing.proofs.ReplenishingLaws.{reclaimed_working}
use Rattle.outs.specs.Outs.{SameSpans, SameOuts}
use Rattle.outs.proofs.OutsLaws.{spans_same, spans_then, quiet_spans, occupancy_spans, out_after, out_before, out_within}

-- ---- one block

-- a block's state before and after such a step: it is out exactly if it was, and still cached if it was
pub record Settled (a b : BlockState) : Type 0 where
  pub kept : a ≡ Out → b ≡ Out
  pub none : b ≡ Out → a ≡ Out
  pub cached : a ≡ Cached → b ≡ Cached

-- The same state.
pub settled_same : {a b : BlockState} → b ≡ a → Settled a b
settled_same e = record { kept = λ h. e ∙ h; none = λ h. sym e ∙ h; cached = λ h. e ∙ h }

-- Pending, and then free.
pub settled_free : {a b : BlockState} → a ≡ Pending → b ≡ Free → Settled a b
settled_free p f =
    record {
      kept = λ h. absurd (pending_no_out (sym p ∙ h));
      none = λ h. absurd (free_no_out (sym f ∙ h));
      cached = λ h. absurd (pending_no_cached (sym p ∙ h));
    }

-- Free, and then cached.
pub settled_cached : {a b : BlockState} → a ≡ Free → b ≡ Cached → Settled a b
settled_cached f c =
    record {
      kept = λ h. absurd (free_no_out (sym f ∙ h));
      none = λ h. absurd (cached_no_out (sym c ∙ h));
      cached = λ h. c;
    }

-- One step after another.
settled_then : {a b c : BlockState} → Settled a b → Settled b c → Settled a c
settled_then x y = record { kept = λ h. y.kept (x.kept h); none = λ h. x.none (y.none h); cached = λ h. y.cached (x.cached h) }

-- ---- all blocks

-- from t to u every block of a used span is settled, and no block of a new span is out
pub record Fills (g : Shape) (t u : Tables) : Type 0 where
  pub spans : SameSpans t u
  pub old : (s q : ℕ) → s < t.used → q < most_slots → Settled (state_of g t s q) (state_of g u s q)
  pub new : (s q : ℕ) → t.used ≤ s → s < u.used → q < (home_of g u s).slots → state_of g u s q ≡ Out → ⊥

-- The same blocks are out.
pub fills_outs : {g : Shape} {t u : Tables} → Fills g t u → SameOuts g t u
fills_outs {g} {t} {u} a =
    record {
      spans = a.spans;
      kept = λ s q o. out_after a.spans o ((a.old s q o.used (out_within o)).kept o.out);
      none =
          λ s q o.
          elim (dec_lt s t.used) [
            | yes l ↦ out_before a.spans o l ((a.old s q l (out_within o)).none o.out)
            | no l ↦ absurd (a.new s q (omega arith) o.used o.slot o.out)
          ];
    }

-- Nothing changed.
pub fills_same : (g : Shape) (t : Tables) → Fills g t t
fills_same g t =
    record { spans = spans_same t; old = λ s q l m. settled_same refl; new = λ s q l m h e. omega (arith, l, m) }

-- One such step after another.
pub fills_then : {g : Shape} {t u v : Tables} → Fills g t u → Fills g u v → Fills g t v
fills_then {g} {t} {u} {v} a b =
    record {
      spans = spans_then a.spans b.spans;
      old = λ s q l m. settled_then (a.old s q l m) (b.old s q (lt_of_lt_of_le l a.spans.used) m);
      new =
          λ s q l m h e.
          elim (dec_lt s u.used) [
            | yes y ↦
                let o = out_before b.spans (record { used = m; slot = h; out = e }) y ((b.old s q y (lt_of_lt_of_le h (home_most g v s))).none e) in
                a.new s q l y o.slot o.out
            | no y ↦ b.new s q (omega arith) m h e
          ];
    }

-- Steps that keep the number of used spans have no new ones.
pub fills_by :
    {g : Shape} {t u : Tables} →
    SameSpans t u →
    u.used ≡ t.used →
    ((s q : ℕ) → s < t.used → q < most_slots → Settled (state_of g t s q) (state_of g u s q)) →
    Fills g t u
fills_by a n f = record { spans = a; old = f; new = λ s q l m h e. omega (arith, l, m, n) }

-- A step of links and fronts changes no state.
pub quiet_fills : {t u : Tables} → Quiet t u → (g : Shape) → Fills g t u
quiet_fills q g = fills_by (quiet_spans q) q.used (λ x y l m. settled_same (quiet_state q g x y))

-- So it leaves the same blocks out.
pub quiet_outs : {t u : Tables} → Quiet t u → (g : Shape) → SameOuts g t u
quiet_outs q g = fills_outs (quiet_fills q g)

-- ---- pending blocks become free

-- A block is pending, or not.
pending_or : (b : BlockState) → Dec (b ≡ Pending)
pending_or Free = no (λ e. free_no_pending e)
pending_or Cached = no (λ e. pending_no_cached (sym e))
pending_or Pending = yes refl
pending_or Out = no (λ e. pending_no_out (sym e))

-- A step of one span's occupancy that makes its pending blocks free.
pendings_fill :
    (g : Shape) (t u : Tables) (a : ℕ) → OnlyOccupancy t u a → Becomes g t u (SlotsOf a (WasPending g t a)) Free → Fills g t u
pendings_fill g t u a only z =
    fills_by (occupancy_spans only) only.used (λ x y l m. go x y l m (ℕ_discrete x a) (pending_or (state_of g t a y)))
  where
    go : (x y : ℕ) → x < t.used → y < most_slots → Dec (x ≡ a) → Dec (state_of g t a y ≡ Pending) → Settled (state_of g t x y) (state_of g u x y)
    go x y l m (yes e) (yes p) =
        settled_free (ap (λ (w : ℕ). state_of g t w y) e ∙ p) (z.named x y l m (record { span = e; slot = p }))
    go x y l m (yes e) (no n) = settled_same (z.others x y l m (λ d. n d.slot))
    go x y l m (no n) d = settled_same (z.others x y l m (λ d. n d.span))

module _ (g : Shape) (t : Tables) (f : Filled g t) (s : ℕ) (l : s < t.used) where
  -- The fold of a span's pending frees,
  pub pending_fills : Fills g t (reclaim_pending t s)
  pending_fills = pendings_fill g t (reclaim_pending t s) s (reclaim_only g t f s l) (reclaim_states g t f s l)

  -- and the fold where there are any.
  pub folded_fills : Fills g t (folded t s)
  folded_fills = pendings_fill g t (folded t s) s (folded_only g t f s l) (folded_states g t f s l)

-- One full span, folded and placed anew.
pub reclaim_one_fills : {n : ℕ} {k : ClassHeap} {t : Tables} (w : Working n k t) {s : ℕ} → s < t.used → Fills w.shape t (reclaim_one t k s)
unfolding reclaim_one
reclaim_one_fills {n} {k} {t} w {s} l =
    let u = reclaim_pending t s in
    cond_both (Fills w.shape t) (has_pending t s) (refile u k full_list s) t
    (λ e. fills_then (pending_fills w.shape t w.filled s l) (quiet_fills (refile_quiet u k full_list (omega arith) s) w.shape))
    (λ e. fills_same w.shape t)

-- The walk over the full spans, from a link in range on.
pub reclaim_fills :
    (i : ℕ) {n : ℕ} {k : ClassHeap} {t : Tables} (x : ℕ) (w : Working n k t) → x ≤ t.used → Fills w.shape t (reclaim i t k x)
unfolding reclaim
reclaim_fills zero {t = t} x w l = fills_same w.shape t
reclaim_fills (suc i) {n} {k} {t} x w l =
    cond_both (Fills w.shape t) (eqb x 0) t (reclaim i (reclaim_one t k (x - 1)) k (next_at t (x - 1))) (λ e. fills_same w.shape t)
    (λ e.
    let h : x - 1 < t.used = omega (arith, eqb-false x 0 e) in
    fills_then (reclaim_one_fills w h)
    (reclaim_fills i (next_at t (x - 1)) (reclaim_one_working w h) (rw (reclaim_one_used t k (x - 1)) (w.filled.next (x - 1) h))))

-- ---- a new span's blocks are free

module _ (g : Shape) (t : Tables) (f : Filled g t) (unused : t.used < g.spans) {h c : ℕ} (hh : h < g.heaps) (hc : c < classes g) where
  -- The next unused span, written new.
  pub new_fills : Fills g t (new_span t (class_heap g h c))
  new_fills =
      let k = class_heap g h c in
      let r = new_record_lem g t f unused h c hh hc in
      let z = new_states g t f unused h c hh hc in
      let only = new_only g t f unused h c hh hc in
      record {
        spans =
            record {
              used = omega (arith, r.used);
              class = λ s l. only.fields s class_field (omega arith) (λ e. omega (arith, l, e));
              owner = λ s l. only.fields s owner_field (omega arith) (λ e. omega (arith, l, e));
            };
        old = λ s q l m. settled_same (z.others s q m (λ e. omega (arith, l, e)));
        new =
            λ s q l m o e.
            let this : s ≡ t.used = omega (arith, r.used) in
            let o' : q < k.slots = rw (this, new_home g t f unused h c hh hc) at o in
            free_no_out (sym (z.free q o') ∙ (rw this at e));
      }

module _ {limit : ℕ} {k : ClassHeap} {t : Tables} (w : Working limit k t) where
  -- The same, to the front of partial.
  pub create_fills : t.used < limit → Fills w.shape t (create t k)
  unfolding create
  create_fills l =
      fills_then
      (rw w.named (new_fills w.shape t w.filled (omega (arith, l, w.limited)) w.in_heaps w.in_classes))
      (quiet_fills (push_quiet (new_span t k) k partial_list (omega arith) t.used) w.shape)

  -- A partial span from the reserve, the empty list or the unused ones.
  pub supply_fills : Fills w.shape t (supply limit t k)
  unfolding supply
  supply_fills =
      let P = Fills w.shape t in
      cond_both P (no_partial t k) (cond (none_empty t k) (cond (ltb t.used limit) (create t k) t) (reactivate t k)) t
      (λ e.
      cond_both P (none_empty t k) (cond (ltb t.used limit) (create t k) t) (reactivate t k)
      (λ d.
      cond_both P (ltb t.used limit) (create t k) t (λ l. create_fills (ltb-true t.used limit l)) (λ l. fills_same w.shape t))
      (λ d. quiet_fills (reactivate_quiet t k) w.shape))
      (λ e. fills_same w.shape t)

-- ---- both

-- A partial span, if one can be had.
pub replenish_fills : {limit : ℕ} {k : ClassHeap} {t : Tables} (w : Working limit k t) → Fills w.shape t (replenish limit t k)
unfolding replenish
replenish_fills {limit} {k} {t} w =
    cond_both (Fills w.shape t) (no_partial t k) (supply limit (reclaim t.used t k (head_at t k full_list)) k) t
    (λ e.
    fills_then (reclaim_fills t.used (head_at t k full_list) w ((working_links w).fronts full_list (omega arith)))
    (supply_fills (reclaimed_working w)))
    (λ e. fills_same w.shape t)

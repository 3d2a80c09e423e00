-- The steps to a partial span, a call at a time; and what they keep. Assumes nothing.
use mathlib.Core.Path.{◌≡◌, refl, sym, ◌∙◌}
use mathlib.Core.Bool.{true, false, true≢false, ◌&&◌, cond}
use Prim.Native.Nat.{ℕ, zero, suc, ◌+◌, ◌<◌, ◌≤◌}
use native.Mathlib.Omega.{arith}
use borrow.Author.Tests.{eq-eqb, ne_eqb, lt-ltb, le-ltb, ltb-true}
use lib.Dec.{eqb, ltb}
use Rattle.laws.proofs.CondLaws.{cond_both}
use Rattle.tables.specs.declared.ClassHeap.{ClassHeap}
use Rattle.tables.specs.Cells.{Tables, head_at, partial_list, full_list, empty_list, reserve, count_at}
use Rattle.linked_list.specs.Lists.{push}
use Rattle.linked_list.proofs.QuietLaws.{push_quiet, quiet_count}
use Rattle.span.specs.Room.{SpanCells}
use Rattle.span.specs.Span.{new_span}
use Rattle.class_heap.specs.Steps.{no_partial, none_empty, create, reactivate, supply, reclaim, replenish}
use Rattle.sound.specs.Filled.{Filled}
use Rattle.filled_spans.proofs.SpanValues.{next_cells, class_within}
use Rattle.filled_spans.proofs.NewSpanKept.{new_kept}
use Rattle.placing.specs.Working.{Working}
use Rattle.placing.proofs.PlacingQuiet.{reactivate_quiet}
use Rattle.placing.proofs.PlacingKept.{working_on, working_links, push_working, reactivate_working}
use Rattle.reclaiming.proofs.ReclaimingLaws.{reclaim_count, reclaim_working}

-- ---- a new span

-- One span more is used.
pub new_used : (t : Tables) (k : ClassHeap) → (new_span t k).used ≡ t.used + 1
unfolding new_span
new_used t k = refl

module _ {n : ℕ} {k : ClassHeap} {t : Tables} (w : Working n k t) (l : t.used < n) where
  pub unused : t.used < w.shape.spans
  unused = omega (arith, l, w.limited)

  pub unused_cells : SpanCells t.bits t.spans t.used
  unused_cells = next_cells w.shape t w.filled unused

  pub few_slots : k.slots ≤ 4096
  few_slots = rw w.named (class_within w.shape w.heap w.class)

  abbrev pub new_working : Working n k (new_span t k)
  new_working = working_on w (rw w.named (new_kept w.shape t w.filled unused w.heap w.class w.in_heaps w.in_classes))

  pub create_filled : Filled w.shape (create t k)
  unfolding create
  create_filled = (push_working new_working {f = partial_list} {s = t.used} (omega arith) (omega (arith, new_used t k))).filled

  abbrev pub create_working : Working n k (create t k)
  create_working = working_on w create_filled

-- ---- the same steps, by their tests

-- A reserve or an empty span is there.
pub some_empty : (t : Tables) (k : ClassHeap) → none_empty t k ≡ false → 0 < head_at t k reserve + head_at t k empty_list
some_empty t k e = go (head_at t k reserve) (head_at t k empty_list) e
  where
    go : (x y : ℕ) → (eqb x 0 && eqb y 0) ≡ false → 0 < x + y
    go zero zero e = absurd (true≢false e)
    go zero (suc y) e = omega arith
    go (suc x) y e = omega arith

module _ (t : Tables) (k : ClassHeap) (x : ℕ) (e : x ≡ head_at t k reserve) where
  pub none_empty_not : (x ≡ 0 → ⊥) → false ≡ none_empty t k
  none_empty_not h = rw (ne_eqb (head_at t k reserve) 0 (λ z. h (e ∙ z)))

  pub none_empty_is : (y : ℕ) → x ≡ 0 → y ≡ head_at t k empty_list → eqb y 0 ≡ none_empty t k
  none_empty_is y h q = rw (eq-eqb (head_at t k reserve) 0 (sym e ∙ h), q)

pub create_made : (t t₁ t' : Tables) (k : ClassHeap) (s : ℕ) → s ≡ t.used → t₁ ≡ new_span t k → t' ≡ push t₁ k partial_list s → t' ≡ create t k
unfolding create
create_made t t₁ t' k s o p q = rw (← p, ← o) q

module _ (limit : ℕ) (t : Tables) (k : ClassHeap) where
  pub supply_none : (head_at t k partial_list ≡ 0 → ⊥) → t ≡ supply limit t k
  unfolding supply
  supply_none h = rw (ne_eqb (head_at t k partial_list) 0 h)

  pub supply_empty : (t' : Tables) → head_at t k partial_list ≡ 0 → none_empty t k ≡ false → t' ≡ reactivate t k → t' ≡ supply limit t k
  unfolding supply
  supply_empty t' h l q = rw (eq-eqb (head_at t k partial_list) 0 h, l) q

  pub supply_new :
      (t' : Tables) → head_at t k partial_list ≡ 0 → none_empty t k ≡ true → t.used < limit → t' ≡ create t k → t' ≡ supply limit t k
  unfolding supply
  supply_new t' h l m q = rw (eq-eqb (head_at t k partial_list) 0 h, l, lt-ltb t.used limit m) q

  pub supply_out : head_at t k partial_list ≡ 0 → none_empty t k ≡ true → limit ≤ t.used → t ≡ supply limit t k
  unfolding supply
  supply_out h l m = rw (eq-eqb (head_at t k partial_list) 0 h, l, le-ltb t.used limit m)

  pub replenish_none : (head_at t k partial_list ≡ 0 → ⊥) → t ≡ replenish limit t k
  unfolding replenish
  replenish_none h = rw (ne_eqb (head_at t k partial_list) 0 h)

  pub replenish_made :
      (t₁ t' : Tables) → head_at t k partial_list ≡ 0 → t₁ ≡ reclaim t.used t k (head_at t k full_list) → t' ≡ supply limit t₁ k →
      t' ≡ replenish limit t k
  unfolding replenish
  replenish_made t₁ t' h p q = rw (eq-eqb (head_at t k partial_list) 0 h, ← p) q

-- ---- what they keep

module _ {limit : ℕ} {k : ClassHeap} {t : Tables} (w : Working limit k t) where
  pub supply_filled : Filled w.shape (supply limit t k)
  unfolding supply
  supply_filled =
      let P = Filled w.shape in
      cond_both P (no_partial t k) (cond (none_empty t k) (cond (ltb t.used limit) (create t k) t) (reactivate t k)) t
      (λ e.
      cond_both P (none_empty t k) (cond (ltb t.used limit) (create t k) t) (reactivate t k)
      (λ d.
      cond_both P (ltb t.used limit) (create t k) t (λ l. (create_working w (ltb-true t.used limit l)).filled) (λ l. w.filled))
      (λ d. (reactivate_working w (some_empty t k d)).filled))
      (λ e. w.filled)

  abbrev pub supply_working : Working limit k (supply limit t k)
  supply_working = working_on w supply_filled

  abbrev pub reclaimed_working : Working limit k (reclaim t.used t k (head_at t k full_list))
  reclaimed_working = reclaim_working t.used (head_at t k full_list) w ((working_links w).fronts full_list (omega arith))

pub replenish_filled : {limit : ℕ} {k : ClassHeap} {t : Tables} (w : Working limit k t) → Filled w.shape (replenish limit t k)
unfolding replenish
replenish_filled {limit} {k} {t} w =
    cond_both (Filled w.shape) (no_partial t k) (supply limit (reclaim t.used t k (head_at t k full_list)) k) t
    (λ e. (supply_working (reclaimed_working w)).filled) (λ e. w.filled)

abbrev pub replenish_working : {limit : ℕ} {k : ClassHeap} {t : Tables} → Working limit k t → Working limit k (replenish limit t k)
replenish_working w = working_on w (replenish_filled w)

-- ---- counts stay, whatever the table holds, and one span is created at most

module _ (t : Tables) (k : ClassHeap) where
  -- a new span, pushed, leaves every magazine's count
  pub create_count : (j : ClassHeap) → count_at (create t k) j ≡ count_at t j
  unfolding create new_span
  create_count j = quiet_count (push_quiet (new_span t k) k partial_list (omega arith) t.used) j

  -- and is one span more
  pub create_used : (create t k).used ≡ t.used + 1
  unfolding create new_span push
  create_used = refl

-- a supply leaves every magazine's count
pub supply_count : (limit : ℕ) (t : Tables) (k j : ClassHeap) → count_at (supply limit t k) j ≡ count_at t j
unfolding supply
supply_count limit t k j =
    let P : Tables → Type 0 = λ u. count_at u j ≡ count_at t j in
    cond_both P (no_partial t k) (cond (none_empty t k) (cond (ltb t.used limit) (create t k) t) (reactivate t k)) t
    (λ e.
    cond_both P (none_empty t k) (cond (ltb t.used limit) (create t k) t) (reactivate t k)
    (λ d. cond_both P (ltb t.used limit) (create t k) t (λ l. create_count t k j) (λ l. refl))
    (λ d. quiet_count (reactivate_quiet t k) j))
    (λ e. refl)

-- and so does a replenish
pub replenish_count : (limit : ℕ) (t : Tables) (k j : ClassHeap) → count_at (replenish limit t k) j ≡ count_at t j
unfolding replenish
replenish_count limit t k j =
    let v = reclaim t.used t k (head_at t k full_list) in
    cond_both (λ u. count_at u j ≡ count_at t j) (no_partial t k) (supply limit v k) t
    (λ e. supply_count limit v k j ∙ reclaim_count t.used t k (head_at t k full_list) j) (λ e. refl)

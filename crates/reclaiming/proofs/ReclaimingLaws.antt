-- The walk over the full spans, a span at a time; and what it keeps. Assumes nothing.
use mathlib.Core.Path.{◌≡◌, refl, sym, ◌∙◌}
use mathlib.Core.Bool.{true, false}
use mathlib.Core.List.{List}
use Prim.Native.Nat.{ℕ, zero, suc, ◌+◌, ◌-◌, ◌<◌, ◌≤◌}
use native.Mathlib.Numerals.{sub-one}
use native.Mathlib.Omega.{arith}
use borrow.Author.Tests.{eq-eqb, ne_eqb, eqb-false}
use lib.ListN.{length, get_or}
use lib.Dec.{eqb}
use Rattle.laws.proofs.CondLaws.{cond_both}
use Rattle.tables.specs.declared.ClassHeap.{ClassHeap}
use Rattle.tables.specs.Cells.{Tables, tables, span_cell, next_field, next_at, head_cell, full_list, count_at}
use Rattle.linked_list.proofs.QuietLaws.{quiet_count}
use Rattle.span.specs.Room.{SpanCells, Foldable}
use Rattle.span.specs.Span.{stored, has_pending, reclaim_pending}
use Rattle.class_heap.specs.Steps.{refile, reclaim_one, reclaim}
use Rattle.sound.specs.Sound.{home_of}
use Rattle.sound.specs.Filled.{Filled}
use Rattle.filled_spans.proofs.SpanValues.{filled_cells, filled_foldable}
use Rattle.filled_spans.proofs.ReclaimKept.{reclaim_only, reclaim_kept}
use Rattle.placing.specs.Working.{Working}
use Rattle.placing.proofs.PlacingQuiet.{refile_quiet}
use Rattle.placing.proofs.PlacingKept.{working_on, working_links, refile_working}

-- ---- what it leaves as it was, whatever the table holds

module _ (t : Tables) (k : ClassHeap) (s : ℕ) where
  -- The number of spans used.
  pub reclaim_one_used : (reclaim_one t k s).used ≡ t.used
  unfolding reclaim_one reclaim_pending stored
  reclaim_one_used =
      cond_both (λ u. u.used ≡ t.used) (has_pending t s) (refile (reclaim_pending t s) k full_list s) t
      (λ e. (refile_quiet (reclaim_pending t s) k full_list (omega arith) s).used) (λ e. refl)

  -- The count of every magazine.
  pub reclaim_one_count : (j : ClassHeap) → count_at (reclaim_one t k s) j ≡ count_at t j
  unfolding reclaim_one reclaim_pending stored
  reclaim_one_count j =
      cond_both (λ u. count_at u j ≡ count_at t j) (has_pending t s) (refile (reclaim_pending t s) k full_list s) t
      (λ e. quiet_count (refile_quiet (reclaim_pending t s) k full_list (omega arith) s) j) (λ e. refl)

-- The same of the walk: the number of spans used,
pub reclaim_used : (n : ℕ) (t : Tables) (k : ClassHeap) (x : ℕ) → (reclaim n t k x).used ≡ t.used
unfolding reclaim
reclaim_used zero t k x = refl
reclaim_used (suc n) t k x =
    cond_both (λ u. u.used ≡ t.used) (eqb x 0) t (reclaim n (reclaim_one t k (x - 1)) k (next_at t (x - 1))) (λ e. refl)
    (λ e. reclaim_used n (reclaim_one t k (x - 1)) k (next_at t (x - 1)) ∙ reclaim_one_used t k (x - 1))

-- and the count of every magazine.
pub reclaim_count : (n : ℕ) (t : Tables) (k : ClassHeap) (x : ℕ) (j : ClassHeap) → count_at (reclaim n t k x) j ≡ count_at t j
unfolding reclaim
reclaim_count zero t k x j = refl
reclaim_count (suc n) t k x j =
    cond_both (λ u. count_at u j ≡ count_at t j) (eqb x 0) t (reclaim n (reclaim_one t k (x - 1)) k (next_at t (x - 1))) (λ e. refl)
    (λ e. reclaim_count n (reclaim_one t k (x - 1)) k (next_at t (x - 1)) j ∙ reclaim_one_count t k (x - 1) j)

-- ---- what a working table gives a used span of it
module _ {n : ℕ} {k : ClassHeap} {t : Tables} (w : Working n k t) {s : ℕ} (l : s < t.used) where
  pub working_cells : SpanCells t.bits t.spans s
  working_cells = filled_cells w.shape t w.filled s l

  pub working_foldable : ((slots : ℕ) × Foldable slots t.bits t.spans s)
  working_foldable = ((home_of w.shape t s).slots, filled_foldable w.shape t w.filled s l)

  abbrev pub pending_working : Working n k (reclaim_pending t s)
  pending_working = working_on w (reclaim_kept w.shape t w.filled s l)

  pub reclaim_one_filled : Filled w.shape (reclaim_one t k s)
  unfolding reclaim_one
  reclaim_one_filled =
      cond_both (Filled w.shape) (has_pending t s) (refile (reclaim_pending t s) k full_list s) t
      (λ e. (refile_working pending_working (omega arith) (rw (reclaim_only w.shape t w.filled s l).used l)).filled)
      (λ e. w.filled)

  abbrev pub reclaim_one_working : Working n k (reclaim_one t k s)
  reclaim_one_working = working_on w reclaim_one_filled

-- ---- one span, by its test

module _ (t : Tables) (k : ClassHeap) (s : ℕ) where
  pub reclaim_one_made : (t₁ t' : Tables) → has_pending t s ≡ true → t₁ ≡ reclaim_pending t s → t' ≡ refile t₁ k full_list s → t' ≡ reclaim_one t k s
  unfolding reclaim_one
  reclaim_one_made t₁ t' h p q = rw (h, ← p) q

  pub reclaim_one_kept : has_pending t s ≡ false → t ≡ reclaim_one t k s
  unfolding reclaim_one
  reclaim_one_kept h = rw h

-- ---- the walk, by its link and what is left of it

pub reclaim_end : (n : ℕ) (t : Tables) (k : ClassHeap) (x : ℕ) → x ≡ 0 → reclaim n t k x ≡ t
unfolding reclaim
reclaim_end zero t k x e = refl
reclaim_end (suc n) t k x e = simp (eq-eqb x 0 e)

pub reclaim_out : (n : ℕ) (t : Tables) (k : ClassHeap) (x : ℕ) → n ≤ 0 → reclaim n t k x ≡ t
unfolding reclaim
reclaim_out zero t k x h = refl
reclaim_out (suc n) t k x h = absurd (omega arith)

pub reclaim_turn :
    (n : ℕ) (t : Tables) (k : ClassHeap) (x : ℕ) → 0 < n → (x ≡ 0 → ⊥) →
    reclaim n t k x ≡ reclaim (n - 1) (reclaim_one t k (x - 1)) k (next_at t (x - 1))
unfolding reclaim
reclaim_turn zero t k x h e = absurd (omega arith)
reclaim_turn (suc n) t k x h e = simp (ne_eqb x 0 e, sub-one)

-- The walk keeps a working table working, from a link in range on.
pub reclaim_filled :
    (i : ℕ) {n : ℕ} {k : ClassHeap} {t : Tables} (x : ℕ) (w : Working n k t) → x ≤ t.used → Filled w.shape (reclaim i t k x)
unfolding reclaim
reclaim_filled zero x w l = w.filled
reclaim_filled (suc i) {n} {k} {t} x w l =
    cond_both (Filled w.shape) (eqb x 0) t (reclaim i (reclaim_one t k (x - 1)) k (next_at t (x - 1))) (λ e. w.filled)
    (λ e.
    let h : x - 1 < t.used = omega (arith, eqb-false x 0 e) in
    reclaim_filled i (next_at t (x - 1)) (reclaim_one_working w h) (rw (reclaim_one_used t k (x - 1)) (w.filled.next (x - 1) h)))

abbrev pub reclaim_working :
    (i : ℕ) {n : ℕ} {k : ClassHeap} {t : Tables} (x : ℕ) → Working n k t → x ≤ t.used → Working n k (reclaim i t k x)
reclaim_working i x w l = working_on w (reclaim_filled i x w l)

-- ---- the loop

pub record Walking (used : ℕ) (k : ClassHeap) (b₀ sp₀ hd₀ b sp hd : List ℕ) (at left : ℕ) : Type 0 where
  pub limit : ℕ
  pub entries : List ℕ
  pub working : Working limit k (tables b sp entries hd used)
  pub here : at ≤ used
  pub bits_length : length b ≡ length b₀
  pub spans_length : length sp ≡ length sp₀
  pub heads_length : length hd ≡ length hd₀
  pub same : (e : List ℕ) (u : ℕ) → reclaim left (tables b sp e hd u) k at ≡ reclaim used (tables b₀ sp₀ e hd₀ u) k (get_or hd₀ (head_cell k.row full_list) 0)

pub walk_start :
    (used n : ℕ) (k : ClassHeap) (b sp e hd : List ℕ) (at left : ℕ) → Working n k (tables b sp e hd used) → at ≡ get_or hd (head_cell k.row full_list) 0 →
    left ≡ used → Walking used k b sp hd b sp hd at left
walk_start used n k b sp e hd at left w q l =
    record {
      limit = n;
      entries = e;
      working = w;
      here = rw q ((working_links w).fronts full_list (omega arith));
      bits_length = refl;
      spans_length = refl;
      heads_length = refl;
      same = λ e u. rw (q, l);
    }

module _ (used : ℕ) (k : ClassHeap) (b₀ sp₀ hd₀ b sp hd b' sp' hd' : List ℕ) (at at' left rest : ℕ) (w : Walking used k b₀ sp₀ hd₀ b sp hd at left) where
  pub walk_turn :
      left ≡ rest + 1 → (at ≡ 0 → ⊥) → at' ≡ get_or sp (span_cell (at - 1) next_field) 0 →
      length b' ≡ length b → length sp' ≡ length sp → length hd' ≡ length hd →
      ((e : List ℕ) (u : ℕ) → tables b' sp' e hd' u ≡ reclaim_one (tables b sp e hd u) k (at - 1)) →
      Walking used k b₀ sp₀ hd₀ b' sp' hd' at' rest
  walk_turn h n q lb ls lh z =
      let l : rest ≡ left - 1 = omega (arith, h) in
      let s : at - 1 < used = omega (arith, n, w.here) in
      record {
        limit = w.limit;
        entries = w.entries;
        working = rw (z w.entries used) (reclaim_one_working w.working s);
        here = rw q (w.working.filled.next (at - 1) s);
        bits_length = lb ∙ w.bits_length;
        spans_length = ls ∙ w.spans_length;
        heads_length = lh ∙ w.heads_length;
        same = λ e u. rw (q, z e u, l) (sym (reclaim_turn left (tables b sp e hd u) k at (omega (arith, h)) n) ∙ w.same e u);
      }

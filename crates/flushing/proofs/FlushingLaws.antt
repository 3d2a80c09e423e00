-- Slots back to their spans, a call at a time; and what that keeps. Assumes nothing.
use mathlib.Core.Path.{◌≡◌, refl, sym, ◌∙◌}
use mathlib.Core.Bool.{true, false, cond}
use mathlib.Core.List.{List}
use Prim.Native.Nat.{ℕ, zero, suc, ◌+◌, ◌-◌, ◌<◌, ◌≤◌}
use native.Mathlib.Numerals.{sub-one}
use native.Mathlib.Omega.{arith}
use borrow.Author.Tests.{lt-ltb, le-ltb, ltb-true}
use lib.ListN.{length}
use lib.Dec.{ltb}
use Rattle.laws.proofs.CondLaws.{cond_both}
use Rattle.size_classes.specs.Slots.{most_slots}
use Rattle.tables.specs.declared.ClassHeap.{ClassHeap}
use Rattle.tables.specs.Shape.{Shape, class_heap}
use Rattle.tables.specs.Cells.{Tables, tables, occupied_at, partial_list, full_list, count_at, entry_span, entry_slot}
use Rattle.magazine.specs.Magazine.{top_entry, pop_entry}
use Rattle.magazine.proofs.MagazineLaws.{pop_count}
use Rattle.linked_list.proofs.QuietLaws.{quiet_count}
use Rattle.span.specs.Span.{stored, is_full, is_empty, dealloc_slot}
use Rattle.class_heap.specs.Steps.{refile, give_back, flush_one, flush}
use Rattle.sound.specs.Sound.{home_of}
use Rattle.sound.specs.Filled.{Filled}
use Rattle.filled_magazines.proofs.FilledFacts.{belongs_home}
use Rattle.filled_magazines.specs.Pushable.{OutEntry}
use Rattle.filled_magazines.proofs.MagazineSteps.{pop_entry_filled, popped_out}
use Rattle.filled_spans.proofs.SpanValues.{home_most}
use Rattle.filled_spans.proofs.ReleaseKept.{release_only, release_kept, release_occupied}
use Rattle.placing.specs.Working.{Working}
use Rattle.placing.proofs.PlacingQuiet.{refile_quiet}
use Rattle.placing.proofs.PlacingKept.{working_on, working_room, working_as, refile_working}
use Rattle.flushing.specs.Returnable.{Returnable}

-- ---- one slot

module _ {n : ℕ} {k : ClassHeap} {t : Tables} {s q : ℕ} (r : Returnable n k t s q) where
  pub slot_within : q < most_slots
  slot_within = omega (arith, r.inside, home_most r.working.shape t s)

  pub some_occupied : 0 < occupied_at t s
  some_occupied = omega (arith, release_occupied r.working.shape t r.working.filled s r.used q r.inside r.out)

  abbrev pub dealloc_working : Working n k (dealloc_slot t s q)
  dealloc_working = working_on r.working (release_kept r.working.shape t r.working.filled s r.used q r.inside r.out)

  pub dealloc_used : (dealloc_slot t s q).used ≡ t.used
  dealloc_used = (release_only r.working.shape t r.working.filled s r.used q r.inside r.out).used

  used_then : s < (dealloc_slot t s q).used
  used_then = rw dealloc_used r.used

  pub give_back_filled : Filled r.working.shape (give_back t k s q)
  unfolding give_back
  give_back_filled =
      let u = dealloc_slot t s q in
      let P = Filled r.working.shape in
      cond_both P (is_full t k s) (refile u k full_list s) (cond (is_empty u s) (refile u k partial_list s) u)
      (λ e. (refile_working dealloc_working (omega arith) used_then).filled)
      (λ e.
      cond_both P (is_empty u s) (refile u k partial_list s) u (λ d. (refile_working dealloc_working (omega arith) used_then).filled)
      (λ d. dealloc_working.filled))

  abbrev pub give_back_working : Working n k (give_back t k s q)
  give_back_working = working_on r.working give_back_filled

-- Every magazine's count is as it was.
pub give_back_count : (t : Tables) (k : ClassHeap) (s q : ℕ) (j : ClassHeap) → count_at (give_back t k s q) j ≡ count_at t j
unfolding give_back dealloc_slot stored
give_back_count t k s q j =
    let u = dealloc_slot t s q in
    cond_both (λ v. count_at v j ≡ count_at t j) (is_full t k s) (refile u k full_list s) (cond (is_empty u s) (refile u k partial_list s) u)
    (λ e. quiet_count (refile_quiet u k full_list (omega arith) s) j)
    (λ e.
    cond_both (λ v. count_at v j ≡ count_at t j) (is_empty u s) (refile u k partial_list s) u
    (λ d. quiet_count (refile_quiet u k partial_list (omega arith) s) j) (λ d. refl))

-- ---- by its two tests

module _ (t t₁ t' : Tables) (k : ClassHeap) (s q : ℕ) (p : t₁ ≡ dealloc_slot t s q) where
  pub back_full : is_full t k s ≡ true → t' ≡ refile t₁ k full_list s → t' ≡ give_back t k s q
  unfolding give_back
  back_full h e = rw (h, ← p) e

  pub back_empty : is_full t k s ≡ false → is_empty t₁ s ≡ true → t' ≡ refile t₁ k partial_list s → t' ≡ give_back t k s q
  unfolding give_back
  back_empty h l e = rw (h, ← p, l) e

  pub back_partial : is_full t k s ≡ false → is_empty t₁ s ≡ false → t' ≡ t₁ → t' ≡ give_back t k s q
  unfolding give_back
  back_partial h l e = rw (h, ← p, l) e

-- ---- the top entry

-- An entry's slot is one of its span.
pub out_inside :
    (g : Shape) (t : Tables) (k : ClassHeap) (h c : ℕ) → k ≡ class_heap g h c → (e : ℕ) → OutEntry g t k e →
    entry_slot e < (home_of g t (entry_span e)).slots
out_inside g t k h c named e m =
    let z : home_of g t (entry_span e) ≡ k = belongs_home g t h c (entry_span e) (rw (named) at m).belongs ∙ sym named in
    rw z m.in_range

module _ {n : ℕ} {k : ClassHeap} {t : Tables} (w : Working n k t) where
  module _ (some : 0 < count_at t k) where
    pub popped_filled : Filled w.shape (pop_entry t k)
    popped_filled = rw w.named (pop_entry_filled w.filled w.in_heaps w.in_classes (rw w.named at some))

    pub top_out : OutEntry w.shape (pop_entry t k) k (top_entry t k)
    top_out = rw w.named (popped_out w.filled w.in_heaps w.in_classes (rw w.named at some))

    -- its block may go back to its span
    abbrev pub top_returnable : Returnable n k (pop_entry t k) (entry_span (top_entry t k)) (entry_slot (top_entry t k))
    top_returnable =
        record {
          working = working_on w popped_filled;
          used = top_out.belongs.used;
          inside = out_inside w.shape (pop_entry t k) k w.heap w.class w.named (top_entry t k) top_out;
          out = top_out.out;
        }

    pub popped_returnable :
        (t₁ : Tables) (e s q : ℕ) → t₁ ≡ pop_entry t k → e ≡ top_entry t k → s ≡ entry_span e → q ≡ entry_slot e → Returnable n k t₁ s q
    popped_returnable t₁ e s q p o a b = rw (p, a, b, o) top_returnable

    pub flush_one_filled : Filled w.shape (flush_one t k)
    unfolding flush_one
    flush_one_filled = (give_back_working top_returnable).filled

    abbrev pub flush_one_working : Working n k (flush_one t k)
    flush_one_working = working_on w flush_one_filled

    -- One entry fewer is in the magazine.
    pub flush_one_count : count_at (flush_one t k) k ≡ count_at t k - 1
    unfolding flush_one
    flush_one_count =
        give_back_count (pop_entry t k) k (entry_span (top_entry t k)) (entry_slot (top_entry t k)) k ∙ pop_count t k (working_room w) some

pub flush_one_made :
    (t t₁ t' : Tables) (k : ClassHeap) (e s q : ℕ) → e ≡ top_entry t k → s ≡ entry_span e → q ≡ entry_slot e → t₁ ≡ pop_entry t k →
    t' ≡ give_back t₁ k s q → t' ≡ flush_one t k
unfolding flush_one
flush_one_made t t₁ t' k e s q o a b p z = rw (← p, ← o, ← a, ← b) z

-- ---- the loop, by the count and what is left

pub flush_low : (i : ℕ) (t : Tables) (k : ClassHeap) → count_at t k ≤ k.low → flush i t k ≡ t
unfolding flush
flush_low zero t k h = refl
flush_low (suc i) t k h = rw (le-ltb k.low (count_at t k) h)

pub flush_out : (i : ℕ) (t : Tables) (k : ClassHeap) → i ≤ 0 → flush i t k ≡ t
unfolding flush
flush_out zero t k h = refl
flush_out (suc i) t k h = absurd (omega arith)

pub flush_turn : (i : ℕ) (t : Tables) (k : ClassHeap) → 0 < i → k.low < count_at t k → flush i t k ≡ flush (i - 1) (flush_one t k) k
unfolding flush
flush_turn zero t k h l = absurd (omega arith)
flush_turn (suc i) t k h l = simp (lt-ltb k.low (count_at t k) l, sub-one)

-- Every flush keeps a working table working.
pub flush_filled : (i : ℕ) {n : ℕ} {k : ClassHeap} {t : Tables} (w : Working n k t) → Filled w.shape (flush i t k)
unfolding flush
flush_filled zero w = w.filled
flush_filled (suc i) {n} {k} {t} w =
    cond_both (Filled w.shape) (ltb k.low (count_at t k)) (flush i (flush_one t k) k) t
    (λ e. flush_filled i (flush_one_working w (omega (arith, ltb-true k.low (count_at t k) e)))) (λ e. w.filled)

abbrev pub flush_working : (i : ℕ) {n : ℕ} {k : ClassHeap} {t : Tables} → Working n k t → Working n k (flush i t k)
flush_working i w = working_on w (flush_filled i w)

-- No flush adds an entry,
pub flush_fewer : (i : ℕ) {n : ℕ} {k : ClassHeap} {t : Tables} → Working n k t → count_at (flush i t k) k ≤ count_at t k
unfolding flush
flush_fewer zero w = omega arith
flush_fewer (suc i) {n} {k} {t} w =
    cond_both (λ u. count_at u k ≤ count_at t k) (ltb k.low (count_at t k)) (flush i (flush_one t k) k) t
    (λ e.
    let some : 0 < count_at t k = omega (arith, ltb-true k.low (count_at t k) e) in
    omega (arith, flush_fewer i (flush_one_working w some), flush_one_count w some))
    (λ e. omega arith)

-- and one that is not out of turns makes room in a magazine above low water.
pub flush_makes_room :
    (i : ℕ) {n : ℕ} {k : ClassHeap} {t : Tables} → 0 < i → Working n k t → k.low < count_at t k → count_at (flush i t k) k < count_at t k
flush_makes_room i {n} {k} {t} h w l =
    let some : 0 < count_at t k = omega (arith, l) in
    rw (flush_turn i t k h l) (omega (arith, flush_fewer (i - 1) (flush_one_working w some), flush_one_count w some))

pub record Flushing (k : ClassHeap) (b₀ sp₀ e hd₀ b sp hd : List ℕ) (left : ℕ) : Type 0 where
  pub limit : ℕ
  pub used : ℕ
  pub working : Working limit k (tables b sp e hd used)
  pub bits_length : length b ≡ length b₀
  pub spans_length : length sp ≡ length sp₀
  pub heads_length : length hd ≡ length hd₀
  pub same : (u : ℕ) → flush left (tables b sp e hd u) k ≡ flush k.capacity (tables b₀ sp₀ e hd₀ u) k

pub flush_start :
    {n u : ℕ} {k : ClassHeap} {b sp e hd : List ℕ} {left : ℕ} → Working n k (tables b sp e hd u) → left ≡ k.capacity → Flushing k b sp e hd b sp hd left
flush_start {n} {u} w l =
    record { limit = n; used = u; working = w; bits_length = refl; spans_length = refl; heads_length = refl; same = λ u. rw l }

module _ {k : ClassHeap} {b₀ sp₀ e hd₀ b sp hd b' sp' hd' : List ℕ} {left rest : ℕ} (w : Flushing k b₀ sp₀ e hd₀ b sp hd left) where
  pub flush_again :
      left ≡ rest + 1 → k.low < count_at (tables b sp e hd w.used) k →
      length b' ≡ length b → length sp' ≡ length sp → length hd' ≡ length hd →
      ((u : ℕ) → tables b' sp' e hd' u ≡ flush_one (tables b sp e hd u) k) →
      Flushing k b₀ sp₀ e hd₀ b' sp' hd' rest
  flush_again h l lb ls lh z =
      let r : rest ≡ left - 1 = omega (arith, h) in
      record {
        limit = w.limit;
        used = w.used;
        working = working_as (z w.used) (flush_one_working w.working (omega (arith, l)));
        bits_length = lb ∙ w.bits_length;
        spans_length = ls ∙ w.spans_length;
        heads_length = lh ∙ w.heads_length;
        same = λ u. rw (z u, r) (sym (flush_turn left (tables b sp e hd u) k (omega (arith, h)) l) ∙ w.same u);
      }

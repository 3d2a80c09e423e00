-- The blocks of a class and heap, counted: those cached and those out stand in its spans, and where no slot of them is free or pending they are all.
-- Assumes nothing.
use mathlib.Core.Path.{◌≡◌, refl, sym, ap, subst, ◌∙◌}
use mathlib.Core.Bool.{Bool, true, false, ◌&&◌, ◌||◌, true≢false, cond}
use Prim.Native.Nat.{ℕ, zero, suc, ◌+◌, ◌*◌, ◌<◌, ◌≤◌}
use native.Mathlib.Nat.{lt_of_lt_of_le}
use native.Mathlib.Omega.{arith}
use lib.Dec.{eqb}
use borrow.Author.Tests.{eq-eqb, ne_eqb}
use Rattle.laws.specs.Choice.{sum, some}
use Rattle.laws.proofs.CondLaws.{or_true}
use Rattle.laws.proofs.TestLaws.{test_fails}
use Rattle.laws.proofs.SomeLaws.{some_not}
use Rattle.tables.specs.declared.ClassHeap.{ClassHeap}
use Rattle.tables.specs.Shape.{Shape, classes, class_heap}
use Rattle.tables.specs.Cells.{Tables, occupied_at, count_at, entry_at, entry_of, entry_span, entry_slot}
use Rattle.magazine.specs.Magazine.{is_cached}
use Rattle.magazine.proofs.CachedLaws.{cached_among}
use Rattle.span.specs.Span.{has_pending, folded}
use Rattle.span.specs.declared.BlockState.TheVariants.{Free, Cached, Pending, Out}
use Rattle.span.specs.State.{is_occupied, is_pending, state_of, out_state, is_out}
use Rattle.sound.specs.Sound.{home_of, set_bits, Belongs}
use Rattle.sound.specs.Filled.{Filled}
use Rattle.filled_magazines.proofs.FilledFacts.{belongs_home, slots_within, entry_named, filled_entry, filled_distinct}
use Rattle.filled_magazines.proofs.OneMagazine.{names_block}
use Rattle.filled_magazines.proofs.StateLaws.{block_belongs}
use Rattle.filled_spans.proofs.ReclaimKept.{folded_none}
use Rattle.laws.specs.Pairs.{passing, pairs}
use Rattle.chance.specs.Chance.{is_of, row_in}
use Rattle.laws.proofs.PairsLaws.{one, passing_all, pairs_more, pairs_rows, pairs_two_most, pairs_two, pairs_longer}
use Rattle.chance.proofs.RowTests.{belongs_passes, passes_belongs, out_test}

-- the three tests of a block that tell whether it is out
abbrev out_by : Bool → Bool → Bool → Bool
out_by occupied pending kept = out_state (cond occupied (cond pending Pending (cond kept Cached Out)) Free)

tests_most : (a b c : Bool) → one c + one (out_by a b c) ≤ 1
tests_most true true true = omega arith
tests_most true true false = omega arith
tests_most true false true = omega arith
tests_most true false false = omega arith
tests_most false b true = omega arith
tests_most false b false = omega arith

tests_all : (c : Bool) → one c + one (out_by true false c) ≡ 1
tests_all true = refl
tests_all false = refl

-- of a block in a span of the class and heap, or in another where it is not cached
if_own_most : (own cached out : Bool) → (own ≡ true → one cached + one out ≤ 1) → (own ≡ false → cached ≡ false) → one cached + one (own && out) ≤ one own
if_own_most true cached out f n = f refl
if_own_most false cached out f n = rw (n refl) (omega arith)

if_own : (own cached out : Bool) → (own ≡ true → one cached + one out ≡ 1) → (own ≡ false → cached ≡ false) → one cached + one (own && out) ≡ one own
if_own true cached out f n = f refl
if_own false cached out f n = rw (n refl)

module _ {g : Shape} {t : Tables} (o : Filled g t) {h c : ℕ} (hh : h < g.heaps) (hc : c < classes g) where
  abbrev k : ClassHeap
  k = class_heap g h c

  -- ---- the cached blocks are as many as the count says

  -- a block stands among the first n entries
  abbrev among : ℕ → ℕ → ℕ → Bool
  among n s q = some n (λ i. eqb (entry_at t k i) (entry_of s q))

  abbrev span_at : ℕ → ℕ
  span_at n = entry_span (entry_at t k n)

  abbrev slot_at : ℕ → ℕ
  slot_at n = entry_slot (entry_at t k n)

  -- an entry's block is no other entry's
  not_before : (n : ℕ) → n < count_at t k → among n (span_at n) (slot_at n) ≡ false
  not_before n l =
      some_not _ n
      (λ i m.
      ne_eqb (entry_at t k i) (entry_of (span_at n) (slot_at n))
      (λ e. (filled_distinct o hh hc).apart n l i m (e ∙ entry_named (entry_at t k n))))

  here : (n : ℕ) → among (suc n) (span_at n) (slot_at n) ≡ true
  unfolding some
  here n = rw (eq-eqb (entry_at t k n) (entry_of (span_at n) (slot_at n)) (sym (entry_named (entry_at t k n)))) (or_true (among n (span_at n) (slot_at n)))

  -- another block is not
  elsewhere : (n s q : ℕ) → q < k.slots → (s ≡ span_at n → q ≡ slot_at n → ⊥) → among n s q ≡ among (suc n) s q
  unfolding some
  elsewhere n s q l d =
      let z : eqb (entry_at t k n) (entry_of s q) ≡ false =
      ne_eqb (entry_at t k n) (entry_of s q)
      (λ e. let r = names_block s (lt_of_lt_of_le l (slots_within g h c)) (sym e) in d r.0 r.1) in
      rw z (no_more (among n s q))
    where
      no_more : (b : Bool) → b ≡ (b || false)
      no_more true = refl
      no_more false = refl

  cached_first : (n : ℕ) → n ≤ count_at t k → pairs t.used k.slots (among n) ≡ n
  cached_first zero l = pairs_longer 0 t.used k.slots (among 0) (omega arith) (λ i j a b m. unfold some in refl) ∙ (unfold pairs sum in refl)
  cached_first (suc n) l =
      let e = filled_entry o hh hc n (omega arith) in
      pairs_more t.used k.slots (among n) (among (suc n)) (span_at n) (slot_at n) e.belongs.used e.in_range (not_before n (omega arith))
      (here n) (λ s q i j d. elsewhere n s q j d)
      ∙ omega (arith, cached_first n (omega arith))

  -- The blocks that stand in the magazine are as many as its count.
  pub cached_counted : pairs t.used k.slots (λ s q. is_cached t k (entry_of s q)) ≡ count_at t k
  unfolding is_cached
  cached_counted = cached_first (count_at t k) (omega arith)

  -- ---- cached, out, and the slots of the spans

  abbrev own : ℕ → ℕ → Bool
  own s q = is_of t k s

  own_slots : pairs t.used k.slots own ≡ passing t.used (is_of t k) * k.slots
  own_slots = pairs_rows t.used k.slots (is_of t k)

  -- a block of it is out by its three tests
  out_by_tests : (s q : ℕ) → Belongs t k s → is_out g t s q ≡ out_by (is_occupied t s q) (is_pending t s q) (is_cached t k (entry_of s q))
  unfolding state_of
  out_by_tests s q b = ap (λ (l : ClassHeap). out_by (is_occupied t s q) (is_pending t s q) (is_cached t l (entry_of s q))) (belongs_home g t h c s b)

  -- a block of another class or heap stands in no magazine of this one
  others_uncached : (s q : ℕ) → q < k.slots → is_of t k s ≡ false → is_cached t k (entry_of s q) ≡ false
  others_uncached s q l e =
      test_fails (is_cached t k (entry_of s q))
      (λ z.
      true≢false
      (sym (belongs_passes (block_belongs o hh hc s (lt_of_lt_of_le l (slots_within g h c)) (cached_among t k (entry_of s q) z))) ∙ e))

  -- a block is cached or out, one at most, and of one of its spans
  one_most_of : (s q : ℕ) → s < t.used → q < k.slots → one (is_cached t k (entry_of s q)) + one (out_test g h c t s q) ≤ one (own s q)
  one_most_of s q l m =
      if_own_most (is_of t k s) (is_cached t k (entry_of s q)) (is_out g t s q)
      (λ e. rw (out_by_tests s q (passes_belongs l e)) (tests_most (is_occupied t s q) (is_pending t s q) (is_cached t k (entry_of s q))))
      (others_uncached s q m)

  -- What is cached or out stands in the spans.
  pub rows_within : (row_in g t h c).cached + (row_in g t h c).out ≤ (row_in g t h c).spans * k.slots
  unfolding row_in
  rows_within =
      let a = pairs_two_most t.used k.slots (λ s q. is_cached t k (entry_of s q)) (out_test g h c t) own one_most_of in
      omega (arith, a, cached_counted, own_slots)

  -- ---- where all are

  module _ (full : (s : ℕ) → Belongs t k s → occupied_at t s ≡ k.slots) (none : (s : ℕ) → Belongs t k s → has_pending t s ≡ false) where
    -- each slot is occupied, and none is pending
    all_occupied : (s q : ℕ) → Belongs t k s → q < k.slots → is_occupied t s q ≡ true
    unfolding passing
    all_occupied s q b l =
        let e : (home_of g t s).slots ≡ k.slots = ap (λ (x : ClassHeap). x.slots) (belongs_home g t h c s b) in
        let n : set_bits t s k.slots ≡ k.slots = ap (set_bits t s) (sym e) ∙ sym (o.spans s b.used).occupied ∙ full s b in
        passing_all k.slots (is_occupied t s) n q l

    none_pending : (s q : ℕ) → Belongs t k s → q < k.slots → is_pending t s q ≡ false
    none_pending s q b l =
        let same : folded t s ≡ t = unfold folded in rw (none s b) in
        subst (λ (u : Tables). is_pending u s q ≡ false) same (folded_none g t o s b.used q (lt_of_lt_of_le l (slots_within g h c)))

    all_of : (s q : ℕ) → s < t.used → q < k.slots → one (is_cached t k (entry_of s q)) + one (out_test g h c t s q) ≡ one (own s q)
    all_of s q l m =
        if_own (is_of t k s) (is_cached t k (entry_of s q)) (is_out g t s q)
        (λ e.
        let b = passes_belongs l e in
        rw (out_by_tests s q b, all_occupied s q b m, none_pending s q b m) (tests_all (is_cached t k (entry_of s q))))
        (others_uncached s q m)

    -- Where every slot of the spans is occupied and none pending, all are cached or out.
    pub rows_all : (row_in g t h c).cached + (row_in g t h c).out ≡ (row_in g t h c).spans * k.slots
    unfolding row_in
    rows_all =
        let a = pairs_two t.used k.slots (λ s q. is_cached t k (entry_of s q)) (out_test g h c t) own all_of in
        omega (arith, a, cached_counted, own_slots)

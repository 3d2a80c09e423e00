-- Which classes fit a request, and how a search for the smallest ends, over any list of slot sizes. Assumes nothing.
use Rattle.std.specs.Prelude.{Some, None}
use mathlib.Core.Bool.{true, false, and-false, true≢false}
use mathlib.Core.List.{List}
use mathlib.Core.Logic.{◌⊎◌, inl, inr, ⊎_elim}
use mathlib.Core.Path.{◌≡◌, sym, ◌∙◌}
use Prim.Native.Nat.{ℕ, ◌%◌, ◌≤◌, ◌<◌}
use native.Mathlib.Decide.{dec_lt}
use native.Mathlib.Nat.{mod-eq_of_lt}
use native.Mathlib.Omega.{arith}
use lib.Dec.{leb, eqb}
use lib.ListN.{length}
use borrow.Author.Tests.{le-leb, lt-leb, leb-true, leb-false, eqb-true, eqb-false, eq-eqb, ne_eqb}
use Rattle.laws.proofs.FirstLaws.{tested, first_is}
use Rattle.laws.proofs.SomeLaws.{and_both}
use Rattle.size_classes.specs.SlotSizes.{slot_size, last_size}
use Rattle.size_classes.specs.Class.{raised, fits, in_range, smallest_class, class_of}

module _ (sizes : List ℕ) (s a k : ℕ) where
  -- A class whose slot is at least the size and a multiple of the alignment fits.
  pub fits_is : s ≤ slot_size sizes k → slot_size sizes k % a ≡ 0 → fits sizes s a k ≡ true
  unfolding fits
  fits_is h m = rw (le-leb s (slot_size sizes k) h, eq-eqb (slot_size sizes k % a) 0 m)

  -- A class whose slot is below the size does not fit.
  pub no_fit_size : slot_size sizes k < s → fits sizes s a k ≡ false
  unfolding fits
  no_fit_size h = rw (lt-leb s (slot_size sizes k) h)

  -- A class whose slot is no multiple of the alignment does not fit.
  pub no_fit_align : (slot_size sizes k % a ≡ 0 → ⊥) → fits sizes s a k ≡ false
  unfolding fits
  no_fit_align h = rw (ne_eqb (slot_size sizes k % a) 0 h) (and-false (leb s (slot_size sizes k)))

  -- A slot that is not empty and below the alignment is no multiple of it.
  pub no_fit_small : 0 < slot_size sizes k → slot_size sizes k < a → fits sizes s a k ≡ false
  no_fit_small l h = no_fit_align (λ m. omega (arith, mod-eq_of_lt h))

  -- A class that fits has a slot of at least the size.
  pub fits_holds : fits sizes s a k ≡ true → s ≤ slot_size sizes k
  fits_holds t =
      elim (dec_lt (slot_size sizes k) s) [ yes y ↦ absurd (true≢false (sym t ∙ no_fit_size y)) | no y ↦ omega arith ]

  -- A class that fits has a slot that is a multiple of the alignment.
  pub fits_aligned : fits sizes s a k ≡ true → slot_size sizes k % a ≡ 0
  fits_aligned t =
      ⊎_elim
      (λ e. eqb-true _ _ e)
      (λ e. absurd (true≢false (sym t ∙ no_fit_align (eqb-false _ _ e))))
      (tested (eqb (slot_size sizes k % a) 0))

module _ (sizes : List ℕ) (s a : ℕ) where
  -- A request is in range where its size and its raised alignment are at most the last slot,
  pub range_holds : in_range sizes s a ≡ true → (s ≤ last_size sizes) × (raised a ≤ last_size sizes)
  unfolding in_range
  range_holds e =
      let r = and_both (leb s (last_size sizes)) (leb (raised a) (last_size sizes)) e in
      (leb-true s (last_size sizes) r.0, leb-true (raised a) (last_size sizes) r.1)

  pub holds_range : s ≤ last_size sizes → raised a ≤ last_size sizes → in_range sizes s a ≡ true
  unfolding in_range
  holds_range hs ha = rw (le-leb s (last_size sizes) hs, le-leb (raised a) (last_size sizes) ha)

  -- and is not where one of them is above it.
  pub range_fails : in_range sizes s a ≡ false → (last_size sizes < s) ⊎ (last_size sizes < raised a)
  range_fails e =
      ⊎_elim
      (λ x.
      ⊎_elim (λ y. absurd (true≢false (sym (holds_range (leb-true s (last_size sizes) x) (leb-true (raised a) (last_size sizes) y)) ∙ e)))
      (λ y. inr (leb-false (raised a) (last_size sizes) y)) (tested (leb (raised a) (last_size sizes))))
      (λ x. inl (leb-false s (last_size sizes) x)) (tested (leb s (last_size sizes)))

  pub fails_range : (last_size sizes < s) ⊎ (last_size sizes < raised a) → in_range sizes s a ≡ false
  unfolding in_range
  fails_range h =
      ⊎_elim (λ x. rw (lt-leb s (last_size sizes) x)) (λ y. rw (lt-leb (raised a) (last_size sizes) y, and-false (leb s (last_size sizes)))) h

  -- A request in range is answered with the smallest class that fits.
  pub in_range_lem : s ≤ last_size sizes → raised a ≤ last_size sizes → class_of sizes s a ≡ Some (smallest_class sizes s a)
  unfolding class_of in_range
  in_range_lem hs ha = rw (le-leb s (last_size sizes) hs, le-leb (raised a) (last_size sizes) ha)

  -- A size above the last slot is too large.
  pub too_large_size : last_size sizes < s → class_of sizes s a ≡ None
  unfolding class_of in_range
  too_large_size h = rw (lt-leb s (last_size sizes) h)

  -- A raised alignment above the last slot is too large.
  pub too_large_align : last_size sizes < raised a → class_of sizes s a ≡ None
  unfolding class_of in_range
  too_large_align h = rw (lt-leb (raised a) (last_size sizes) h, and-false (leb s (last_size sizes)))

  -- The smallest class is the one that fits, where none before it does.
  pub smallest_is :
      (k : ℕ) →
      k ≤ length sizes →
      fits sizes s (raised a) k ≡ true →
      ((j : ℕ) → j < k → fits sizes s (raised a) j ≡ false) →
      smallest_class sizes s a ≡ k
  unfolding smallest_class
  smallest_is k l t u = first_is (fits sizes s (raised a)) (length sizes) 0 k (omega arith) (omega arith) t (λ j z h. u j h)

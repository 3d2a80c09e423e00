-- Class choice in 01's words, for every admissible list: the answer is the smallest fitting class, a refusal stands exactly where the size or the
-- raised alignment is above the last size, and no second answer fits. Assumes nothing.
use Rattle.std.specs.Prelude.{Option, Some, None}
use mathlib.Core.Bool.{true, true≢false}
use mathlib.Core.List.{List}
use mathlib.Core.Logic.{◌⊎◌, inl, inr, ⊎_elim}
use mathlib.Core.Path.{◌≡◌, refl, sym, ◌∙◌, ap}
use Prim.Native.Nat.{ℕ, ◌-◌, ◌%◌, ◌≤◌, ◌<◌}
use native.Mathlib.Decide.{dec_lt}
use native.Mathlib.Omega.{arith}
use lib.ListN.{length}
use Rattle.laws.proofs.FirstLaws.{first_holds, first_le, first_before}
use Rattle.size_classes.specs.SlotSizes.{slot_size, last_size, Admissible}
use Rattle.size_classes.specs.Class.{raised, fits, in_range, smallest_class, class_of}
use Rattle.size_classes.proofs.RaisedLaws.{last_aligned}
use Rattle.size_classes.proofs.ClassLaws.{fits_is, fits_holds, fits_aligned, range_holds, in_range_lem, too_large_size, too_large_align}

-- class k is "the smallest whose slot is at least the size and a multiple of that alignment"
pub record Smallest (sizes : List ℕ) (s a k : ℕ) : Type 0 where
  pub class : k < length sizes
  pub holds : s ≤ slot_size sizes k
  pub aligned : slot_size sizes k % raised a ≡ 0
  pub least : (j : ℕ) → j < k → s ≤ slot_size sizes j → slot_size sizes j % raised a ≡ 0 → ⊥

-- what an answer says: the smallest class, or "size, or raised alignment, above" the last size
abbrev pub Answer : List ℕ → ℕ → ℕ → Option ℕ → Type 0
Answer sizes s a (Some k) = (s ≤ last_size sizes) × (raised a ≤ last_size sizes) × Smallest sizes s a k
Answer sizes s a None = (last_size sizes < s) ⊎ (last_size sizes < raised a)

module _ (sizes : List ℕ) (ok : Admissible sizes) (s a : ℕ) where
  -- The last class fits every request in range.
  last_fits : s ≤ last_size sizes → raised a ≤ last_size sizes → fits sizes s (raised a) (length sizes - 1) ≡ true
  last_fits hs ha = fits_is sizes s (raised a) (length sizes - 1) hs (last_aligned sizes ok a ha)

  -- The class that the definition gives is the smallest.
  pub smallest : s ≤ last_size sizes → raised a ≤ last_size sizes → Smallest sizes s a (smallest_class sizes s a)
  unfolding smallest_class
  smallest hs ha =
      let f = fits sizes s (raised a) in
      let n = length sizes in
      let t : f (n - 1) ≡ true = last_fits hs ha in
      let p : f (smallest_class sizes s a) ≡ true = first_holds f n 0 (n - 1) (omega arith) (omega arith) t in
      record {
        class = omega (arith, ok.some, first_le f n 0 (n - 1) (omega arith) t);
        holds = fits_holds sizes s (raised a) _ p;
        aligned = fits_aligned sizes s (raised a) _ p;
        least = λ j l h m. true≢false (sym (fits_is sizes s (raised a) j h m) ∙ first_before f n 0 j (omega arith) l);
      }

  -- So it is where the request is in range.
  pub range_smallest : in_range sizes s a ≡ true → Smallest sizes s a (smallest_class sizes s a)
  range_smallest e = let r = range_holds sizes s a e in smallest r.0 r.1

  -- The definition gives such an answer, for every request.
  pub answer : Answer sizes s a (class_of sizes s a)
  answer =
      elim (dec_lt (last_size sizes) s) [
        | yes y ↦ rw (too_large_size sizes s a y) (inl y)
        | no y ↦
            elim (dec_lt (last_size sizes) (raised a)) [
              | yes z ↦ rw (too_large_align sizes s a z) (inr z)
              | no z ↦
                  let hs : s ≤ last_size sizes = omega arith in
                  let ha : raised a ≤ last_size sizes = omega arith in
                  rw (in_range_lem sizes s a hs ha) (hs, ha, smallest hs ha)
            ]
      ]

-- No two classes are both the smallest.
same_class : (sizes : List ℕ) (s a j k : ℕ) → Smallest sizes s a j → Smallest sizes s a k → j ≡ k
same_class sizes s a j k p q =
    elim (dec_lt j k) [
      | yes y ↦ absurd (q.least j y p.holds p.aligned)
      | no y ↦ elim (dec_lt k j) [ yes z ↦ absurd (p.least k z q.holds q.aligned) | no z ↦ omega arith ]
    ]

-- No second answer fits a request.
pub one_answer : (sizes : List ℕ) (s a : ℕ) (r t : Option ℕ) → Answer sizes s a r → Answer sizes s a t → r ≡ t
one_answer sizes s a (Some j) (Some k) p q = ap Some (same_class sizes s a j k p.2 q.2)
one_answer sizes s a (Some j) None p q = ⊎_elim (λ h. absurd (omega arith)) (λ h. absurd (omega arith)) q
one_answer sizes s a None (Some k) p q = ⊎_elim (λ h. absurd (omega arith)) (λ h. absurd (omega arith)) p
one_answer sizes s a None None p q = refl

module _ (sizes : List ℕ) (ok : Admissible sizes) (s a : ℕ) where
  -- What fits a request is what the definition gives: with `answer`, both directions.
  pub answer_is : (r : Option ℕ) → Answer sizes s a r → class_of sizes s a ≡ r
  answer_is r p = one_answer sizes s a (class_of sizes s a) r (answer sizes ok s a) p

  -- What the definition gives fits the request.
  pub is_answer : (r : Option ℕ) → class_of sizes s a ≡ r → Answer sizes s a r
  is_answer r e = rw e at (answer sizes ok s a)

  -- A request is refused exactly where the size or the raised alignment is above the last size.
  pub too_large_exactly :
      (class_of sizes s a ≡ None → (last_size sizes < s) ⊎ (last_size sizes < raised a)) ×
      ((last_size sizes < s) ⊎ (last_size sizes < raised a) → class_of sizes s a ≡ None)
  too_large_exactly = (is_answer None, answer_is None)

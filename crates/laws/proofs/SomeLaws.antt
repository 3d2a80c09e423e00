-- Laws of `some` and `every`: a test passes at some number below a bound, or at every one. Assumes nothing.
use mathlib.Core.Path.{◌≡◌, refl, sym, ◌∙◌}
use mathlib.Core.Bool.{Bool, true, false, ◌&&◌, ◌||◌, true≢false}
use mathlib.Core.Logic.{◌⊎◌, inl, inr, ⊎_elim}
use Prim.Native.Nat.{ℕ, zero, suc, ◌<◌}
use native.Mathlib.Decide.{dec_lt}
use native.Mathlib.Omega.{arith}
use Rattle.laws.specs.Choice.{some, every}
use Rattle.laws.proofs.FirstLaws.{tested}

-- What a disjunction and a conjunction of tests tell.
pub or_right : (b : Bool) → b || true ≡ true
or_right true = refl
or_right false = refl

pub or_cases : (b c : Bool) → b || c ≡ true → (b ≡ true) ⊎ (c ≡ true)
or_cases true c t = inl refl
or_cases false c t = inr t

pub and_both : (b c : Bool) → b && c ≡ true → (b ≡ true) × (c ≡ true)
and_both true c t = (refl, t)
and_both false c t = absurd (true≢false (sym t))

pub and_four : (a b c d : Bool) → a && b && c && d ≡ true → (a ≡ true) × (b ≡ true) × (c ≡ true) × (d ≡ true)
and_four a b c d t =
    let x = and_both (a && b && c) d t in
    let y = and_both (a && b) c x.0 in
    let z = and_both a b y.0 in
    (z.0, z.1, y.1, x.1)

module _ (f : ℕ → Bool) where
  -- A number below the bound at which the test passes.
  pub some_here : (n i : ℕ) → i < n → f i ≡ true → some n f ≡ true
  unfolding some
  some_here zero i h t = absurd (let z : ⊥ = omega arith in z)
  some_here (suc n) i h t =
      elim (dec_lt i n) [
        | yes y ↦ rw (some_here n i y t)
        | no y ↦ let e : i ≡ n = omega arith in let p : f n ≡ true = rw e at t in rw p (or_right (some n f))
      ]

  -- Where the test passes, it passes at a number below the bound.
  pub some_at : (n : ℕ) → some n f ≡ true → (i : ℕ) × (i < n) × (f i ≡ true)
  unfolding some
  some_at zero t = absurd (true≢false (sym t))
  some_at (suc n) t =
      ⊎_elim (λ s. let r = some_at n s in (r.0, omega (arith, r.1), r.2)) (λ e. (n, omega arith, e)) (or_cases (some n f) (f n) t)

  -- It passes nowhere where it fails at every number below the bound, and only there.
  pub some_not : (n : ℕ) → ((i : ℕ) → i < n → f i ≡ false) → some n f ≡ false
  unfolding some
  some_not zero h = refl
  some_not (suc n) h = rw (some_not n (λ i l. h i (omega arith)), h n (omega arith))

  pub some_each : (n i : ℕ) → some n f ≡ false → i < n → f i ≡ false
  some_each n i s h = ⊎_elim (λ e. absurd (true≢false (sym (some_here n i h e) ∙ s))) (λ e. e) (tested (f i))

  -- It passes everywhere where it passes at each number below the bound, and only there.
  pub every_all : (n : ℕ) → ((i : ℕ) → i < n → f i ≡ true) → every n f ≡ true
  unfolding every
  every_all zero h = refl
  every_all (suc n) h = rw (every_all n (λ i l. h i (omega arith)), h n (omega arith))

  pub every_each : (n i : ℕ) → every n f ≡ true → i < n → f i ≡ true
  unfolding every
  every_each zero i t h = absurd (let z : ⊥ = omega arith in z)
  every_each (suc n) i t h =
      let r = and_both (every n f) (f n) t in
      elim (dec_lt i n) [ yes y ↦ every_each n i r.0 y | no y ↦ let q : i ≡ n = omega arith in rw q r.1 ]

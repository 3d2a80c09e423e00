-- Laws of sums over the numbers below a bound. Assumes nothing.
use mathlib.Core.Bool.{Bool, true, false, cond}
use mathlib.Core.Logic.{⊎_elim}
use mathlib.Core.Path.{◌≡◌, refl, sym, ap, ap₂, subst, ◌∙◌}
use Prim.Native.Nat.{ℕ, zero, suc, ◌+◌, ◌<◌, ◌≤◌}
use native.Mathlib.Nat.{zero-add, add-zero, add-suc}
use native.Mathlib.Decide.{dec_lt, ℕ_discrete}
use native.Mathlib.Omega.{arith}
use Rattle.laws.specs.Choice.{sum}
use Rattle.laws.proofs.FirstLaws.{tested}

-- A sum of one term.
pub sum_one : (f : ℕ → ℕ) → sum 1 f ≡ f 0
unfolding sum
sum_one f = zero-add (f 0)

-- Sums of functions that agree below the bound agree.
pub sum_same : (n : ℕ) (f g : ℕ → ℕ) → ((k : ℕ) → k < n → f k ≡ g k) → sum n f ≡ sum n g
unfolding sum
sum_same zero f g e = refl
sum_same (suc n) f g e = ap₂ ◌+◌ (sum_same n f g (λ k h. e k (omega arith))) (e n (omega arith))

-- A sum is that of its first n terms and that of the rest.
pub sum_split : (n k : ℕ) (f : ℕ → ℕ) → sum (n + k) f ≡ sum n f + sum k (λ i. f (n + i))
unfolding sum
sum_split n zero f = ap (λ (z : ℕ). sum z f) (add-zero n) ∙ sym (add-zero (sum n f))
sum_split n (suc k) f = ap (λ (z : ℕ). sum z f) (add-suc n k) ∙ omega (arith, sum_split n k f)

-- A sum of ones is their number.
pub sum_ones : (n : ℕ) (f : ℕ → ℕ) → ((k : ℕ) → k < n → f k ≡ 1) → sum n f ≡ n
unfolding sum
sum_ones zero f e = refl
sum_ones (suc n) f e = omega (arith, sum_ones n f (λ k h. e k (omega arith)), e n (omega arith))

-- A sum of terms that are at most one is at most their number.
pub sum_most : (n : ℕ) (f : ℕ → ℕ) → ((k : ℕ) → f k ≤ 1) → sum n f ≤ n
unfolding sum
sum_most zero f e = omega arith
sum_most (suc n) f e = omega (arith, sum_most n f e, e n)

-- One or none is at most one.
pub one_most : (b : Bool) → cond b 1 0 ≤ 1
one_most true = omega arith
one_most false = omega arith

-- Where as many of the numbers below a bound are counted as there are, each is.
pub all_counted : (b : ℕ → Bool) (n : ℕ) → sum n (λ q. cond (b q) 1 0) ≡ n → (q : ℕ) → q < n → b q ≡ true
unfolding sum
all_counted b zero e q l = absurd (let z : ⊥ = omega arith in z)
all_counted b (suc n) e q l =
    let f : ℕ → ℕ = λ q. cond (b q) 1 0 in
    let most = sum_most n f (λ k. one_most (b k)) in
    let one = one_most (b n) in
    elim (dec_lt q n) [
      | yes y ↦ all_counted b n (omega (arith, e, most, one)) q y
      | no y ↦
          let d : q ≡ n = omega arith in
          subst (λ (x : ℕ). b x ≡ true) (sym d)
          (⊎_elim (λ h. h) (λ h. absurd (let z : ⊥ = omega (arith, e, most, ap {B = ℕ} (λ (x : Bool). cond x 1 0) h) in z)) (tested (b n)))
    ]

-- Of two sums whose terms agree but at i, each with the other's term at i.
pub sum_put :
    (n i : ℕ) (f g : ℕ → ℕ) → i < n → ((j : ℕ) → (j ≡ i → ⊥) → f j ≡ g j) → sum n f + g i ≡ sum n g + f i
unfolding sum
sum_put zero i f g h e = absurd (let z : ⊥ = omega arith in z)
sum_put (suc n) i f g h e = go (ℕ_discrete n i) (λ l. sum_put n i f g l e)
  where
    go : Dec (n ≡ i) → (i < n → sum n f + g i ≡ sum n g + f i) → sum n f + f n + g i ≡ sum n g + g n + f i
    go (yes q) rest = omega (arith, ap f q, ap g q, sum_same n f g (λ k l. e k (λ z. let w : ⊥ = omega arith in w)))
    go (no q) rest = omega (arith, rest (omega arith), e n q)

-- A sum of zeros is 0.
pub sum_none : (n : ℕ) (f : ℕ → ℕ) → ((k : ℕ) → k < n → f k ≡ 0) → sum n f ≡ 0
unfolding sum
sum_none zero f e = refl
sum_none (suc n) f e = omega (arith, sum_none n f (λ k h. e k (omega arith)), e n (omega arith))

-- Laws of how many numbers and pairs pass a test: tests that agree, one pair more, more rows, two tests that never pass together. Assumes nothing.
use mathlib.Core.Path.{◌≡◌, refl, ap, ◌∙◌}
use mathlib.Core.Bool.{Bool, true, false, cond}
use mathlib.Core.Logic.{⊎_elim}
use Prim.Native.Nat.{ℕ, zero, suc, ◌+◌, ◌*◌, ◌<◌, ◌≤◌}
use native.Mathlib.Decide.{dec_lt, ℕ_discrete}
use native.Mathlib.Omega.{arith}
use Rattle.laws.specs.Choice.{sum}
use Rattle.laws.proofs.SumLaws.{sum_same, sum_none, sum_ones, sum_most}
use Rattle.laws.proofs.FirstLaws.{tested}
use Rattle.laws.proofs.SumSteps.{sum_next}
use Rattle.laws.specs.Pairs.{passing, pairs}

-- ---- sums

-- Two sums that agree but at one number, where the second has one more.
sum_more :
    (n : ℕ) (f g : ℕ → ℕ) (i : ℕ) → i < n → g i ≡ f i + 1 → ((j : ℕ) → j < n → (j ≡ i → ⊥) → f j ≡ g j) → sum n g ≡ sum n f + 1
unfolding sum
sum_more zero f g i l e o = absurd (let z : ⊥ = omega arith in z)
sum_more (suc n) f g i l e o =
    elim (ℕ_discrete n i) [
      | yes y ↦
          (let a = sum_same n f g (λ j m. o j (omega arith) (λ z. omega arith)) in
          let b : g n ≡ f n + 1 = rw y e in
          omega arith)
      | no y ↦
          (let a = sum_more n f g i (omega arith) e (λ j m d. o j (omega arith) d) in
          let b = o n (omega arith) y in
          omega arith)
    ]

-- Terms past a bound that are 0 add nothing.
sum_longer : (l n : ℕ) (f : ℕ → ℕ) → l ≤ n → ((k : ℕ) → l ≤ k → k < n → f k ≡ 0) → sum n f ≡ sum l f
unfolding sum
sum_longer l zero f h e = let z : zero ≡ l = omega arith in ap (λ (x : ℕ). sum x f) z
sum_longer l (suc n) f h e =
    elim (dec_lt n l) [
      | yes y ↦ let z : suc n ≡ l = omega arith in ap (λ (x : ℕ). sum x f) z
      | no y ↦ omega (arith, sum_longer l n f (omega arith) (λ k a b. e k a (omega arith)), e n (omega arith) (omega arith))
    ]

-- Two sums are together at most a third, where their terms are, and equal to it where they are.
sum_two_most : (n : ℕ) (f g h : ℕ → ℕ) → ((k : ℕ) → k < n → f k + g k ≤ h k) → sum n f + sum n g ≤ sum n h
unfolding sum
sum_two_most zero f g h e = omega arith
sum_two_most (suc n) f g h e = omega (arith, sum_two_most n f g h (λ k l. e k (omega arith)), e n (omega arith))

sum_two : (n : ℕ) (f g h : ℕ → ℕ) → ((k : ℕ) → k < n → f k + g k ≡ h k) → sum n f + sum n g ≡ sum n h
unfolding sum
sum_two zero f g h e = refl
sum_two (suc n) f g h e = omega (arith, sum_two n f g h (λ k l. e k (omega arith)), e n (omega arith))

-- ---- numbers

-- A test as a number.
abbrev pub one : Bool → ℕ
one b = cond b 1 0

one_most : (b : Bool) → one b ≤ 1
one_most true = omega arith
one_most false = omega arith

-- Tests that agree pass equally often.
pub passing_same : (n : ℕ) (f g : ℕ → Bool) → ((i : ℕ) → i < n → f i ≡ g i) → passing n f ≡ passing n g
unfolding passing
passing_same n f g e = sum_same n _ _ (λ i l. ap (λ (b : Bool). cond b 1 0) (e i l))

-- One number more, which passes or not.
pub passing_next : (n : ℕ) (f : ℕ → Bool) → passing (n + 1) f ≡ passing n f + cond (f n) 1 0
unfolding passing
passing_next n f = sum_next n _

-- Numbers past a bound that do not pass add nothing.
pub passing_longer : (l n : ℕ) (f : ℕ → Bool) → l ≤ n → ((i : ℕ) → l ≤ i → i < n → f i ≡ false) → passing n f ≡ passing l f
unfolding passing
passing_longer l n f h e = sum_longer l n _ h (λ i a b. ap one (e i a b))

-- No more pass than there are.
passing_most : (n : ℕ) (f : ℕ → Bool) → passing n f ≤ n
unfolding passing
passing_most n f = sum_most n _ (λ i. one_most (f i))

-- Where as many pass as there are, each passes.
pub passing_all : (n : ℕ) (f : ℕ → Bool) → passing n f ≡ n → (i : ℕ) → i < n → f i ≡ true
unfolding passing sum
passing_all zero f e i l = absurd (let z : ⊥ = omega arith in z)
passing_all (suc n) f e i l =
    ⊎_elim
    (λ x.
    elim (ℕ_discrete i n) [
      | yes y ↦ ap f y ∙ x
      | no y ↦ passing_all n f (let z : one (f n) ≡ 1 = ap one x in omega arith) i (omega arith)
    ])
    (λ x. absurd (let z : one (f n) ≡ 0 = ap one x in let w : ⊥ = omega (arith, passing_most n f) in w))
    (tested (f n))

-- ---- pairs

-- Tests that agree pass equally often.
pub pairs_same : (n m : ℕ) (f g : ℕ → ℕ → Bool) → ((i j : ℕ) → i < n → j < m → f i j ≡ g i j) → pairs n m f ≡ pairs n m g
unfolding pairs
pairs_same n m f g e = sum_same n _ _ (λ i l. sum_same m _ _ (λ j k. ap (λ (b : Bool). cond b 1 0) (e i j l k)))

-- A test that passes at one pair more.
pub pairs_more :
    (n m : ℕ) (f g : ℕ → ℕ → Bool) (a b : ℕ) → a < n → b < m → f a b ≡ false → g a b ≡ true →
    ((i j : ℕ) → i < n → j < m → (i ≡ a → j ≡ b → ⊥) → f i j ≡ g i j) → pairs n m g ≡ pairs n m f + 1
unfolding pairs
pairs_more n m f g a b la lb ef eg o =
    sum_more n _ _ a la
    (sum_more m _ _ b lb (rw (ef, eg)) (λ j k d. ap (λ (x : Bool). cond x 1 0) (o a j la k (λ e z. d z))))
    (λ i l d. sum_same m _ _ (λ j k. ap (λ (x : Bool). cond x 1 0) (o i j l k (λ e z. d e))))

-- Rows past a bound that pass nowhere add nothing.
pub pairs_longer : (l n m : ℕ) (f : ℕ → ℕ → Bool) → l ≤ n → ((i j : ℕ) → l ≤ i → i < n → j < m → f i j ≡ false) → pairs n m f ≡ pairs l m f
unfolding pairs
pairs_longer l n m f h e = sum_longer l n _ h (λ i a b. sum_none m _ (λ j k. ap (λ (x : Bool). cond x 1 0) (e i j a b k)))

-- A test of the first number alone passes at every pair of it.
pub pairs_rows : (n m : ℕ) (p : ℕ → Bool) → pairs n m (λ i j. p i) ≡ passing n p * m
unfolding pairs passing sum
pairs_rows zero m p = omega arith
pairs_rows (suc n) m p = go (p n) (sum n (λ i. sum m (λ j. one (p i)))) (sum n (λ i. one (p i))) (pairs_rows n m p)
  where
    go : (b : Bool) (x y : ℕ) → x ≡ y * m → x + sum m (λ j. one b) ≡ (y + one b) * m
    go true x y e = omega (arith, sum_ones m (λ j. 1) (λ j l. refl))
    go false x y e = omega (arith, sum_none m (λ j. 0) (λ j l. refl))

-- Two tests that pass together at most as often as a third at each pair, pass at most as often in all,
pub pairs_two_most :
    (n m : ℕ) (f g h : ℕ → ℕ → Bool) → ((i j : ℕ) → i < n → j < m → one (f i j) + one (g i j) ≤ one (h i j)) →
    pairs n m f + pairs n m g ≤ pairs n m h
unfolding pairs
pairs_two_most n m f g h e = sum_two_most n _ _ _ (λ i l. sum_two_most m _ _ _ (λ j k. e i j l k))

-- and as often, where they do so at each pair.
pub pairs_two :
    (n m : ℕ) (f g h : ℕ → ℕ → Bool) → ((i j : ℕ) → i < n → j < m → one (f i j) + one (g i j) ≡ one (h i j)) →
    pairs n m f + pairs n m g ≡ pairs n m h
unfolding pairs
pairs_two n m f g h e = sum_two n _ _ _ (λ i l. sum_two m _ _ _ (λ j k. e i j l k))

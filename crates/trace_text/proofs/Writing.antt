-- One text after another, where what does not fit is left out; and what std writes of a number is its digits. Assumes nothing.
use Prim.Native.Nat.{suc, zero}
use Rattle.std.proofs.Common.{◌≡◌, ℕ, ◌+◌, ◌-◌, ◌/◌, ◌%◌, ◌^◌, ◌<◌, ◌≤◌, List, [], ◌∷◌, ◌++◌, take, arith, rules, refl, sym, ap, subst, ◌∙◌}
use Rattle.std.specs.Prelude.{decimal}
use mathlib.Core.List.{append_assoc}
use Rattle.io.specs.Digits.{hex_digit_ascii, last_digits}
use Rattle.std.proofs.Math.Nat.{mod-eq_of_lt, pow-succ'}
use Rattle.std.proofs.lemmas.Fmt.{decimal_by_steps}
use Rattle.trace_text.specs.Wrote.{Wrote, Decimal}

take_seam : (r : ℕ) (xs ys : List ℕ) → take r (take r xs ++ ys) ≡ take r (xs ++ ys)
take_seam zero xs ys = refl
take_seam (suc r) [] ys = refl
take_seam (suc r) (x ∷ xs) ys = ap (λ (zs : List ℕ). x ∷ zs) (take_seam r xs ys)

pub wrote_then : (room : ℕ) (l m n s t : List ℕ) → Wrote room l s m → Wrote room m t n → Wrote room l (s ++ t) n
wrote_then room l m n s t first second =
    second ∙ ap (λ (x : List ℕ). take room (x ++ t)) first ∙ take_seam room (l ++ s) t ∙ ap (λ (x : List ℕ). take room x) (append_assoc l s t)

digit : (d : ℕ) → d < 10 → hex_digit_ascii d ≡ 48 + d
digit d small = search rules

one : (n : ℕ) → n < 10 → Decimal n ((48 + n) ∷ [])
one n small =
    (1, (omega arith, omega (arith, small), λ more. absurd (omega (arith, more))), ap (λ (x : ℕ). x ∷ []) (sym (ap hex_digit_ascii (mod-eq_of_lt small) ∙ digit n small)))

before : (k : ℕ) → suc k - 1 ≡ k
before k = omega arith

front : (n k : ℕ) → 10 ≤ n → (1 < k → 10 ^ (k - 1) ≤ n / 10) → 1 < suc k → 10 ^ k ≤ n
front n zero large rest some = absurd (omega (arith, some))
front n (suc zero) large rest some = large
front n (suc (suc k)) large rest some =
    let most : 10 ^ suc k ≤ n / 10 = subst (λ (x : ℕ). 10 ^ x ≤ n / 10) (before (suc k)) (rest (omega arith)) in
    omega (arith, most, pow-succ' 10 (suc k))

more : (n : ℕ) (ds : List ℕ) → 10 ≤ n → Decimal (n / 10) ds → Decimal n (ds ++ ((48 + n % 10) ∷ []))
more n ds large d = (
  suc d.0,
  (omega arith, omega (arith, d.1.1, pow-succ' 10 d.0), λ some. subst (λ (x : ℕ). 10 ^ x ≤ n) (sym (before d.0)) (front n d.0 large d.1.2 some)),
  ap (λ (x : List ℕ). x ++ ((48 + n % 10) ∷ [])) d.2 ∙ ap (λ (x : ℕ). last_digits 10 d.0 (n / 10) ++ (x ∷ [])) (sym (digit (n % 10) (omega arith))),
)

pub decimal_is : (n : ℕ) → n < 2 ^ 64 → Decimal n (decimal n)
decimal_is n fits = decimal_by_steps Decimal one more n fits

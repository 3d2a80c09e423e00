-- The set bits of a word as a list: each stands in it once, and there are as many as the word has. Assumes nothing.
use mathlib.Core.Path.{◌≡◌, refl, sym, ap, ◌∙◌}
use mathlib.Core.Bool.{true}
use mathlib.Core.List.{List}
use Prim.Native.Nat.{ℕ, zero, suc, ◌+◌, ◌/◌, ◌%◌, ◌<◌}
use native.Mathlib.Omega.{arith}
use borrow.Author.Tests.{eq-eqb, eqb-true}
use lib.Count.{ones_in}
use lib.ListN.{length, get_or}
use Rattle.laws.specs.Word.{bit_at, is_set, bit_digit, bits_from}
use Rattle.laws.proofs.BitLaws.{bit_lt, bit_first, bit_next}

-- y stands for a set bit of x among the d low ones, counted from i on
pub record BitOf (d i x y : ℕ) : Type 0 where
  pub bit : ℕ
  pub below : bit < d
  pub is_one : is_set x bit ≡ true
  pub place : y ≡ i + bit

-- A bit of the half is the next one of the whole.
later : (d i x y : ℕ) → BitOf d (suc i) (x / 2) y → BitOf (suc d) i x y
later d i x y b =
    record { bit = suc b.bit; below = omega (arith, b.below); is_one = rw (bit_next x b.bit) b.is_one; place = omega (arith, b.place) }

digit_at :
    (d i x v j : ℕ) (above : List ℕ) → x % 2 ≡ v → ((m : ℕ) → m < length above → BitOf d (suc i) (x / 2) (get_or above m 0)) →
    j < length (bit_digit v i above) → BitOf (suc d) i x (get_or (bit_digit v i above) j 0)
digit_at d i x zero j above e f l = later d i x (get_or above j 0) (f j l)
digit_at d i x (suc v) zero above e f l =
    record { bit = 0; below = omega arith; is_one = eq-eqb (bit_at x 0) 1 (omega (arith, bit_first x, e, bit_lt x 0)); place = omega arith }
digit_at d i x (suc v) (suc j) above e f l = later d i x (get_or above j 0) (f j (omega arith))

-- Each number of the list stands for a set bit.
pub bits_at : (d i x j : ℕ) → j < length (bits_from d i x) → BitOf d i x (get_or (bits_from d i x) j 0)
unfolding bits_from
bits_at zero i x j l = absurd (omega arith)
bits_at (suc d) i x j l = digit_at d i x (x % 2) j (bits_from d (suc i) (x / 2)) refl (λ m. bits_at d (suc i) (x / 2) m) l

-- y stands in a list
pub record Stands (l : List ℕ) (y : ℕ) : Type 0 where
  pub place : ℕ
  pub below : place < length l
  pub is : get_or l place 0 ≡ y

stands_later : (y z v i : ℕ) (above : List ℕ) → y ≡ z → Stands above y → Stands (bit_digit v i above) z
stands_later y z zero i above e s = record { place = s.place; below = s.below; is = s.is ∙ e }
stands_later y z (suc v) i above e s = record { place = suc s.place; below = omega (arith, s.below); is = s.is ∙ e }

-- Each set bit stands in the list.
pub bits_stand : (d i x b : ℕ) → b < d → is_set x b ≡ true → Stands (bits_from d i x) (i + b)
unfolding bits_from
bits_stand zero i x b l e = absurd (omega arith)
bits_stand (suc d) i x zero l e = first (x % 2) (sym (bit_first x) ∙ eqb-true (bit_at x 0) 1 e)
  where
    first : (v : ℕ) → v ≡ 1 → Stands (bit_digit v i (bits_from d (suc i) (x / 2))) (i + 0)
    first zero z = absurd (omega arith)
    first (suc v) z = record { place = 0; below = omega arith; is = omega arith }
bits_stand (suc d) i x (suc b) l e =
    stands_later (suc i + b) (i + suc b) (x % 2) i (bits_from d (suc i) (x / 2)) (omega arith)
    (bits_stand d (suc i) (x / 2) b (omega arith) (rw (← bit_next x b) e))

digit_apart :
    (i v : ℕ) (above : List ℕ) → ((m : ℕ) → m < length above → i < get_or above m 0) →
    ((j : ℕ) → j < length above → (m : ℕ) → m < j → get_or above m 0 ≡ get_or above j 0 → ⊥) →
    (j : ℕ) → j < length (bit_digit v i above) → (m : ℕ) → m < j → get_or (bit_digit v i above) m 0 ≡ get_or (bit_digit v i above) j 0 → ⊥
digit_apart i zero above least f j l m h e = f j l m h e
digit_apart i (suc v) above least f zero l m h e = omega arith
digit_apart i (suc v) above least f (suc j) l zero h e = let z = least j (omega arith) in omega (arith, z, e)
digit_apart i (suc v) above least f (suc j) l (suc m) h e = f j (omega arith) m (omega arith) e

-- No number stands in the list twice.
pub bits_apart :
    (d i x j : ℕ) → j < length (bits_from d i x) → (m : ℕ) → m < j → get_or (bits_from d i x) m 0 ≡ get_or (bits_from d i x) j 0 → ⊥
unfolding bits_from
bits_apart zero i x j l m h e = omega arith
bits_apart (suc d) i x j l m h e =
    digit_apart i (x % 2) (bits_from d (suc i) (x / 2)) (λ n l. omega (arith, (bits_at d (suc i) (x / 2) n l).place))
    (bits_apart d (suc i) (x / 2)) j l m h e

digit_length : (v i : ℕ) (above : List ℕ) → v < 2 → length (bit_digit v i above) ≡ v + length above
digit_length zero i above h = omega arith
digit_length (suc zero) i above h = omega arith
digit_length (suc (suc v)) i above h = absurd (omega arith)

-- There are as many as the word has.
pub bits_length_lem : (d i x : ℕ) → length (bits_from d i x) ≡ ones_in d x
unfolding bits_from ones_in
bits_length_lem zero i x = refl
bits_length_lem (suc d) i x =
    digit_length (x % 2) i (bits_from d (suc i) (x / 2)) (omega arith) ∙ ap (λ (n : ℕ). x % 2 + n) (bits_length_lem d (suc i) (x / 2))

-- A refusal is known by its number, and none has the number 0, so an answer without a value is known by its number too. Assumes nothing.
use mathlib.Core.Path.{◌≡◌, refl, sym, ap, ◌∙◌}
use mathlib.Core.Bool.{cond}
use Prim.Native.Nat.{ℕ}
use native.Mathlib.Omega.{arith}
use lib.Dec.{eqb}
use Rattle.refusals.specs.declared.Refusal.{Refusal}
use Rattle.refusals.specs.declared.Refusal.TheVariants.{NotAsStated, Unsound, NoSuchHeap, TooFewWords, TooLarge, Exhausted, NoSuchSlot, NotOut, Malformed, NotWhole}
use Rattle.std.specs.Prelude.{Result, Ok, Err}
use Rattle.refusals.specs.Numbers.{number, number_of}

refusal_of : ℕ → Refusal
refusal_of n =
    cond (eqb n 1) NotAsStated
    (cond (eqb n 2) Unsound
    (cond (eqb n 3) NoSuchHeap
    (cond (eqb n 4) TooFewWords
    (cond (eqb n 5) TooLarge (cond (eqb n 6) Exhausted (cond (eqb n 7) NoSuchSlot (cond (eqb n 8) NotOut (cond (eqb n 9) Malformed NotWhole))))))))

refusal_back : (e : Refusal) → refusal_of (number e) ≡ e
unfolding refusal_of
refusal_back NotAsStated = refl
refusal_back Unsound = refl
refusal_back NoSuchHeap = refl
refusal_back TooFewWords = refl
refusal_back TooLarge = refl
refusal_back Exhausted = refl
refusal_back NoSuchSlot = refl
refusal_back NotOut = refl
refusal_back Malformed = refl
refusal_back NotWhole = refl

-- No refusal has the number 0.
pub number_some : (e : Refusal) → number e ≡ 0 → ⊥
unfolding refusal_of
number_some e q =
    let n : number e ≡ 10 = ap number (sym (refusal_back e) ∙ ap refusal_of q) in
    let z : ⊥ = omega (arith, n, q) in z

pub number_known : (e f : Refusal) → number e ≡ number f → e ≡ f
number_known e f q = sym (refusal_back e) ∙ ap refusal_of q ∙ refusal_back f

-- Two answers of one number are one answer.
pub number_of_known : (x y : Result (Unit {0}) Refusal) → number_of x ≡ number_of y → x ≡ y
number_of_known (Ok d) (Ok e) q = refl
number_of_known (Ok d) (Err f) q = absurd (number_some f (sym q))
number_of_known (Err e) (Ok d) q = absurd (number_some e q)
number_of_known (Err e) (Err f) q = ap Err (number_known e f q)

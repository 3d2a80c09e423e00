-- What two tests that are compared tell, and what an answer that is a test says. Assumes nothing.
use mathlib.Core.Path.{◌≡◌, refl, sym, ◌∙◌}
use mathlib.Core.Bool.{Bool, true, false, beq, true≢false}
use Prim.Native.Nat.{ℕ}
use lib.Dec.{eqb}
use borrow.Author.Tests.{eqb-true, eqb-false}
use Rattle.laws.specs.Choice.{Says}

-- An answer that compares two numbers says what their being equal amounts to.
pub says_eqb : (a b : ℕ) {P : Type 0} → (a ≡ b → P) → (P → a ≡ b) → Says (eqb a b) P
says_eqb a b {P} f g = go (eqb a b) refl
  where
    go : (t : Bool) → eqb a b ≡ t → Says t P
    go true e = f (eqb-true a b e)
    go false e = λ p. eqb-false a b e (g p)

-- What an answer that is true says, and what one that is false refutes.
pub granted : (r : Bool) {P : Type 0} → Says r P → r ≡ true → P
granted true p e = p
granted false p e = absurd (true≢false (sym e))

pub refuted : (r : Bool) {P : Type 0} → Says r P → r ≡ false → P → ⊥
refuted true n e p = true≢false e
refuted false n e p = n p

-- Two tests that are compared, where the first is known.
pub says_beq : (a b t : Bool) → a ≡ t → Says (beq a b) (t ≡ b)
says_beq true true t e = sym e
says_beq false false t e = sym e
says_beq true false t e = λ q. true≢false (e ∙ q)
says_beq false true t e = λ q. true≢false (sym (e ∙ q))

-- What a chain of tests says: as much as the tests before, and where they passed what the next test says too.
pub and_then : (r q v : Bool) (P Q : Type 0) → r ≡ true → v ≡ q → Says r P → Says q Q → Says v (P × Q)
and_then true true v P Q e k p q = rw k (p, q)
and_then true false v P Q e k p n = rw k (λ w. n w.1)
and_then false q v P Q e k p n = absurd (true≢false (sym e))

pub and_not : (r v : Bool) (P Q : Type 0) → r ≡ false → v ≡ r → Says r P → Says v (P × Q)
and_not false v P Q e k n = rw k (λ w. n w.0)
and_not true v P Q e k n = absurd (true≢false e)

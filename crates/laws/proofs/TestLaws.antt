-- Laws of tests: two that agree, one that cannot pass, two that both pass, and what two pick by one. Assumes nothing.
use mathlib.Core.Path.{◌≡◌, refl, sym}
use mathlib.Core.Bool.{Bool, true, false, ◌&&◌, cond}

-- Two tests of which each passes where the other does agree.
pub tests_agree : (a b : Bool) → (a ≡ true → b ≡ true) → (b ≡ true → a ≡ true) → a ≡ b
tests_agree true b f g = sym (f refl)
tests_agree false true f g = g refl
tests_agree false false f g = refl

-- A test that cannot pass fails.
pub test_fails : (b : Bool) → (b ≡ true → ⊥) → b ≡ false
test_fails true n = absurd (n refl)
test_fails false n = refl

-- Both tests pass.
pub and_so : (a b : Bool) → a ≡ true → b ≡ true → (a && b) ≡ true
and_so a b e d = rw (e, d)

-- What holds of both pairs holds of what one test picks of each.
pub paired :
    {A B : Type 0} (R : A → B → Type 0) (b : Bool) (x y : A) (u v : B) → (b ≡ true → R x u) → (b ≡ false → R y v) → R (cond b x y) (cond b u v)
paired R true x y u v f g = f refl
paired R false x y u v f g = g refl

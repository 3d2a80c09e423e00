-- Laws of what a test picks. Assumes nothing.
use mathlib.Core.Path.{◌≡◌, refl}
use mathlib.Core.Bool.{Bool, true, false, ◌&&◌, ◌||◌, cond}

-- What holds of both holds of what a test picks.
pub cond_both :
    {A : Type 0} (P : A → Type 0) (b : Bool) (x y : A) → (b ≡ true → P x) → (b ≡ false → P y) → P (cond b x y)
cond_both P true x y f g = f refl
cond_both P false x y f g = g refl

-- One of two that holds is enough.
pub or_true : (b : Bool) → b || true ≡ true
or_true true = refl
or_true false = refl

-- A second that holds changes nothing.
pub and_true : (b : Bool) → b && true ≡ b
and_true true = refl
and_true false = refl

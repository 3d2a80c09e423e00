-- The blocks that are out, and the steps that change none of them. Assumes nothing.
use Rattle.std.specs.Prelude.{◌≡◌, ℕ, ◌<◌, ◌≤◌}
use Rattle.tables.specs.Shape.{Shape}
use Rattle.tables.specs.Cells.{Tables, class_at, owner_at}
use Rattle.span.specs.declared.BlockState.TheVariants.{Out}
use Rattle.span.specs.State.{state_of}
use Rattle.sound.specs.Sound.{home_of}

-- slot q of span s is a block, of a used span and in range, and is out
pub record IsOut (g : Shape) (t : Tables) (s q : ℕ) : Type 0 where
  pub used : s < t.used
  pub slot : q < (home_of g t s).slots
  pub out : state_of g t s q ≡ Out

-- every span used before is used still, and of the same class and owner
pub record SameSpans (t u : Tables) : Type 0 where
  pub used : t.used ≤ u.used
  pub class : (s : ℕ) → s < t.used → class_at u s ≡ class_at t s
  pub owner : (s : ℕ) → s < t.used → owner_at u s ≡ owner_at t s

-- from t to u the same blocks are out
pub record SameOuts (g : Shape) (t u : Tables) : Type 0 where
  pub spans : SameSpans t u
  pub kept : (s q : ℕ) → IsOut g t s q → IsOut g u s q
  pub none : (s q : ℕ) → IsOut g u s q → IsOut g t s q

-- block q of span s comes out, and the others that are out are those that were
pub record ComesOut (g : Shape) (t u : Tables) (s q : ℕ) : Type 0 where
  pub spans : SameSpans t u
  pub was : IsOut g t s q → ⊥
  pub now : IsOut g u s q
  pub kept : (x y : ℕ) → IsOut g t x y → IsOut g u x y
  pub none : (x y : ℕ) → IsOut g u x y → (x ≡ s → y ≡ q → ⊥) → IsOut g t x y

-- block q of span s goes back, and the others that are out are those that were
pub record GoesBack (g : Shape) (t u : Tables) (s q : ℕ) : Type 0 where
  pub spans : SameSpans t u
  pub was : IsOut g t s q
  pub now : IsOut g u s q → ⊥
  pub kept : (x y : ℕ) → IsOut g t x y → (x ≡ s → y ≡ q → ⊥) → IsOut g u x y
  pub none : (x y : ℕ) → IsOut g u x y → IsOut g t x y

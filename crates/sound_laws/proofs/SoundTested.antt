-- The test that the calls make says whether the table is sound. Assumes nothing.
use mathlib.Core.Path.{◌≡◌, refl}
use mathlib.Core.Bool.{true, false}
use Rattle.laws.specs.Choice.{Says, is_yes}
use Rattle.tables.specs.Shape.{Shape}
use Rattle.tables.specs.Cells.{Tables}
use Rattle.sound.specs.Sound.{Sound}
use Rattle.sound.specs.Decided.{sound, is_sound}

-- A decision, as a test, says what it decides.
decided : {P : Type 0} (d : Dec P) → Says (is_yes d) P
decided (yes p) = p
decided (no n) = n

passed : {P : Type 0} (d : Dec P) → P → is_yes d ≡ true
passed (yes p) q = refl
passed (no n) q = absurd (n q)

failed : {P : Type 0} (d : Dec P) → (P → ⊥) → is_yes d ≡ false
failed (yes p) q = absurd (q p)
failed (no n) q = refl

module _ (g : Shape) (t : Tables) where
  pub sound_says : Says (is_sound g t) (Sound g t)
  unfolding is_sound
  sound_says = decided (sound g t)

  pub sound_passes : Sound g t → is_sound g t ≡ true
  unfolding is_sound
  sound_passes o = passed (sound g t) o

  pub unsound_fails : (Sound g t → ⊥) → is_sound g t ≡ false
  unfolding is_sound
  unsound_fails n = failed (sound g t) n

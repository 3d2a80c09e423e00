-- The number of a table, by its two tests; and what 0 means. Assumes nothing.
use mathlib.Core.Path.{◌≡◌, ◌∙◌}
use mathlib.Core.Bool.{true, false}
use mathlib.Core.Logic.{⊎_elim}
use native.Mathlib.Omega.{arith}
use Rattle.laws.proofs.FirstLaws.{tested}
use Rattle.tables.specs.Shape.{Shape}
use Rattle.tables.specs.Cells.{Tables, as_stated}
use Rattle.sound.specs.Decided.{is_sound}
use Rattle.guard.specs.Guard.{sound_number}

module _ (g : Shape) (t : Tables) where
  pub not_stated_lem : as_stated g t ≡ false → 1 ≡ sound_number g t
  unfolding sound_number
  not_stated_lem e = rw e

  pub found_sound : as_stated g t ≡ true → is_sound g t ≡ true → 0 ≡ sound_number g t
  unfolding sound_number
  found_sound e s = rw (e, s)

  pub found_unsound : as_stated g t ≡ true → is_sound g t ≡ false → 2 ≡ sound_number g t
  unfolding sound_number
  found_unsound e s = rw (e, s)

  -- 0 is the number of a table as stated that is sound.
  pub zero_means : sound_number g t ≡ 0 → (as_stated g t ≡ true) × (is_sound g t ≡ true)
  zero_means e =
      ⊎_elim
      (λ s. ⊎_elim (λ d. (s, d)) (λ d. absurd (let z : 2 ≡ 0 = found_unsound s d ∙ e in omega (arith, z))) (tested (is_sound g t)))
      (λ s. absurd (let z : 1 ≡ 0 = not_stated_lem s ∙ e in omega (arith, z)))
      (tested (as_stated g t))

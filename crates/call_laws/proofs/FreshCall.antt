-- The fresh-table maker: whatever stood there, the table is sound afterwards, and calls may be made of it. Assumes nothing.
use mathlib.Core.Path.{◌≡◌, refl}
use mathlib.Core.Bool.{true}
use mathlib.Core.Logic.{◌⊎◌, inl, inr}
use Prim.Native.Nat.{ℕ}
use lib.ListN.{length, replicate, length-replicate}
use Rattle.laws.proofs.CondLaws.{cond_both}
use Rattle.tables.specs.Shape.{Shape}
use Rattle.tables.specs.Cells.{Tables, right_lengths, as_stated, fresh_tables}
use Rattle.tables.specs.Fresh.{Numbered, numbered, fresh}
use Rattle.sound.specs.Sound.{Sound}
use Rattle.sound_laws.proofs.FreshSound.{fresh_sound}
use Rattle.sound_calls.specs.Lent.{Lent}
use Rattle.call_laws.specs.Served.{Served}
use Rattle.call_laws.proofs.SingleLaws.{lent_here}

module _ (g : Shape) (t : Tables) where
  -- A fresh table has the lengths of the one that it replaces.
  pub fresh_stated : as_stated g (fresh_tables t) ≡ as_stated g t
  unfolding as_stated right_lengths fresh_tables
  fresh_stated =
      let zeros : (n : ℕ) → length {A = ℕ} (replicate n 0) ≡ n = λ n. length-replicate {A = ℕ} n 0 in
      rw (zeros (length t.bits), zeros (length t.spans), zeros (length t.entries), zeros (length t.heads))

  -- The table after the call is the one before, or sound.
  pub fresh_kept : ((fresh g t).table ≡ t) ⊎ Sound g (fresh g t).table
  unfolding fresh
  fresh_kept =
      cond_both (λ (r : Numbered). (r.table ≡ t) ⊎ Sound g r.table) (as_stated g t) (numbered 0 (fresh_tables t)) (numbered 1 t)
      (λ e. inr (fresh_sound g t)) (λ e. inl refl)

-- Calls may be made of a fresh table.
pub fresh_lent : {g : Shape} → Served g → (t : Tables) → as_stated g t ≡ true → Lent g (fresh g t).table
unfolding fresh
fresh_lent {g} w t stated = rw stated (lent_here w (fresh_tables t) (rw (fresh_stated g t) stated) (fresh_sound g t))

-- `sound_magazines::magazine_sound` meets its contract: the entries passed are right, and no two of them are equal. Assumes nothing.
use mathlib.Core.Path.{◌≡◌}
use mathlib.Core.Bool.{Bool, true}
use Prim.Native.Nat.{ℕ, ◌<◌}
use Rattle.tables.specs.declared.ClassHeap.{ClassHeap}
use Rattle.tables.specs.Cells.{Tables, entry_at}
use Rattle.sound.specs.Sound.{EntrySound}
use Rattle.sound_magazines.proofs.magazine_sound.Given as goal

-- the check has come to entry j, and beside it to entry i
pub record Passed (t : Tables) (k : ClassHeap) (j : ℕ) (ok : Bool) : Type 0 where
  pub fine : ok ≡ true
  pub each : (i : ℕ) → i < j → EntrySound t k (entry_at t k i)
  pub apart : (b : ℕ) → b < j → (i : ℕ) → i < b → entry_at t k i ≡ entry_at t k b → ⊥

pub record Beside (t : Tables) (k : ClassHeap) (e i : ℕ) (ok : Bool) : Type 0 where
  pub fine : ok ≡ true
  pub others : (m : ℕ) → m < i → entry_at t k m ≡ e → ⊥

abbrev pub invariant-loop-i : goal.invariant-loop-i
invariant-loop-i l = Beside l.view l.k l.e l.i l.ok

abbrev pub invariant-entries : goal.invariant-entries
invariant-entries l = Passed l.view l.k l.j l.ok

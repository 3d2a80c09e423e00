-- What the calls on a sound table ask of what is lent. Assumes nothing.
use Rattle.std.specs.Prelude.{◌≡◌, true, cond, ℕ, ◌*◌, ◌^◌, ◌<◌, ◌≤◌}
use Rattle.size_classes.specs.SlotSizes.{Admissible}
use Rattle.size_classes.specs.Slots.{most_slots}
use Rattle.tables.specs.Shape.{Shape}
use Rattle.tables.specs.Cells.{Tables, as_stated}
use Rattle.tables.specs.declared.ClassHeap.{ClassHeap}
use Rattle.span.specs.State.{state_in, out_state}
use Rattle.sound.specs.Sound.{home_of, Sound}
use Rattle.placing.specs.Working.{Working}
use Rattle.calls.specs.Outcome.{Outcome, outcome, refused}
use Rattle.calls.specs.Primary.{dealloc_small}

-- a sound table, of the lengths stated
pub record Lent (g : Shape) (t : Tables) : Type 0 where
  pub sizes : Admissible g.sizes
  pub stated : as_stated g t ≡ true
  pub sound : Sound g t
  -- each block has an entry that is a number of 64 bits
  pub few : g.spans * most_slots ≤ 2 ^ 64

-- slot q of span s is a block, and k is its class and owner
pub record Block (limit : ℕ) (k : ClassHeap) (t : Tables) (s q : ℕ) : Type 0 where
  pub working : Working limit k t
  pub home : k ≡ home_of working.shape t s
  pub used : s < t.used
  pub inside : q < k.slots

-- a free of a block: done where it is out, else 8
abbrev pub free_block : Tables → ClassHeap → ℕ → ℕ → ℕ → ℕ → Outcome
free_block t k heap s offset q = cond (out_state (state_in t k s q)) (outcome 0 s offset 0 (dealloc_small t k heap s q)) (refused 8 t)

-- What a step does to the states of blocks: those that it names come to one state, and every other block of every used span keeps its own.
-- Assumes nothing.
use Rattle.std.specs.Prelude.{◌≡◌, List, ℕ, ◌<◌, length, get_or}
use Rattle.size_classes.specs.Slots.{most_slots}
use Rattle.tables.specs.Shape.{Shape}
use Rattle.tables.specs.Cells.{Tables, entry_of}
use Rattle.span.specs.declared.BlockState.{BlockState}
use Rattle.span.specs.State.{state_of}

-- from t to u every block of every used span keeps its state
pub record Keeps (g : Shape) (t u : Tables) : Type 0 where
  pub states : (x y : ℕ) → x < t.used → y < most_slots → state_of g u x y ≡ state_of g t x y

-- the named blocks of used spans come to this state, and every other keeps its own
pub record Becomes (g : Shape) (t u : Tables) (Named : ℕ → ℕ → Type 0) (state : BlockState) : Type 0 where
  pub named : (x y : ℕ) → x < t.used → y < most_slots → Named x y → state_of g u x y ≡ state
  pub others : (x y : ℕ) → x < t.used → y < most_slots → (Named x y → ⊥) → state_of g u x y ≡ state_of g t x y

-- ---- blocks that a step names

-- slot q of span s
pub record Block (s q x y : ℕ) : Type 0 where
  pub span : x ≡ s
  pub slot : y ≡ q

-- the slots of span s of which this holds
pub record SlotsOf (s : ℕ) (Holds : ℕ → Type 0) (x y : ℕ) : Type 0 where
  pub span : x ≡ s
  pub slot : Holds y

-- the blocks of these entries
pub record EntriesOf (es : List ℕ) (x y : ℕ) : Type 0 where
  pub place : ℕ
  pub below : place < length es
  pub is : get_or es place 0 ≡ entry_of x y

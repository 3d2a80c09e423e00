-- Steps that keep the states of blocks, or bring named blocks to one state, one after another. Assumes nothing.
use mathlib.Core.Path.{◌≡◌, refl, ap₂, ◌∙◌}
use Prim.Native.Nat.{ℕ, ◌<◌, ◌≤◌}
use native.Mathlib.Nat.{lt_of_lt_of_le}
use Rattle.size_classes.specs.Slots.{most_slots}
use Rattle.tables.specs.Shape.{Shape}
use Rattle.tables.specs.Cells.{Tables}
use Rattle.span.specs.declared.BlockState.{BlockState}
use Rattle.span.specs.State.{state_of}
use Rattle.sound.specs.States.{Keeps, Becomes, Block}

-- A block that comes to a state is in it.
pub becomes_this :
    {g : Shape} {t u : Tables} {s q : ℕ} {b : BlockState} → Becomes g t u (Block s q) b → s < t.used → q < most_slots → state_of g u s q ≡ b
becomes_this {s = s} {q = q} z l m = z.named s q l m (record { span = refl; slot = refl })

-- A block that was in another state than the one that changes keeps it.
pub differs_keeps :
    {g : Shape} {t u : Tables} {s q : ℕ} {b : BlockState} →
    Becomes g t u (Block s q) b →
    (x y : ℕ) →
    x < t.used →
    y < most_slots →
    (state_of g t x y ≡ state_of g t s q → ⊥) →
    state_of g u x y ≡ state_of g t x y
differs_keeps {g = g} {t = t} z x y l m n = z.others x y l m (λ d. n (ap₂ (state_of g t) d.span d.slot))

-- Nothing changed.
pub keeps_same : (g : Shape) (t : Tables) → Keeps g t t
keeps_same g t = record { states = λ x y l m. refl }

-- One step after another, where no used span is lost.
module _ {g : Shape} {t u v : Tables} (n : t.used ≤ u.used) where
  pub keeps_then : Keeps g t u → Keeps g u v → Keeps g t v
  keeps_then a b = record { states = λ x y l m. b.states x y (lt_of_lt_of_le l n) m ∙ a.states x y l m }

  module _ {Named : ℕ → ℕ → Type 0} {b : BlockState} where
    -- A step that keeps states comes before one that changes blocks, or after it.
    pub keeps_becomes : Keeps g t u → Becomes g u v Named b → Becomes g t v Named b
    keeps_becomes a z =
        record {
          named = λ x y l m d. z.named x y (lt_of_lt_of_le l n) m d;
          others = λ x y l m d. z.others x y (lt_of_lt_of_le l n) m d ∙ a.states x y l m;
        }

    pub becomes_keeps : Becomes g t u Named b → Keeps g u v → Becomes g t v Named b
    becomes_keeps z a =
        record {
          named = λ x y l m d. a.states x y (lt_of_lt_of_le l n) m ∙ z.named x y l m d;
          others = λ x y l m d. a.states x y (lt_of_lt_of_le l n) m ∙ z.others x y l m d;
        }

    -- Both change the same blocks: the later state stands.
    pub becomes_again : {a : BlockState} → Becomes g t u Named a → Becomes g u v Named b → Becomes g t v Named b
    becomes_again a z =
        record {
          named = λ x y l m d. z.named x y (lt_of_lt_of_le l n) m d;
          others = λ x y l m d. z.others x y (lt_of_lt_of_le l n) m d ∙ a.others x y l m d;
        }

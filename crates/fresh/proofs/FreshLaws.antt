-- What the tests and stores of the fresh-table maker come to. Assumes nothing.
use mathlib.Core.Path.{◌≡◌, sym, ◌∙◌}
use mathlib.Core.Bool.{Bool, true, false}
use mathlib.Core.List.{List}
use Prim.Native.Nat.{ℕ}
use lib.ListN.{length, replicate}
use Rattle.tables.specs.Shape.{Shape}
use Rattle.tables.specs.Cells.{Tables, tables, as_stated, fresh_tables}
use Rattle.tables.specs.Fresh.{numbered, fresh}

module _ (g : Shape) (t : Tables) where
  -- A table that is not as stated is left as it was.
  pub fresh_refused : (r : Bool) → r ≡ as_stated g t → r ≡ false → numbered 1 t ≡ fresh g t
  unfolding fresh
  fresh_refused r e f = rw (sym e ∙ f)

-- One that is as stated is 0 in every cell.
pub fresh_made :
    (g : Shape) (b b₁ p p₁ e e₁ h h₁ : List ℕ) (u : ℕ) (r : Bool) →
    r ≡ as_stated g (tables b p e h u) →
    r ≡ true →
    b₁ ≡ replicate (length b) 0 →
    p₁ ≡ replicate (length p) 0 →
    e₁ ≡ replicate (length e) 0 →
    h₁ ≡ replicate (length h) 0 →
    numbered 0 (tables b₁ p₁ e₁ h₁ 0) ≡ fresh g (tables b p e h u)
unfolding fresh fresh_tables
fresh_made g b b₁ p p₁ e e₁ h h₁ u r s f eb ep ee eh = rw (sym s ∙ f, eb, ep, ee, eh)

-- `span::store` meets its contract. Assumes nothing.
use mathlib.Core.Path.{ap₂}
use mathlib.Core.List.{List}
use Prim.Native.Nat.{ℕ}
use native.Mathlib.Omega.{arith}
use Rattle.tables.specs.Cells.{tables}
use Rattle.span.specs.Span.{stored}
use Rattle.span.proofs.CellsThere.{field_there}
use Rattle.span.proofs.store.Goals as goal

pub put_field-requires : goal.put_field-requires
put_field-requires c = field_there _ _ c.requires.fields 2 (omega arith)

pub returns : goal.returns
unfolding stored
returns c = λ e h u. ap₂ (λ (x y : List ℕ). tables x y e h u) c.put_local.ensures c.put_field.ensures

-- `span::new_span` meets its contract. Assumes nothing.
use borrow.Author.Rules.{rules}
use mathlib.Core.Path.{ap₂}
use mathlib.Core.List.{List}
use Prim.Native.Nat.{ℕ, ◌+◌}
use native.Mathlib.Omega.{arith}
use Rattle.tables.specs.Cells.{tables}
use Rattle.tables.proofs.CellLaws.{span_least}
use Rattle.span.specs.Span.{new_span}
use Rattle.span.proofs.CellsThere.{field_there}
use Rattle.span.proofs.new_span.Goals as goal

pub overflow_add-used : goal.overflow_add-used
overflow_add-used c = search (rules, field_there _ _ c.requires.span_cells.fields 0 (omega arith), span_least c.args.used.now 0)

pub returns : goal.returns
unfolding new_span
returns c = λ e h. ap₂ (λ (x y : List ℕ). tables x y e h (c.args.used.now + 1)) c.blank.ensures c.new_record.ensures

-- The fresh-table maker, and what calls that answer a number alone come to. Assumes nothing.
use Rattle.std.specs.Prelude.{cond, ℕ}
use Rattle.tables.specs.Shape.{Shape}
use Rattle.tables.specs.Cells.{Tables, as_stated, fresh_tables}

-- a call that answers a number alone
pub record Numbered : Type 0 where
  pub number : ℕ
  pub table : Tables

abbrev pub numbered : ℕ → Tables → Numbered
numbered number t = record { number = number; table = t }

-- "The fresh-table maker refuses with 1 only"
unfoldable pub fresh : Shape → Tables → Numbered
fresh g t = cond (as_stated g t) (numbered 0 (fresh_tables t)) (numbered 1 t)

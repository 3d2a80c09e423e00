-- The lent tables as one value, and that they are the same ones. Assumes nothing.
use Rattle.std.specs.Prelude.{◌≡◌}
use Rattle.tables.specs.declared.LentTables.{LentTables}
use Rattle.tables.specs.Cells.{Tables, tables}

-- every cell lent, and how many spans are used
abbrev pub cells : LentTables → Tables
cells t = tables t.bits.now t.spans.now t.entries.now t.heads.now t.used.now

-- a call hands back the tables that it was lent, and no others
pub record SameLent (a b : LentTables) : Type 0 where
  pub bits : b.bits.ghost_name ≡ a.bits.ghost_name
  pub spans : b.spans.ghost_name ≡ a.spans.ghost_name
  pub entries : b.entries.ghost_name ≡ a.entries.ghost_name
  pub heads : b.heads.ghost_name ≡ a.heads.ghost_name
  pub used : b.used.ghost_name ≡ a.used.ghost_name

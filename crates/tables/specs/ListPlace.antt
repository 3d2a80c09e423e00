-- Where each list of a class stands among the heads of its row. Assumes nothing.
use Rattle.std.specs.Prelude.{ℕ}
use Rattle.tables.specs.declared.SpanList.{SpanList}
use Rattle.tables.specs.declared.SpanList.TheVariants.{Partial, Full, Empty, Reserve}
use Rattle.tables.specs.Cells.{partial_list, full_list, empty_list, reserve}

abbrev pub place : SpanList → ℕ
place Partial = partial_list
place Full = full_list
place Empty = empty_list
place Reserve = reserve

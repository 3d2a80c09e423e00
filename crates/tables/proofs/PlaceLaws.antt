-- Each list stands among the first four heads of its row. Assumes nothing.
use Prim.Native.Nat.{◌≤◌}
use native.Mathlib.Omega.{arith}
use Rattle.tables.specs.declared.SpanList.{SpanList}
use Rattle.tables.specs.declared.SpanList.TheVariants.{Partial, Full, Empty, Reserve}
use Rattle.tables.specs.Cells.{reserve}
use Rattle.tables.specs.ListPlace.{place}

pub place_le : (l : SpanList) → place l ≤ reserve
place_le Partial = omega arith
place_le Full = omega arith
place_le Empty = omega arith
place_le Reserve = omega arith

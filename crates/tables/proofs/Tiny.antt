-- The smallest shape, for worked examples: one class of 131072 bytes, so 8 slots a span, one heap. Assumes nothing.
use mathlib.Core.List.{[], ◌∷◌}
use Prim.Native.Nat.{ℕ, ◌*◌}
use lib.ListN.{replicate}
use Rattle.tables.specs.declared.ClassHeap.{ClassHeap}
use Rattle.tables.specs.Shape.{Shape}
use Rattle.tables.specs.Cells.{Tables, tables}

abbrev pub tiny : ℕ → Shape
tiny spans = record { sizes = 131072 ∷ []; most = 1024; heaps = 1; spans = spans }

-- its one class
abbrev pub one : ClassHeap
one = record { class = 0; owner = 0; slot = 131072; slots = 8; capacity = 8; low = 2; row = 0; base = 0 }

-- its fresh table
abbrev pub blank : ℕ → Tables
blank spans = tables (replicate (spans * 130) 0) (replicate (spans * 5) 0) (replicate 8 0) (replicate 5 0) 0

-- Where a free goes. Assumes nothing.
use Rattle.std.specs.Prelude.{cond, ℕ, eqb}
use Rattle.tables.specs.declared.ClassHeap.{ClassHeap}
use Rattle.tables.specs.Cells.{Tables}
use Rattle.span.specs.Span.{remote_free}
use Rattle.calls.specs.Heap.{dealloc_local}

-- a free, by a heap, of slot q of span s, which is out; k is the class and the owner of the span
unfoldable pub dealloc_small : Tables → ClassHeap → ℕ → ℕ → ℕ → Tables
dealloc_small t k heap s q = cond (eqb k.owner heap) (dealloc_local t k s q) (remote_free t s q)

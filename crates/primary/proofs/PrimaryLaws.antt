-- A free by its two ways. Assumes nothing.
use mathlib.Core.Path.{◌≡◌}
use Prim.Native.Nat.{ℕ}
use borrow.Author.Tests.{eq-eqb, ne_eqb}
use Rattle.tables.specs.declared.ClassHeap.{ClassHeap}
use Rattle.tables.specs.Cells.{Tables}
use Rattle.span.specs.Span.{remote_free}
use Rattle.calls.specs.Heap.{dealloc_local}
use Rattle.calls.specs.Primary.{dealloc_small}

module _ (t t' : Tables) (k : ClassHeap) (heap s q : ℕ) where
  pub by_owner : k.owner ≡ heap → t' ≡ dealloc_local t k s q → t' ≡ dealloc_small t k heap s q
  unfolding dealloc_small
  by_owner h e = rw (eq-eqb k.owner heap h) e

  pub by_another : (k.owner ≡ heap → ⊥) → t' ≡ remote_free t s q → t' ≡ dealloc_small t k heap s q
  unfolding dealloc_small
  by_another h e = rw (ne_eqb k.owner heap h) e

-- The tests of heaps, spans and lengths say what they are for, both ways; and in a table as stated each class of each heap has its cells. Assumes nothing.
use mathlib.Core.Path.{◌≡◌}
use mathlib.Core.Bool.{true}
use Prim.Native.Nat.{ℕ, ◌+◌, ◌*◌, ◌<◌, ◌≤◌}
use lib.Dec.{leb, eqb}
use lib.ListN.{length}
use borrow.Author.Tests.{leb-true, eqb-true, le-leb, eq-eqb}
use Rattle.laws.proofs.SomeLaws.{and_both, and_four}
use Rattle.size_classes.specs.SlotSizes.{slot_size}
use Rattle.magazine_layout.specs.Layout.{capacity_for, entries_per_heap}
use Rattle.tables.specs.Shape.{Shape, most_heaps, classes, bitmap_cells, record_cells, head_cells, row_of, base_of}
use Rattle.tables.specs.Cells.{Tables, right_shape, right_lengths, as_stated, head_cell, counter}
use Rattle.tables.specs.Stated.{RightShape, RightLengths, Stated}
use Rattle.tables.proofs.CellLaws.{head_in, list_in, row_in}
use Rattle.tables.proofs.MagazineCells.{base_within}

module _ (g : Shape) where
  pub shape_passed : right_shape g ≡ true → RightShape g
  unfolding right_shape
  shape_passed e =
      let a = and_four (leb 1 g.heaps) (leb g.heaps most_heaps) (leb 1 g.spans) (leb g.spans g.most) e in
      record {
        some_heap = leb-true 1 g.heaps a.0;
        few_heaps = leb-true g.heaps most_heaps a.1;
        some_span = leb-true 1 g.spans a.2;
        few_spans = leb-true g.spans g.most a.3;
      }

  pub shape_passes : RightShape g → right_shape g ≡ true
  unfolding right_shape
  shape_passes s =
      rw (
        le-leb 1 g.heaps s.some_heap,
        le-leb g.heaps most_heaps s.few_heaps,
        le-leb 1 g.spans s.some_span,
        le-leb g.spans g.most s.few_spans,
      )

module _ (g : Shape) (t : Tables) where
  pub lengths_passed : right_lengths g t ≡ true → RightLengths g t
  unfolding right_lengths
  lengths_passed e =
      let a =
      and_four
      (eqb (length t.bits) (g.spans * bitmap_cells))
      (eqb (length t.spans) (g.spans * record_cells))
      (eqb (length t.entries) (g.heaps * entries_per_heap g.sizes))
      (eqb (length t.heads) (g.heaps * classes g * head_cells))
      e
      in
      record {
        bits = eqb-true (length t.bits) (g.spans * bitmap_cells) a.0;
        spans = eqb-true (length t.spans) (g.spans * record_cells) a.1;
        entries = eqb-true (length t.entries) (g.heaps * entries_per_heap g.sizes) a.2;
        heads = eqb-true (length t.heads) (g.heaps * classes g * head_cells) a.3;
      }

  pub lengths_pass : RightLengths g t → right_lengths g t ≡ true
  unfolding right_lengths
  lengths_pass s =
      rw (
        eq-eqb (length t.bits) (g.spans * bitmap_cells) s.bits,
        eq-eqb (length t.spans) (g.spans * record_cells) s.spans,
        eq-eqb (length t.entries) (g.heaps * entries_per_heap g.sizes) s.entries,
        eq-eqb (length t.heads) (g.heaps * classes g * head_cells) s.heads,
      )

  pub stated_passed : as_stated g t ≡ true → Stated g t
  unfolding as_stated
  stated_passed e =
      let a = and_both (right_shape g) (right_lengths g t) e in
      record { shape = shape_passed g a.0; lengths = lengths_passed a.1 }

  pub stated_passes : Stated g t → as_stated g t ≡ true
  unfolding as_stated
  stated_passes s = rw (shape_passes g s.shape, lengths_pass s.lengths)

  -- Each head of a class of a heap is among the heads, and its magazine among the entries.
  pub head_stated :
      {h c f : ℕ} → Stated g t → h < g.heaps → c < classes g → f ≤ counter → head_cell (row_of g h c) f < length t.heads
  head_stated s hh hc hf = rw s.lengths.heads (head_in (row_in g hh hc) (list_in hf))

  pub base_stated :
      {h c : ℕ} → Stated g t → h < g.heaps → c < classes g → base_of g h c + capacity_for (slot_size g.sizes c) ≤ length t.entries
  base_stated s hh hc = rw s.lengths.entries (base_within g hh hc)

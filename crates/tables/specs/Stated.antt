-- A table as stated: heaps and spans within their limits, and each lent table of its length. Assumes nothing.
use Rattle.std.specs.Prelude.{◌≡◌, ◌*◌, ◌≤◌, length}
use Rattle.magazine_layout.specs.Layout.{entries_per_heap}
use Rattle.tables.specs.Shape.{Shape, most_heaps, classes, bitmap_cells, record_cells, head_cells}
use Rattle.tables.specs.Cells.{Tables}

pub record RightShape (g : Shape) : Type 0 where
  pub some_heap : 1 ≤ g.heaps
  pub few_heaps : g.heaps ≤ most_heaps
  pub some_span : 1 ≤ g.spans
  pub few_spans : g.spans ≤ g.most

pub record RightLengths (g : Shape) (t : Tables) : Type 0 where
  pub bits : length t.bits ≡ g.spans * bitmap_cells
  pub spans : length t.spans ≡ g.spans * record_cells
  pub entries : length t.entries ≡ g.heaps * entries_per_heap g.sizes
  pub heads : length t.heads ≡ g.heaps * classes g * head_cells

pub record Stated (g : Shape) (t : Tables) : Type 0 where
  pub shape : RightShape g
  pub lengths : RightLengths g t

-- All lists of a table joined, class by class: what the check counts. Assumes nothing.
use Rattle.std.specs.Prelude.{◌≡◌, List, [], ◌++◌, ℕ, zero, suc, ◌*◌, ◌/◌, ◌%◌, ◌<◌, ◌≤◌, length}
use Rattle.magazine_layout.specs.Layout.{entries_per_heap}
use Rattle.tables.specs.declared.ClassHeap.{ClassHeap}
use Rattle.tables.specs.Shape.{Shape, most_heaps, classes, head_cells, class_heap}
use Rattle.tables.specs.Cells.{Tables, partial_list, full_list, empty_list, reserve}
use Rattle.linked_list.specs.Lists.{list_of}
use Rattle.sound.specs.Sound.{MagazineSound}
use Rattle.sound_spans.specs.WordSound.{UsedCells}
use Rattle.sound_lists.specs.Walked.{ClassLists}

-- the spans of a class of a heap, list by list
abbrev pub class_list : Tables → ClassHeap → List ℕ
class_list t k = list_of t k partial_list ++ (list_of t k full_list ++ (list_of t k empty_list ++ list_of t k reserve))

-- the class of a heap whose row is r
abbrev pub class_at_row : Shape → ℕ → ClassHeap
class_at_row g r = class_heap g (r / classes g) (r % classes g)

-- the spans of the first n rows
unfoldable pub joined : Shape → Tables → ℕ → List ℕ
joined g t zero = []
joined g t (suc n) = class_list t (class_at_row g n) ++ joined g t n

-- the lists and the magazine of a row are right
pub record RowSound (g : Shape) (t : Tables) (r : ℕ) : Type 0 where
  pub lists : ClassLists t (class_at_row g r)
  pub magazine : MagazineSound t (class_at_row g r)

-- those of every row are, and they hold as many spans as are used
pub record RowsSound (g : Shape) (t : Tables) : Type 0 where
  pub each : (r : ℕ) → r < g.heaps * classes g → RowSound g t r
  pub counted : length (joined g t (g.heaps * classes g)) ≡ t.used

-- the cells of all rows and of all used spans are there
pub record RowCells (g : Shape) (t : Tables) : Type 0 where
  pub cells : UsedCells t.bits t.spans t.used
  pub few : g.heaps ≤ most_heaps
  pub entries_long : length t.entries ≡ g.heaps * entries_per_heap g.sizes
  pub heads_long : length t.heads ≡ g.heaps * classes g * head_cells

-- the first r rows are right, and `total` spans were met in them
pub record Passed (g : Shape) (t : Tables) (r total : ℕ) : Type 0 where
  pub counted : total ≡ length (joined g t r)
  pub each : (i : ℕ) → i < r → RowSound g t i

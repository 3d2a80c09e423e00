-- A sound table is filled: every link of a used span leads to a used span, as its list does. Assumes nothing.
use mathlib.Core.Path.{◌≡◌}
use mathlib.Core.Bool.{true}
use mathlib.Core.Logic.{inl}
use Prim.Native.Nat.{ℕ, ◌<◌}
use native.Mathlib.Nat.{mul-le-mul_right}
use borrow.Author.Tests.{lt-ltb}
use Rattle.size_classes.specs.SlotSizes.{Admissible}
use Rattle.tables.specs.Shape.{Shape, classes, record_cells, row_of, class_heap}
use Rattle.tables.specs.Cells.{Tables, as_stated}
use Rattle.tables.specs.Stated.{Stated}
use Rattle.tables.proofs.StatedLaws.{stated_passed, head_stated}
use Rattle.linked_list.specs.Reach.{Links}
use Rattle.linked_list.proofs.ListedKept.{listed_links, row_name}
use Rattle.sound.specs.Sound.{Sound}
use Rattle.sound.specs.Filled.{Filled}
use Rattle.sound.proofs.SoundLists.{sound_lists, sound_listed}

module _ (g : Shape) (t : Tables) (sizes : Admissible g.sizes) (stated : as_stated g t ≡ true) (o : Sound g t) where
  -- The links of every class of every heap are in range.
  pub sound_links : {h c : ℕ} → h < g.heaps → c < classes g → Links t.used t.spans t.heads (row_of g h c)
  sound_links {h} {c} hh hc =
      let s : Stated g t = stated_passed g t stated in
      listed_links t (row_of g h c) (sound_listed g t o) (row_name g hh hc) (rw s.lengths.spans (mul-le-mul_right record_cells o.within))
      (λ f hf. head_stated g t s hh hc hf)
      (λ x hx. inl (rw (lt-ltb x t.used hx) ((sound_lists g t o).all x hx).0))

  pub sound_filled : Filled g t
  unfolding class_heap
  sound_filled =
      record {
        sizes = sizes;
        stated = stated;
        within = o.within;
        spans = λ s h. (o.spans s h).cells;
        previous = λ s h. (sound_links (o.spans s h).cells.owner (o.spans s h).cells.class).previous s h;
        next = λ s h. (sound_links (o.spans s h).cells.owner (o.spans s h).cells.class).next s h;
        fronts = λ h hh c hc. (sound_links hh hc).fronts;
        magazines = λ h hh c hc. (o.class_heaps h hh c hc).magazine;
      }

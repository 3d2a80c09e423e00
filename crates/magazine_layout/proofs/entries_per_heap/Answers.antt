-- `magazine_layout::entries_per_heap` meets its contract. Assumes nothing.
use mathlib.Core.Path.{ap, ◌∙◌}
use Rattle.magazine_layout.specs.Layout.{magazine_offset, entries_per_heap}
use Rattle.magazine_layout.proofs.entries_per_heap.Goals as goal

pub returns-clause-entries : goal.returns-clause-entries
unfolding entries_per_heap
returns-clause-entries c = c.magazine_offset.ensures ∙ ap (magazine_offset _) c.classes.ensures.count

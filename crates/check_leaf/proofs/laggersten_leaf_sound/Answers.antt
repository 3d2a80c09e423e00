-- `check_leaf::laggersten_leaf_sound` meets its contract: the number by 01's list and limit. Assumes nothing.
use mathlib.Core.Path.{ap, ◌∙◌}
use mathlib.Core.List.{List}
use Prim.Native.Nat.{ℕ}
use Rattle.size_classes.proofs.SlotSizeLaws.{slot_sizes_admissible}
use Rattle.tables.specs.Shape.{shape, most_spans}
use Rattle.tables.specs.Cells.{tables}
use Rattle.guard.specs.Guard.{sound_number}
use Rattle.check_leaf.proofs.laggersten_leaf_sound.Goals as goal

pub new-sizes-requires : goal.new-sizes-requires
new-sizes-requires c = rw c.slot_sizes-list.ensures slot_sizes_admissible

pub returns : goal.returns
unfolding most_spans
returns c =
    let a = c.args in
    c.number_of.ensures ∙ c.check.ensures
    ∙ ap (λ (l : List ℕ). sound_number (shape l most_spans a.heaps a.spans) (tables a.bits.now a.records.now a.entries.now a.heads.now a.used))
    (c.new-sizes.ensures ∙ c.slot_sizes-list.ensures)

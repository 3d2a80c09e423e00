-- `magazine_layout::magazine_offset` meets its contract. The loop's invariant: the sum is the offset of the class.
-- Assumes nothing.
use mathlib.Core.List.{List}
use mathlib.Core.Path.{◌≡◌, sym, ◌∙◌, ap}
use Prim.Native.Nat.{ℕ, ◌+◌, ◌≤◌, ◌<◌}
use native.Mathlib.Omega.{arith}
use lib.ListN.{length}
use Rattle.size_classes.specs.SlotSizes.{slot_size, Admissible, most_classes}
use Rattle.magazine_layout.specs.Layout.{capacity_for, most_capacity, magazine_offset}
use Rattle.magazine_layout.proofs.LayoutLaws.{capacity_most, offset_first, offset_next, offset_small}
use Rattle.magazine_layout.proofs.magazine_offset.Goals as goal
use Rattle.magazine_layout.proofs.magazine_offset.Invariants.{Summed}

-- One class more.
more :
    (sizes : List ℕ) (c offset j r : ℕ) →
    j < c →
    r ≡ capacity_for (slot_size sizes j) →
    Summed sizes c offset j →
    Summed sizes c (offset + r) (j + 1)
more sizes c offset j r h e s = record { within = omega arith; is = omega (arith, e, s.is, offset_next sizes j) }

-- The sum of all classes of an admissible list is small.
small :
    (sizes : List ℕ) (c offset j r : ℕ) →
    Admissible sizes →
    c ≤ length sizes →
    r ≡ capacity_for (slot_size sizes j) →
    Summed sizes c offset j →
    offset + r ≤ 4096
unfolding most_capacity most_classes
small sizes c offset j r ok h e s =
    omega (arith, e, s.is, s.within, capacity_most (slot_size sizes j), offset_small sizes ok j (omega (arith, s.within)))

pub loop-class-init : goal.loop-class-init
loop-class-init c = record { within = omega arith; is = sym (offset_first _) }

pub capacity_for-offset-requires : goal.capacity_for-offset-requires
capacity_for-offset-requires c = let l = c.slot.ensures in rw l.size (l.admissible.positive _ (omega arith))

pub overflow_add-offset : goal.overflow_add-offset
overflow_add-offset c =
    let l = c.slot.ensures in
    omega (arith, small _ _ _ _ _ l.admissible c.requires (rw l.size at c.capacity_for-offset.ensures) c.loop-class.invariant)

pub loop-class-preserved : goal.loop-class-preserved
loop-class-preserved c = more _ _ _ _ _ (omega arith) (rw c.slot.ensures.size at c.capacity_for-offset.ensures) c.loop-class.invariant

pub returns : goal.returns
returns c =
    let s = c.loop-class.invariant in
    let e : c.loop-class.class ≡ c.args.c = omega arith in
    s.is ∙ ap (magazine_offset _) e

-- The base of a row's magazine: after each row the next one begins where its capacity ends. Assumes nothing.
use mathlib.Core.Path.{◌≡◌, sym, ap, ap₂, ◌∙◌}
use mathlib.Core.List.{List}
use Prim.Native.Nat.{ℕ, ◌+◌, ◌*◌, ◌/◌, ◌%◌, ◌<◌}
use native.Mathlib.Nat.{mod-lt, div-add-mod'}
use native.Mathlib.Decide.{dec_lt}
use native.Mathlib.Omega.{arith}
use lib.ListN.{length}
use lib.Arith.{digits_div, digits_mod}
use Rattle.size_classes.specs.SlotSizes.{Admissible, slot_size}
use Rattle.magazine_layout.specs.Layout.{capacity_for, magazine_offset, entries_per_heap}
use Rattle.magazine_layout.proofs.LayoutLaws.{offset_first, offset_next}
use Rattle.tables.specs.declared.ClassHeap.{ClassHeap}
use Rattle.tables.specs.Shape.{Shape, shape, classes, row_of, base_of, class_heap}
use Rattle.sound_check.specs.Joined.{class_at_row}
use Rattle.sound_check.proofs.RowTurns.{row_heap}

-- the base of row r
abbrev pub base_at : Shape → ℕ → ℕ
base_at g r = base_of g (r / classes g) (r % classes g)

-- A row by its heap and class.
pub row_at : (g : Shape) (r : ℕ) → r ≡ row_of g (r / classes g) (r % classes g)
unfolding row_of
row_at g r = sym (div-add-mod' r (classes g))

module _ (g : Shape) where
  base_at_lem : (r h c : ℕ) → r ≡ h * classes g + c → c < classes g → base_at g r ≡ base_of g h c
  base_at_lem r h c e hc =
      ap₂ (λ (x y : ℕ). base_of g x y) (ap (λ (z : ℕ). z / classes g) e ∙ digits_div h hc) (ap (λ (z : ℕ). z % classes g) e ∙ digits_mod h hc)

  -- The next class of a heap, and the first class of the next heap.
  next_class : (h c : ℕ) → base_of g h c + capacity_for (slot_size g.sizes c) ≡ base_of g h (c + 1)
  unfolding base_of
  next_class h c = omega (arith, offset_next g.sizes c)

  next_heap : (h c : ℕ) → c + 1 ≡ classes g → base_of g h (c + 1) ≡ base_of g (h + 1) 0
  unfolding base_of entries_per_heap
  next_heap h c e = omega (arith, offset_first g.sizes, ap (magazine_offset g.sizes) e)

  first_base : base_of g 0 0 ≡ 0
  unfolding base_of
  first_base = omega (arith, offset_first g.sizes)

  module _ (some : 0 < classes g) where
    -- The first row begins at 0.
    pub base_first : 0 ≡ base_at g 0
    base_first = sym (base_at_lem 0 0 0 (omega arith) some ∙ first_base)

    -- The next row begins where a row ends.
    pub base_next : (r : ℕ) → base_at g r + capacity_for (slot_size g.sizes (r % classes g)) ≡ base_at g (r + 1)
    base_next r =
        let h = r / classes g in
        let c = r % classes g in
        elim (dec_lt (c + 1) (classes g)) [
          | yes y ↦ next_class h c ∙ sym (base_at_lem (r + 1) h (c + 1) (omega (arith, div-add-mod' r (classes g))) y)
          | no y ↦
              let e : c + 1 ≡ classes g = omega (arith, mod-lt r some) in
              next_class h c ∙ next_heap h c e ∙ sym (base_at_lem (r + 1) (h + 1) 0 (omega (arith, div-add-mod' r (classes g))) some)
        ]

-- The capacity of a row's class.
pub capacity_at : (g : Shape) (h c : ℕ) → (class_heap g h c).capacity ≡ capacity_for (slot_size g.sizes c)
unfolding class_heap
capacity_at g h c = omega arith

-- what a loop over all rows knows of the class of a heap that it is at
pub record Row (g : Shape) (r : ℕ) (k : ClassHeap) : Type 0 where
  pub sizes : Admissible g.sizes
  pub here : k ≡ class_at_row g r
  pub heap : r / classes g < g.heaps
  pub class : r % classes g < classes g
  pub below : r < g.heaps * classes g

pub row_here :
    {sizes : List ℕ} {most heaps spans n r base : ℕ} {g : Shape} {k : ClassHeap} → shape sizes most heaps spans ≡ g → n ≡ length sizes →
    Admissible sizes → base ≡ base_at g r → r < heaps * n →
    ((more others m : ℕ) → r ≡ row_of (shape sizes more others m) (r / n) (r % n) → base ≡ base_of (shape sizes more others m) (r / n) (r % n) →
    k ≡ class_heap (shape sizes more others m) (r / n) (r % n)) →
    Row g r k
row_here {sizes} {most} {heaps} {spans} {r = r} e q a b l f =
    let below = rw q at l in
    rw (← e)
    (record {
      sizes = a;
      here = (rw q at f) most heaps spans (row_at (shape sizes most heaps spans) r) (rw (← e) at b);
      heap = row_heap a.some below;
      class = mod-lt r a.some;
      below = below;
    })

-- The capacity there.
pub row_capacity : {g : Shape} {r : ℕ} {k : ClassHeap} → Row g r k → k.capacity ≡ capacity_for (slot_size g.sizes (r % classes g))
row_capacity {g} {r} w = ap (λ (j : ClassHeap). j.capacity) w.here ∙ capacity_at g (r / classes g) (r % classes g)

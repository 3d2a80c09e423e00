-- Where the magazines of all heaps stand among the entries: each is within them, and no two meet. Assumes nothing.
use mathlib.Core.Path.{◌≡◌}
use mathlib.Core.List.{List}
use Prim.Native.Nat.{ℕ, ◌+◌, ◌*◌, ◌<◌, ◌≤◌}
use native.Mathlib.Nat.{mul-le-mul, mul-le-mul_right, add_assoc}
use native.Mathlib.Omega.{arith}
use lib.Arith.{digits_lt}
use lib.ListN.{length}
use Rattle.size_classes.specs.SlotSizes.{slot_size, most_classes, Admissible}
use Rattle.magazine_layout.specs.Layout.{most_capacity, capacity_for, magazine_offset, entries_per_heap}
use Rattle.magazine_layout.proofs.LayoutLaws.{offset_same, offset_within, offset_in, entries_small}
use Rattle.tables.specs.Shape.{Shape, classes, most_heaps, base_of}
use Rattle.tables.proofs.CellLaws.{row_same}

-- Products of heaps with the classes, and with the entries, of an admissible list are small.
pub rows_small : (sizes : List ℕ) {heaps : ℕ} → Admissible sizes → heaps ≤ most_heaps → heaps * length sizes ≤ most_heaps * most_classes
rows_small sizes ok h = mul-le-mul h ok.few

pub bases_small :
    (sizes : List ℕ) {heaps : ℕ} → Admissible sizes → heaps ≤ most_heaps → heaps * entries_per_heap sizes ≤ most_heaps * (most_classes * most_capacity)
bases_small sizes ok h = mul-le-mul h (entries_small sizes ok)

module _ (g : Shape) where
  -- the capacity of class c
  abbrev capacity_of : ℕ → ℕ
  capacity_of c = capacity_for (slot_size g.sizes c)

  -- A magazine of one of the heaps is among the entries.
  pub base_in : {h c i : ℕ} → h < g.heaps → c < classes g → i < capacity_of c → base_of g h c + i < g.heaps * entries_per_heap g.sizes
  unfolding base_of
  base_in {h} {c} {i} hh hc hi = rw add_assoc (digits_lt hh (offset_in g.sizes c hc hi))

  pub base_within : {h c : ℕ} → h < g.heaps → c < classes g → base_of g h c + capacity_of c ≤ g.heaps * entries_per_heap g.sizes
  unfolding base_of
  base_within {h} {c} hh hc =
      omega (arith, offset_within g.sizes c hc, mul-le-mul_right {m = h + 1} {n = g.heaps} (entries_per_heap g.sizes) (omega arith))

  -- Magazines of two heaps, or of two classes of one, do not meet.
  pub base_same :
      (h h' c c' : ℕ) {i j : ℕ} →
      c < classes g →
      c' < classes g →
      i < capacity_of c →
      j < capacity_of c' →
      base_of g h c + i ≡ base_of g h' c' + j →
      (h ≡ h') × (c ≡ c') × (i ≡ j)
  unfolding base_of
  base_same h h' c c' {i} {j} hc hc' hi hj e =
      let n = entries_per_heap g.sizes in
      let a = magazine_offset g.sizes c + i in
      let b = magazine_offset g.sizes c' + j in
      let q : h * n + a ≡ h' * n + b = omega arith in
      let r = row_same n h h' a b (offset_in g.sizes c hc hi) (offset_in g.sizes c' hc' hj) q in
      let s = offset_same g.sizes c c' hi hj r.1 in
      (r.0, s.0, s.1)

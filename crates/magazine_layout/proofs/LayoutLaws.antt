-- Capacities and where magazines stand, over any list of slot sizes: no two of a heap meet, and all are within its entries. Assumes nothing.
use mathlib.Core.Path.{◌≡◌, refl}
use mathlib.Core.List.{List}
use Prim.Native.Nat.{ℕ, zero, suc, ◌+◌, ◌*◌, ◌/◌, ◌<◌, ◌≤◌}
use native.Mathlib.Nat.{mul-le-mul_right, div-mul-le_self, le-div_iff_mul-le}
use native.Mathlib.Decide.{ℕ_discrete}
use native.Mathlib.Omega.{arith}
use lib.ListN.{length}
use Rattle.laws.specs.Choice.{sum}
use Rattle.laws.proofs.SumSteps.{sum_next, sum_through, sum_apart}
use Rattle.size_classes.specs.SlotSizes.{largest_slot, slot_size, Admissible, most_classes}
use Rattle.size_classes.specs.Slots.{most_slots, fewest_slots, slots_per_span}
use Rattle.magazine_layout.specs.Layout.{magazine_bytes, least_capacity, most_capacity, capacity_for, low_water_for, magazine_offset, entries_per_heap}

-- A capacity is held to its bounds.
pub capacity_least : (slot : ℕ) → least_capacity ≤ capacity_for slot
unfolding capacity_for
capacity_least slot = omega arith

pub capacity_most : (slot : ℕ) → capacity_for slot ≤ most_capacity
unfolding capacity_for least_capacity most_capacity
capacity_most slot = omega arith

-- Low water is below the capacity, and so is 0.
pub low_below : (slot : ℕ) → low_water_for (capacity_for slot) < capacity_for slot
unfolding low_water_for least_capacity
low_below slot = omega (arith, capacity_least slot)

pub capacity_positive : (slot : ℕ) → 0 < capacity_for slot
capacity_positive slot = omega (arith, low_below slot)

-- A span has at least as many slots as a magazine has entries: both are held to the same least, and a span has more bytes.
pub capacity_slots : (slot : ℕ) → capacity_for slot ≤ slots_per_span slot
unfolding capacity_for slots_per_span least_capacity most_capacity magazine_bytes fewest_slots most_slots largest_slot
capacity_slots slot = go (ℕ_discrete slot 0)
  where
    go : Dec (slot ≡ 0) → capacity_for slot ≤ slots_per_span slot
    go (yes e) = rw e (omega arith)
    go (no n) =
        let q : magazine_bytes / slot ≤ largest_slot / slot =
        (le-div_iff_mul-le {k = slot} {x = magazine_bytes / slot} {y = largest_slot} (omega arith)).1 (omega (arith, div-mul-le_self magazine_bytes slot)) in
        omega arith

module _ (sizes : List ℕ) where
  -- The first magazine begins at 0, and each other one where the one before it ends.
  pub offset_first : magazine_offset sizes 0 ≡ 0
  unfolding magazine_offset sum
  offset_first = refl

  pub offset_next : (c : ℕ) → magazine_offset sizes (c + 1) ≡ magazine_offset sizes c + capacity_for (slot_size sizes c)
  unfolding magazine_offset
  offset_next c = sum_next c (λ j. capacity_for (slot_size sizes j))

  -- Two magazines of one heap do not meet.
  pub offset_same :
      (c d : ℕ) {i j : ℕ} →
      i < capacity_for (slot_size sizes c) →
      j < capacity_for (slot_size sizes d) →
      magazine_offset sizes c + i ≡ magazine_offset sizes d + j →
      (c ≡ d) × (i ≡ j)
  unfolding magazine_offset
  offset_same c d {i} {j} hi hj e = sum_apart (λ k. capacity_for (slot_size sizes k)) c d i j hi hj e

  -- A magazine is within its heap's entries.
  pub offset_within : (c : ℕ) → c < length sizes → magazine_offset sizes c + capacity_for (slot_size sizes c) ≤ entries_per_heap sizes
  unfolding magazine_offset entries_per_heap
  offset_within c h = sum_through (λ j. capacity_for (slot_size sizes j)) c (length sizes) h

  pub offset_in : (c : ℕ) {i : ℕ} → c < length sizes → i < capacity_for (slot_size sizes c) → magazine_offset sizes c + i < entries_per_heap sizes
  offset_in c h hi = omega (arith, offset_within c h)

  -- No magazine begins later than if all before it had the most capacity.
  pub offset_most : (c : ℕ) → magazine_offset sizes c ≤ c * most_capacity
  unfolding magazine_offset sum
  offset_most zero = omega arith
  offset_most (suc c) = omega (arith, offset_most c, capacity_most (slot_size sizes c))

  -- A heap has at most so many entries.
  pub entries_most : entries_per_heap sizes ≤ length sizes * most_capacity
  unfolding entries_per_heap
  entries_most = offset_most (length sizes)

  -- In an admissible list every magazine begins, and ends, within so many.
  pub offset_small : Admissible sizes → (c : ℕ) → c ≤ length sizes → magazine_offset sizes c ≤ most_classes * most_capacity
  offset_small ok c h = omega (arith, offset_most c, mul-le-mul_right {m = c} {n = most_classes} most_capacity (omega (arith, ok.few)))

  pub entries_small : Admissible sizes → entries_per_heap sizes ≤ most_classes * most_capacity
  unfolding entries_per_heap
  entries_small ok = offset_small ok (length sizes) (omega arith)

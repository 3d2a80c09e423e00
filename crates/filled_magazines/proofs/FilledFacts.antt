-- What a filled table gives to a class of a heap: its numbers are in bounds, its cells are there, and its entries name slots of used spans.
-- Assumes nothing.
use mathlib.Core.Path.{◌≡◌, refl, sym, ap₂, ◌∙◌}
use Prim.Native.Nat.{ℕ, ◌<◌, ◌≤◌}
use native.Mathlib.Nat.{mul-le-mul_right, div-add-mod'}
use native.Mathlib.Omega.{arith}
use Rattle.size_classes.specs.SlotSizes.{slot_size}
use Rattle.size_classes.specs.Slots.{most_slots, fewest_slots}
use Rattle.size_classes.proofs.SlotTheorems.{slots_fewest, slots_most}
use Rattle.magazine_layout.specs.Layout.{most_capacity}
use Rattle.magazine_layout.proofs.LayoutLaws.{capacity_positive, capacity_most, low_below, capacity_slots}
use Rattle.tables.specs.Shape.{Shape, classes, record_cells, class_heap}
use Rattle.tables.specs.Stated.{Stated, RightShape, RightLengths}
use Rattle.tables.specs.Cells.{Tables, count_at, entry_at, entry_of, entry_span, entry_slot}
use Rattle.tables.proofs.CellLaws.{entry_span_lem, entry_slot_lem}
use Rattle.tables.proofs.StatedLaws.{stated_passed, head_stated}
use Rattle.magazine.specs.Room.{Room}
use Rattle.magazine.specs.Held.{Distinct}
use Rattle.magazine.proofs.OtherMagazines.{room_stated}
use Rattle.linked_list.specs.Reach.{Links}
use Rattle.sound.specs.Sound.{home_of, Belongs, EntrySound}
use Rattle.sound.specs.Filled.{Filled}

-- ---- the numbers of class c of heap h

module _ (g : Shape) (h c : ℕ) where
  -- It is of that class and of that heap.
  pub home_class : (class_heap g h c).class ≡ c
  unfolding class_heap
  home_class = refl

  pub home_owner : (class_heap g h c).owner ≡ h
  unfolding class_heap
  home_owner = refl

  -- A span has a slot, and no more than a span can have.
  pub slots_some : 0 < (class_heap g h c).slots
  unfolding class_heap fewest_slots
  slots_some = omega (arith, slots_fewest (slot_size g.sizes c))

  pub slots_within : (class_heap g h c).slots ≤ most_slots
  unfolding class_heap
  slots_within = slots_most (slot_size g.sizes c)

  -- A magazine has an entry, and no more than a magazine can have.
  pub capacity_some : 0 < (class_heap g h c).capacity
  unfolding class_heap
  capacity_some = capacity_positive (slot_size g.sizes c)

  pub capacity_within : (class_heap g h c).capacity ≤ most_capacity
  unfolding class_heap
  capacity_within = capacity_most (slot_size g.sizes c)

  -- And no more than a span has slots.
  pub capacity_in_span : (class_heap g h c).capacity ≤ (class_heap g h c).slots
  unfolding class_heap
  capacity_in_span = capacity_slots (slot_size g.sizes c)

  -- Low water is below the capacity, so a magazine at low water or below has room, and a full one is above it.
  pub low_under : (class_heap g h c).low < (class_heap g h c).capacity
  unfolding class_heap
  low_under = low_below (slot_size g.sizes c)

  pub low_has_room : {n : ℕ} → n ≤ (class_heap g h c).low → n < (class_heap g h c).capacity
  low_has_room l = omega (arith, low_under)

  pub full_above_low : {n : ℕ} → n ≡ (class_heap g h c).capacity → (class_heap g h c).low < n
  full_above_low e = omega (arith, low_under)

-- ---- entries and the blocks that they name

-- An entry is that of its span and slot.
pub entry_named : (e : ℕ) → entry_of (entry_span e) (entry_slot e) ≡ e
unfolding entry_of entry_span entry_slot
entry_named e = div-add-mod' e most_slots

-- Entries of two blocks differ.
pub entry_same :
    (s x : ℕ) {q y : ℕ} → q < most_slots → y < most_slots → entry_of s q ≡ entry_of x y → (s ≡ x) × (q ≡ y)
entry_same s x {q} {y} hq hy e =
    let a : entry_span (entry_of s q) ≡ entry_span (entry_of x y) = cc in
    let b : entry_slot (entry_of s q) ≡ entry_slot (entry_of x y) = cc in
    (sym (entry_span_lem s hq) ∙ a ∙ entry_span_lem x hy, sym (entry_slot_lem s hq) ∙ b ∙ entry_slot_lem x hy)

-- The class of one heap that a span is of.
pub belongs_home : (g : Shape) (t : Tables) (h c s : ℕ) → Belongs t (class_heap g h c) s → home_of g t s ≡ class_heap g h c
belongs_home g t h c s b = ap₂ (class_heap g) (b.owner ∙ home_owner g h c) (b.class ∙ home_class g h c)

-- ---- a filled table

module _ {g : Shape} {t : Tables} (o : Filled g t) where
  -- Heaps, spans and the lengths of the tables are as stated.
  pub filled_stated : Stated g t
  filled_stated = stated_passed g t o.stated

  pub filled_shape : RightShape g
  filled_shape = filled_stated.shape

  pub filled_lengths : RightLengths g t
  filled_lengths = filled_stated.lengths

  -- A used span is one of the table's.
  pub used_within : {s : ℕ} → s < t.used → s < g.spans
  used_within l = omega (arith, o.within)

  -- A used span is of a class of a heap.
  pub span_belongs : (s : ℕ) → s < t.used → Belongs t (home_of g t s) s
  unfolding class_heap
  span_belongs s l = record { used = l; class = refl; owner = refl }

  module _ {h c : ℕ} (hh : h < g.heaps) (hc : c < classes g) where
    -- The magazine's count and entries are there.
    pub filled_room : Room t.entries t.heads (class_heap g h c)
    filled_room = room_stated g t filled_stated hh hc (o.magazines h hh c hc).count

    -- The lists' links are in range.
    pub filled_links : Links t.used t.spans t.heads (class_heap g h c).row
    filled_links =
        record {
          room = rw filled_lengths.spans (mul-le-mul_right {m = t.used} {n = g.spans} record_cells o.within);
          previous = o.previous;
          next = o.next;
          rows = λ f l. unfold class_heap in head_stated g t filled_stated hh hc l;
          fronts = o.fronts h hh c hc;
        }

    -- The count is within the capacity, and no entry below it stands twice.
    pub count_within : count_at t (class_heap g h c) ≤ (class_heap g h c).capacity
    count_within = (o.magazines h hh c hc).count

    pub filled_distinct : Distinct t (class_heap g h c)
    filled_distinct = record { apart = (o.magazines h hh c hc).distinct }

    -- An entry below the count names a slot of a used span of that class and heap.
    module _ (i : ℕ) (l : i < count_at t (class_heap g h c)) where
      pub filled_entry : EntrySound t (class_heap g h c) (entry_at t (class_heap g h c) i)
      filled_entry = (o.magazines h hh c hc).entries i l

      pub entry_used : entry_span (entry_at t (class_heap g h c) i) < t.used
      entry_used = filled_entry.belongs.used

      pub entry_in_range : entry_slot (entry_at t (class_heap g h c) i) < (class_heap g h c).slots
      entry_in_range = filled_entry.in_range

      pub entry_within : entry_slot (entry_at t (class_heap g h c) i) < most_slots
      entry_within = omega (arith, entry_in_range, slots_within g h c)

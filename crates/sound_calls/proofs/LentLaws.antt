-- A lent table works for each class of each of its heaps. Assumes nothing.
use Rattle.std.specs.Prelude.{Some}
use mathlib.Core.Path.{◌≡◌}
use mathlib.Core.List.{List}
use Prim.Native.Nat.{ℕ, ◌<◌, ◌≤◌}
use native.Mathlib.Omega.{arith}
use native.Mathlib.Nat.{le_refl}
use lib.ListN.{length}
use Rattle.magazine_layout.specs.Layout.{most_capacity}
use Rattle.tables.specs.declared.ClassHeap.{ClassHeap}
use Rattle.tables.specs.Shape.{Shape, most_heaps, classes, class_heap}
use Rattle.tables.specs.Cells.{Tables, class_at, owner_at}
use Rattle.span.specs.Room.{SpanCells}
use Rattle.sound.specs.Sound.{home_of}
use Rattle.filled_spans.proofs.SpanValues.{filled_cells}
use Rattle.size_classes.specs.SlotSizes.{least_alignment}
use Rattle.size_classes.specs.Slots.{slots_per_span, slot_at}
use Rattle.size_classes.proofs.SlotSizeLaws.{size_least}
use Rattle.size_classes.proofs.SlotTheorems.{accepts_exactly}
use Rattle.filled_magazines.proofs.FilledFacts.{capacity_within, filled_shape}
use Rattle.placing.specs.Working.{Working}
use Rattle.refilling.specs.Fronts.{Fronts}
use Rattle.calls.specs.Calls.{words_needed}
use Rattle.homes.specs.Homes.{Whole}
use Rattle.homes.proofs.SoundWhole.{sound_whole}
use Rattle.sound_steps.proofs.RefillSteps.{whole_fronts}
use Rattle.sound_calls.specs.Lent.{Lent, Block}

module _ {g : Shape} {t : Tables} (x : Lent g t) where
  -- Every used span of it is at home.
  pub lent_whole : Whole g t
  lent_whole = sound_whole g t x.sizes x.stated x.sound

  -- A heap of it is one of the most heaps.
  pub lent_heaps : {h : ℕ} → h < g.heaps → h < most_heaps
  lent_heaps l = omega (arith, l, (filled_shape lent_whole.near.filled).few_heaps)

  -- k is class c of heap h.
  module _ {h c : ℕ} {k : ClassHeap} (hh : h < g.heaps) (hc : c < classes g) (e : k ≡ class_heap g h c) where
    abbrev pub lent_working : Working g.spans k t
    lent_working =
        record {
          shape = g;
          heap = h;
          class = c;
          in_heaps = hh;
          in_classes = hc;
          named = e;
          limited = le_refl g.spans;
          few = x.few;
          filled = lent_whole.near.filled;
        }

    pub lent_fronts : (n : ℕ) (ws : List ℕ) (i : ℕ) → Fronts n g.spans t k ws i
    lent_fronts n ws i = rw e (whole_fronts hh hc g.spans (le_refl g.spans) n lent_whole ws i)

    -- As many words as an allocation needs are more than the claims of a refill.
    pub lent_words : (ws : List ℕ) → words_needed ≤ length ws → k.capacity < length ws
    unfolding words_needed most_capacity
    lent_words ws l = rw e (omega (arith, l, capacity_within g h c))

  -- ---- a used span of it

  module _ {s : ℕ} (hs : s < t.used) where
    -- Its cells are there, and its owner and class are a heap and a class.
    pub lent_cells : SpanCells t.bits t.spans s
    lent_cells = filled_cells g t lent_whole.near.filled s hs

    pub lent_owner : owner_at t s < g.heaps
    lent_owner = (x.sound.spans s hs).cells.owner

    pub lent_class : class_at t s < classes g
    lent_class = (x.sound.spans s hs).cells.class

    module _ {k : ClassHeap} (e : k ≡ home_of g t s) where
      -- Its slots are not of size 0.
      pub home_slot : 0 < k.slot
      unfolding class_heap least_alignment
      home_slot = rw e (omega (arith, size_least g.sizes x.sizes (class_at t s) lent_class))

      home_slots : k.slots ≡ slots_per_span k.slot
      unfolding class_heap
      home_slots = rw e

      -- The slot that an offset starts is a block of it.
      pub lent_block : (offset q : ℕ) → slot_at k.slot offset ≡ Some q → Block g.spans k t s q
      lent_block offset q z =
          record {
            working = lent_working lent_owner lent_class e;
            home = e;
            used = hs;
            inside = rw home_slots ((accepts_exactly k.slot offset home_slot q).0 z).inside;
          }

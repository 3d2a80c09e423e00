-- One span of the smallest shape: a new one, a remote free and its fold, and a block's four states. Assumes nothing.
use mathlib.Core.Path.{◌≡◌, refl}
use mathlib.Core.List.{[], ◌∷◌, ◌++◌}
use Prim.Native.Nat.{◌+◌, ◌-◌, ◌^◌}
use lib.Count.{ones_in}
use lib.ListN.{drop, set, replicate}
use Rattle.laws.specs.Choice.{sum, some}
use Rattle.laws.specs.Word.{bits_from}
use Rattle.size_classes.specs.SlotSizes.{largest_slot}
use Rattle.size_classes.specs.Slots.{most_slots, fewest_slots, slots_per_span}
use Rattle.magazine_layout.specs.Layout.{magazine_bytes, least_capacity, most_capacity, capacity_for, low_water_for, magazine_offset, entries_per_heap}
use Rattle.occupancy.specs.Occupied.{fresh_words, fresh_of, release_slot, release_slots_by_word, fold_from, fold_in}
use Rattle.tables.specs.Shape.{bitmap_cells, record_cells, head_cells, row_of, base_of, class_heap}
use Rattle.tables.specs.Cells.{Tables, tables, occupied_at, bitmap_cell, span_cell, head_cell, entry_of}
use Rattle.tables.proofs.Tiny.{tiny, one}
use Rattle.magazine.specs.Magazine.{is_cached}
use Rattle.span.specs.declared.BlockState.TheVariants.{Free, Cached, Pending, Out}
use Rattle.span.specs.Span.{stored, dealloc_slot, reclaim_pending, folded, remote_free, claimed_entries, new_span}
use Rattle.span.specs.State.{state_of}

-- span 0 with slots 0 to 6 taken and slot 7 free; the magazine holds slots 0 and 1, and slot 2 above its count
abbrev seven : Tables
seven =
    tables ((2 ^ 64 - 2) ∷ (2 ^ 64 - 1 - 2 ^ 7) ∷ replicate 63 (2 ^ 64 - 1) ++ replicate 65 0) (0 ∷ 0 ∷ 7 ∷ 0 ∷ 0 ∷ [])
    (0 ∷ 1 ∷ 2 ∷ replicate 5 0) (1 ∷ 0 ∷ 0 ∷ 0 ∷ 2 ∷ []) 1

-- slots 3 and 6 freed by another heap
abbrev pending : Tables
pending = remote_free (remote_free seven 0 3) 0 6

pub record WorkedSpan : Type 0 where
  -- "the next unused span, written new with nothing pending": the second of two, whatever stood there
  pub new_bits :
      drop 130 (new_span (tables (replicate 260 9) (replicate 10 9) [] [] 1) one).bits ≡
      (2 ^ 64 - 2) ∷ (2 ^ 64 - 2 ^ 8) ∷ replicate 63 (2 ^ 64 - 1) ++ replicate 65 0
  pub new_record : (new_span (tables (replicate 260 9) (replicate 10 9) [] [] 1) one).spans ≡ replicate 5 9 ++ replicate 5 0
  -- a remote free sets the pending bit and its word's summary bit, and nothing else
  pub remote : pending.bits ≡ set (set seven.bits 66 (2 ^ 3 + 2 ^ 6)) 65 1
  pub untouched : pending.spans ≡ seven.spans
  -- the fold takes both out of the occupancy, and none is pending any more
  pub folded_bits : (folded pending 0).bits ≡ set seven.bits 1 (2 ^ 64 - 1 - 2 ^ 7 - 2 ^ 6 - 2 ^ 3)
  pub folded_count : occupied_at (folded pending 0) 0 ≡ 5
  pub nothing : folded seven 0 ≡ seven
  pub released : (dealloc_slot seven 0 6).bits ≡ set seven.bits 1 (2 ^ 64 - 1 - 2 ^ 7 - 2 ^ 6)
  -- free, cached, pending, out
  pub free : state_of (tiny 1) pending 0 7 ≡ Free
  pub cached : state_of (tiny 1) pending 0 1 ≡ Cached
  pub waiting : state_of (tiny 1) pending 0 3 ≡ Pending
  pub out : state_of (tiny 1) pending 0 2 ≡ Out
  -- "in ascending number"
  pub entries : claimed_entries 2 1 0b10110 ≡ 8257 ∷ 8258 ∷ 8260 ∷ []

pub worked : WorkedSpan
unfolding ones_in sum some bits_from largest_slot most_slots fewest_slots slots_per_span magazine_bytes least_capacity most_capacity capacity_for low_water_for magazine_offset entries_per_heap fresh_words fresh_of release_slot release_slots_by_word fold_from fold_in bitmap_cells record_cells head_cells row_of base_of class_heap bitmap_cell span_cell head_cell entry_of is_cached stored dealloc_slot reclaim_pending folded remote_free claimed_entries new_span state_of
worked =
    record {
      new_bits = refl;
      new_record = refl;
      remote = refl;
      untouched = refl;
      folded_bits = refl;
      folded_count = refl;
      nothing = refl;
      released = refl;
      free = refl;
      cached = refl;
      waiting = refl;
      out = refl;
      entries = refl;
    }

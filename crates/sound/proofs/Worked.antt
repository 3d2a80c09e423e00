-- Sound and unsound tables of the smallest shape: one full span, its eight slots in the magazine, and one cell damaged in turn. Assumes nothing.
use mathlib.Core.Path.{◌≡◌, refl}
use mathlib.Core.Bool.{Bool, true, false}
use mathlib.Core.List.{List, [], ◌∷◌, ◌++◌}
use Prim.Native.Nat.{ℕ, ◌-◌, ◌^◌}
use native.Mathlib.Decide.{dec_le, dec_lt, ℕ_discrete}
use lib.ListN.{set, replicate}
use Rattle.laws.specs.Choice.{sum}
use Rattle.laws.specs.Decide.{chain}
use Rattle.laws.specs.Links.{times, walk}
use Rattle.size_classes.specs.SlotSizes.{largest_slot}
use Rattle.size_classes.specs.Slots.{most_slots, fewest_slots, slots_per_span}
use Rattle.magazine_layout.specs.Layout.{magazine_bytes, least_capacity, most_capacity, capacity_for, low_water_for, magazine_offset, entries_per_heap}
use Rattle.tables.specs.Shape.{bitmap_cells, record_cells, head_cells, row_of, base_of, class_heap}
use Rattle.tables.specs.Cells.{tables, bitmap_cell, span_cell, head_cell, entry_span, entry_slot}
use Rattle.tables.proofs.Tiny.{tiny, blank}
use Rattle.sound.specs.Decided.{span_filled, span_sound, belongs, list_sound, entry_sound, magazine_sound, class_sound, sound, is_sound}

-- a full span, and room for a second: the local side all ones, nothing pending
abbrev bits : List ℕ
bits = replicate 65 (2 ^ 64 - 1) ++ replicate 195 0

-- class, owner, occupied, previous, next
abbrev spans : List ℕ
spans = 0 ∷ 0 ∷ 8 ∷ 0 ∷ 0 ∷ replicate 5 0

abbrev entries : List ℕ
entries = 0 ∷ 1 ∷ 2 ∷ 3 ∷ 4 ∷ 5 ∷ 6 ∷ 7 ∷ []

-- partial, full, empty, reserve, count
abbrev heads : List ℕ
heads = 0 ∷ 1 ∷ 0 ∷ 0 ∷ 8 ∷ []

-- the test's answer for a table of two spans
abbrev answer : List ℕ → List ℕ → List ℕ → List ℕ → ℕ → Bool
answer b s e h u = is_sound (tiny 2) (tables b s e h u)

pub record WorkedSoundness : Type 0 where
  pub fresh : is_sound (tiny 2) (blank 2) ≡ true
  pub full : answer bits spans entries heads 1 ≡ true
  -- "Unused spans and entries at or above a count may hold anything."
  pub unused : answer (set bits 200 5) (set spans 7 9) (set entries 7 3) (set heads 4 7) 1 ≡ true
  -- "used spans are within the limit with valid class and owner"
  pub limit : answer bits spans entries heads 3 ≡ false
  pub class : answer bits (set spans 0 1) entries heads 1 ≡ false
  pub owner : answer bits (set spans 1 1) entries heads 1 ≡ false
  -- "each is in one list or reserve", "linked both ways", "lists and reserves hold no other span"
  pub nowhere : answer bits spans entries (set heads 1 0) 1 ≡ false
  pub cycle : answer bits (set spans 4 1) entries heads 1 ≡ false
  pub back : answer bits (set spans 3 1) entries heads 1 ≡ false
  pub other : answer bits spans entries (set heads 2 2) 1 ≡ false
  -- "occupied equals the in-range set bits, and those past the end are set"
  pub occupied : answer bits (set spans 2 7) entries heads 1 ≡ false
  pub past : answer (set bits 64 0) spans entries heads 1 ≡ false
  -- "both summaries are right"
  pub summary : answer (set bits 0 (2 ^ 64 - 2)) spans entries heads 1 ≡ false
  pub remote : answer (set bits 65 1) spans entries heads 1 ≡ false
  -- "a pending bit stands only on an occupied slot in range"; and a cached block is not pending
  pub pending : answer (set (set bits 66 (2 ^ 8)) 65 1) spans entries heads 1 ≡ false
  pub cached : answer (set (set bits 66 4) 65 1) spans entries heads 1 ≡ false
  pub pending_out : answer (set (set bits 66 (2 ^ 7)) 65 1) spans entries (set heads 4 7) 1 ≡ true
  -- "partial means neither empty nor full"
  pub named : answer bits spans entries (set (set heads 0 1) 1 0) 1 ≡ false
  -- "distinct", "in range", "counts are within capacity"
  pub twice : answer bits spans (set entries 3 2) heads 1 ≡ false
  pub in_range : answer bits spans (set entries 3 8) heads 1 ≡ false
  pub span : answer bits spans (set entries 3 4099) heads 1 ≡ false
  pub count : answer bits spans entries (set heads 4 9) 1 ≡ false

pub worked : WorkedSoundness
unfolding dec_le dec_lt ℕ_discrete sum chain times walk largest_slot most_slots fewest_slots slots_per_span magazine_bytes least_capacity most_capacity capacity_for low_water_for magazine_offset entries_per_heap bitmap_cells record_cells head_cells row_of base_of class_heap bitmap_cell span_cell head_cell entry_span entry_slot span_filled span_sound belongs list_sound entry_sound magazine_sound class_sound sound is_sound
worked =
    record {
      fresh = refl;
      full = refl;
      unused = refl;
      limit = refl;
      class = refl;
      owner = refl;
      nowhere = refl;
      cycle = refl;
      back = refl;
      other = refl;
      occupied = refl;
      past = refl;
      summary = refl;
      remote = refl;
      pending = refl;
      cached = refl;
      pending_out = refl;
      named = refl;
      twice = refl;
      in_range = refl;
      span = refl;
      count = refl;
    }

-- The block that a span and an offset name: it is out as its slot is, and stays so while its slot does. Assumes nothing.
use mathlib.Core.Path.{◌≡◌, refl, sym, subst}
use mathlib.Core.Bool.{true}
use Prim.Native.Nat.{ℕ, ◌/◌, ◌%◌, ◌<◌}
use native.Mathlib.Nat.{div-add-mod'}
use native.Mathlib.Omega.{arith}
use borrow.Author.Tests.{eqb-true, lt-ltb, ltb-true}
use lib.Dec.{eqb, ltb}
use Rattle.laws.proofs.SomeLaws.{and_both}
use Rattle.size_classes.specs.SlotSizes.{slot_size, least_alignment}
use Rattle.size_classes.specs.Slots.{slots_per_span, starts_slot}
use Rattle.size_classes.proofs.SlotSizeLaws.{size_least}
use Rattle.size_classes.proofs.SlotTheorems.{Starts, accepts_exactly}
use Rattle.tables.specs.Shape.{Shape, class_heap}
use Rattle.tables.specs.Cells.{Tables, class_at}
use Rattle.sound.specs.Sound.{home_of}
use Rattle.calls.specs.Calls.{slot_size_at, names_slot}
use Rattle.outs.specs.Outs.{IsOut, SameSpans}
use Rattle.sound_calls.specs.Lent.{Lent}
use Rattle.sound_calls.proofs.LentLaws.{lent_class}
use Rattle.sound_calls.proofs.FreeTests.{starts_at}
use Rattle.call_laws.specs.Answers.{NamesOut}

-- A slot's start and its number, by division.
module _ (slot offset : ℕ) where
  starts_passed : starts_slot slot offset ≡ true → Starts slot offset (offset / slot)
  unfolding starts_slot
  starts_passed e =
      let r = and_both (eqb (offset % slot) 0) (ltb (offset / slot) (slots_per_span slot)) e in
      record {
        at = omega (arith, div-add-mod' offset slot, eqb-true (offset % slot) 0 r.0);
        inside = ltb-true (offset / slot) (slots_per_span slot) r.1;
      }

  starts_tests : {q : ℕ} → 0 < slot → Starts slot offset q → (starts_slot slot offset ≡ true) × (offset / slot ≡ q)
  starts_tests {q} pos h = starts_at slot offset q ((accepts_exactly slot offset pos q).1 h)

-- A span's slots are those of its slot size.
home_slots : (g : Shape) (t : Tables) (s : ℕ) → (home_of g t s).slots ≡ slots_per_span (slot_size_at g t s)
unfolding class_heap
home_slots g t s = refl

module _ {g : Shape} {t : Tables} {s offset : ℕ} (n : NamesOut g t s offset) where
  -- The span is used,
  pub named_used : s < t.used
  unfolding names_slot
  named_used = ltb-true s t.used (and_both (ltb s t.used) (starts_slot (slot_size_at g t s) offset) n.names).0

  -- the offset starts the slot,
  pub named_starts : Starts (slot_size_at g t s) offset (offset / slot_size_at g t s)
  unfolding names_slot
  named_starts = starts_passed (slot_size_at g t s) offset (and_both (ltb s t.used) (starts_slot (slot_size_at g t s) offset) n.names).1

  -- and its block is out.
  pub named_out : IsOut g t s (offset / slot_size_at g t s)
  named_out = record { used = named_used; slot = rw (home_slots g t s) named_starts.inside; out = n.out }

module _ {g : Shape} {t : Tables} (x : Lent g t) {s : ℕ} where
  size_some : s < t.used → 0 < slot_size_at g t s
  unfolding least_alignment
  size_some l = omega (arith, size_least g.sizes x.sizes (class_at t s) (lent_class x l))

  -- A slot that is out is named by its span and its start,
  pub out_named : {offset q : ℕ} → Starts (slot_size_at g t s) offset q → IsOut g t s q → NamesOut g t s offset
  unfolding names_slot
  out_named {offset} {q} h i =
      let r = starts_tests (slot_size_at g t s) offset (size_some i.used) h in
      record { names = rw (lt-ltb s t.used i.used, r.0); out = rw r.1 i.out }

  -- and only that slot is.
  pub named_slot : {offset q : ℕ} → NamesOut g t s offset → Starts (slot_size_at g t s) offset q → IsOut g t s q
  named_slot {offset} n h = subst (IsOut g t s) (starts_tests (slot_size_at g t s) offset (size_some (named_used n)) h).1 (named_out n)

-- A block that is named stays named while its slot stays out.
pub named_kept :
    {g : Shape} {t u : Tables} {s offset : ℕ} → Lent g u → SameSpans t u → (n : NamesOut g t s offset) → IsOut g u s (offset / slot_size_at g t s) →
    NamesOut g u s offset
named_kept {g} {t} {u} {s} {offset} y a n i =
    out_named y (subst (λ (c : ℕ). Starts (slot_size g.sizes c) offset (offset / slot_size_at g t s)) (sym (a.class s (named_used n))) (named_starts n)) i

-- What the calls answer on a whole table, for the requests of a list: a block given before and not freed since is out, and its free is done.
-- Assumes nothing.
use Rattle.std.specs.Prelude.{Some}
use mathlib.Core.Path.{◌≡◌, sym, ap, subst, ◌∙◌}
use mathlib.Core.Bool.{true}
use mathlib.Core.List.{List}
use Prim.Native.Nat.{ℕ, ◌*◌, ◌/◌, ◌^◌, ◌<◌, ◌≤◌}
use native.Mathlib.Nat.{mul-div_cancel}
use Rattle.size_classes.specs.Class.{in_range, smallest_class, class_of}
use Rattle.size_classes.specs.Slots.{most_slots, slots_per_span, slot_offset, slot_at}
use Rattle.size_classes.proofs.SlotTheorems.{accepts_exactly}
use Rattle.tables.specs.declared.ClassHeap.{ClassHeap}
use Rattle.tables.specs.Shape.{Shape, classes, class_heap}
use Rattle.tables.specs.Cells.{Tables}
use Rattle.span.specs.State.{state_in, state_of, out_state}
use Rattle.calls.specs.Outcome.{Outcome, outcome}
use Rattle.calls.specs.Primary.{dealloc_small}
use Rattle.calls.specs.Calls.{guarded, allocate, allocate_sound, free, free_sound}
use Rattle.sound.specs.Sound.{home_of, Belongs}
use Rattle.sound_laws.proofs.SoundTested.{sound_passes}
use Rattle.filled_magazines.proofs.FilledFacts.{belongs_home, home_class, home_owner}
use Rattle.homes.specs.Homes.{Whole}
use Rattle.homes.proofs.SoundWhole.{whole_sound}
use Rattle.outs.specs.Outs.{IsOut, SameOuts, ComesOut, GoesBack}
use Rattle.outs.proofs.OutsLaws.{spans_belongs}
use Rattle.sound_calls.specs.Lent.{Lent}
use Rattle.sound_calls.proofs.LentLaws.{home_slot}
use Rattle.sound_calls.proofs.AllocationTests.{found_class}
use Rattle.sound_calls.proofs.FreeTests.{at_slot}
use Rattle.chance.specs.Counts.{Whose}
use Rattle.chance.specs.Chance.{Place}

-- the block at this place is out, and is of this class and heap
pub record OutAs (g : Shape) (t : Tables) (b : Whose) (p : Place) : Type 0 where
  pub slot : ℕ
  pub belongs : Belongs t (class_heap g b.heap b.class) p.span
  pub offset : p.offset ≡ slot_offset (class_heap g b.heap b.class).slot slot
  pub out : IsOut g t p.span slot

module _ {g : Shape} {t u : Tables} {b : Whose} {p : Place} (x : OutAs g t b p) where
  -- It is still out where the same blocks are,
  pub out_same : SameOuts g t u → OutAs g u b p
  out_same a = record { slot = x.slot; belongs = spans_belongs a.spans x.belongs; offset = x.offset; out = a.kept p.span x.slot x.out }

  -- where one comes out,
  pub out_comes : {s q : ℕ} → ComesOut g t u s q → OutAs g u b p
  out_comes a = record { slot = x.slot; belongs = spans_belongs a.spans x.belongs; offset = x.offset; out = a.kept p.span x.slot x.out }

  -- and where another goes back.
  pub out_goes : {s q : ℕ} → GoesBack g t u s q → (p.span ≡ s → x.slot ≡ q → ⊥) → OutAs g u b p
  out_goes a n =
      record { slot = x.slot; belongs = spans_belongs a.spans x.belongs; offset = x.offset; out = a.kept p.span x.slot x.out n }

-- The class that an allocation in range is given is one of the list.
pub class_found : (g : Shape) (t : Tables) → Whole g t → (size alignment : ℕ) → in_range g.sizes size alignment ≡ true → smallest_class g.sizes size alignment < classes g
class_found g t o size alignment e =
    found_class g.sizes o.near.filled.sizes size alignment (smallest_class g.sizes size alignment) (unfold class_of in rw e)

module _ (g : Shape) {t : Tables} (small : g.spans * most_slots ≤ 2 ^ 64) (o : Whole g t) where
  -- ---- neither 1 nor 2

  guard_passes : (x : Outcome) → guarded g t x ≡ x
  unfolding guarded
  guard_passes x = rw (o.near.filled.stated, sound_passes g t (whole_sound o))

  -- An allocation on a whole table is what it is on a sound one,
  pub allocate_sound_lem : (heap size alignment : ℕ) (ws : List ℕ) → allocate g t heap size alignment ws ≡ allocate_sound g t heap size alignment ws
  unfolding allocate
  allocate_sound_lem heap size alignment ws = guard_passes (allocate_sound g t heap size alignment ws)

  -- and so is a free.
  pub free_sound_lem : (heap s offset : ℕ) → free g t heap s offset ≡ free_sound g t heap s offset
  unfolding free
  free_sound_lem heap s offset = guard_passes (free_sound g t heap s offset)

  -- ---- blocks that are out

  lent : Lent g t
  lent = record { sizes = o.near.filled.sizes; stated = o.near.filled.stated; sound = whole_sound o; few = small }

  module _ (h c : ℕ) {s : ℕ} (b : Belongs t (class_heap g h c) s) where
    home : class_heap g h c ≡ home_of g t s
    home = sym (belongs_home g t h c s b)

    -- The heap of a used span exists,
    pub owner_in : h < g.heaps
    owner_in = subst (λ (x : ℕ). x < g.heaps) (b.owner ∙ home_owner g h c) (o.near.filled.spans s b.used).owner

    -- and so does its class.
    pub class_in : c < classes g
    class_in = subst (λ (x : ℕ). x < classes g) (b.class ∙ home_class g h c) (o.near.filled.spans s b.used).class

    -- Two slots that start at one offset are one.
    pub one_offset : (q r : ℕ) → slot_offset (class_heap g h c).slot q ≡ slot_offset (class_heap g h c).slot r → q ≡ r
    one_offset q r e =
        let pos = home_slot lent b.used home in
        sym (mul-div_cancel q pos) ∙ ap (λ (n : ℕ). n / (class_heap g h c).slot) e ∙ mul-div_cancel r pos

    -- A free of a block that is out is done.
    pub free_done :
        (heap offset q : ℕ) → heap < g.heaps → offset ≡ slot_offset (class_heap g h c).slot q → IsOut g t s q →
        free_sound g t heap s offset ≡ outcome 0 s offset 0 (dealloc_small t (class_heap g h c) heap s q)
    free_done heap offset q hh e i =
        let k = class_heap g h c in
        let pos = home_slot lent b.used home in
        let inside : q < slots_per_span k.slot = unfold class_heap in subst (λ (x : ClassHeap). q < x.slots) (sym home) i.slot in
        let z : slot_at k.slot offset ≡ Some q = (accepts_exactly k.slot offset pos q).1 (record { at = e; inside = inside }) in
        let out : out_state (state_in t k s q) ≡ true =
        ap (λ (x : ClassHeap). out_state (state_in t x s q)) home ∙ (unfold state_of in ap out_state i.out) in
        sym
        (at_slot g t heap s offset hh b.used k home q (outcome 0 s offset 0 (dealloc_small t k heap s q)) z
        (rw out))

-- Where a cached block of a filled table stands, and what else its state says of a block of one. Assumes nothing.
use mathlib.Core.Path.{◌≡◌, refl, sym, subst, ◌∙◌}
use mathlib.Core.Bool.{true, true≢false}
use Prim.Native.Nat.{ℕ, ◌<◌}
use native.Mathlib.Decide.{dec_lt}
use native.Mathlib.Omega.{arith}
use Rattle.size_classes.specs.Slots.{most_slots}
use Rattle.tables.specs.Shape.{Shape, classes, class_heap}
use Rattle.tables.specs.Cells.{Tables, count_at, entry_at, entry_of, entry_span, entry_slot}
use Rattle.tables.proofs.CellLaws.{entry_span_lem, entry_slot_lem}
use Rattle.magazine.specs.Held.{Among}
use Rattle.magazine.proofs.MagazineLaws.{distinct_place}
use Rattle.magazine.proofs.CachedLaws.{among_cached}
use Rattle.span.specs.declared.BlockState.TheVariants.{Free, Cached, Pending, Out}
use Rattle.span.specs.State.{is_pending, state_of}
use Rattle.sound.specs.Sound.{home_of, Belongs, EntrySound}
use Rattle.sound.specs.Filled.{Filled}
use Rattle.sound.proofs.StateTests.{cached_no_out, free_says, pending_says, pending_so, cached_so}
use Rattle.filled_magazines.proofs.FilledFacts.{home_class, home_owner, entry_named, belongs_home, filled_distinct, filled_entry}

module _ {g : Shape} {t : Tables} (o : Filled g t) where
  -- A pending bit makes a block of a used span pending, and in range.
  module _ {s q : ℕ} (u : s < t.used) (l : q < most_slots) where
    pub waits_pending : is_pending t s q ≡ true → state_of g t s q ≡ Pending
    waits_pending e = pending_so g t s q (record { occupied = ((o.spans s u).pending q l e).1; pending = e })

    pub pending_in_range : state_of g t s q ≡ Pending → q < (home_of g t s).slots
    pending_in_range e = ((o.spans s u).pending q l (pending_says g t s q e).pending).0

    -- A free block is in range.
    pub free_in_range : state_of g t s q ≡ Free → q < (home_of g t s).slots
    free_in_range e =
        elim (dec_lt q (home_of g t s).slots) [
          | yes y ↦ y
          | no y ↦
              absurd (true≢false (sym ((o.spans s u).past q l (omega arith)) ∙ free_says g t s q e))
        ]

  module _ {h c : ℕ} (hh : h < g.heaps) (hc : c < classes g) where
    -- What stands in a magazine is sound.
    pub among_sound : {e : ℕ} → Among t (class_heap g h c) e → EntrySound t (class_heap g h c) e
    among_sound a = subst (EntrySound t (class_heap g h c)) a.is (filled_entry o hh hc a.place a.below)

    -- Its block is cached.
    pub among_is_cached : {e : ℕ} → Among t (class_heap g h c) e → state_of g t (entry_span e) (entry_slot e) ≡ Cached
    among_is_cached {e} a =
        let m = among_sound a in
        cached_so g t (entry_span e) (entry_slot e)
        (record {
          occupied = m.occupied;
          not_pending = m.not_pending;
          kept = rw (belongs_home g t h c (entry_span e) m.belongs, entry_named e) (among_cached t (class_heap g h c) e a);
        })

    pub entry_is_cached :
        (i : ℕ) →
        i < count_at t (class_heap g h c) →
        state_of g t (entry_span (entry_at t (class_heap g h c) i)) (entry_slot (entry_at t (class_heap g h c) i)) ≡ Cached
    entry_is_cached i l = among_is_cached (record { place = i; below = l; is = refl })

    module _ (s : ℕ) {q : ℕ} (l : q < most_slots) where
      pub block_is_cached : Among t (class_heap g h c) (entry_of s q) → state_of g t s q ≡ Cached
      block_is_cached a =
          let r = among_is_cached a in rw (entry_span_lem s l, entry_slot_lem s l) at r

      -- A block in a magazine is of that class and heap.
      pub block_belongs : Among t (class_heap g h c) (entry_of s q) → Belongs t (class_heap g h c) s
      block_belongs a = let r = (among_sound a).belongs in rw (entry_span_lem s l) at r

      -- A block that is out stands in no magazine.
      pub out_in_none : state_of g t s q ≡ Out → Among t (class_heap g h c) (entry_of s q) → ⊥
      out_in_none e a = cached_no_out (sym (block_is_cached a) ∙ e)

    -- An entry stands at one place only.
    pub one_place : {e : ℕ} (a b : Among t (class_heap g h c) e) → a.place ≡ b.place
    one_place a b =
        distinct_place t (class_heap g h c) a.place b.place (filled_distinct o hh hc) a.below b.below (a.is ∙ sym b.is)

  -- An entry stands in one magazine only.
  pub one_magazine :
      {h c i d : ℕ} {e : ℕ} →
      h < g.heaps →
      c < classes g →
      i < g.heaps →
      d < classes g →
      Among t (class_heap g h c) e →
      Among t (class_heap g i d) e →
      (h ≡ i) × (c ≡ d)
  one_magazine {h} {c} {i} {d} hh hc hi hd a b =
      let x = (among_sound hh hc a).belongs in
      let y = (among_sound hi hd b).belongs in
      (sym (x.owner ∙ home_owner g h c) ∙ y.owner ∙ home_owner g i d, sym (x.class ∙ home_class g h c) ∙ y.class ∙ home_class g i d)

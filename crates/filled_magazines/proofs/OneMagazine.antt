-- A step of one magazine of a filled table: the table stays filled if that magazine is sound, and a block that enters the magazine becomes cached, one
-- that leaves it becomes out, while every other block of a used span keeps its state. Assumes nothing.
use mathlib.Core.Path.{◌≡◌, sym, ap, ap₂, subst, ◌∙◌}
use mathlib.Core.Logic.{◌⊎◌, inl, inr, ⊎_elim}
use Prim.Native.Nat.{ℕ, ◌<◌}
use native.Mathlib.Decide.{ℕ_discrete}
use native.Mathlib.Omega.{arith}
use lib.ListN.{length}
use Rattle.laws.proofs.FirstLaws.{tested}
use Rattle.size_classes.specs.Slots.{most_slots}
use Rattle.tables.specs.declared.ClassHeap.{ClassHeap}
use Rattle.tables.specs.Shape.{Shape, classes, class_heap}
use Rattle.tables.specs.Cells.{Tables, class_at, owner_at, entry_of, entry_span, entry_slot}
use Rattle.tables.proofs.CellLaws.{entry_span_lem, entry_slot_lem}
use Rattle.magazine.specs.Magazine.{is_cached}
use Rattle.magazine.specs.Held.{Among, Apart, OnlyMagazine}
use Rattle.magazine.proofs.CachedLaws.{cached_among, among_cached, uncached_not, not_uncached}
use Rattle.magazine.proofs.OtherMagazines.{class_heaps_apart, other_list, other_count, other_entry, other_among, other_from}
use Rattle.linked_list.specs.Reach.{Links}
use Rattle.span.specs.declared.BlockState.TheVariants.{Cached, Out}
use Rattle.span.specs.State.{state_of}
use Rattle.sound.specs.Sound.{home_of, EntrySound, MagazineSound}
use Rattle.sound.specs.Filled.{Filled}
use Rattle.sound.specs.States.{Becomes, Block}
use Rattle.sound.proofs.StateTests.{out_so}
use Rattle.filled_magazines.proofs.FilledFacts.{entry_named, belongs_home, filled_links, count_within}
use Rattle.filled_magazines.proofs.StateLaws.{among_sound, among_is_cached}
use Rattle.filled_magazines.proofs.SameSpans.{SameSpans, same_entry, same_magazine, same_state, same_filled}

-- The block of an entry.
pub names_block : (x : ℕ) {y e : ℕ} → y < most_slots → entry_of x y ≡ e → (x ≡ entry_span e) × (y ≡ entry_slot e)
names_block x l q = (sym (entry_span_lem x l) ∙ ap entry_span q, sym (entry_slot_lem x l) ∙ ap entry_slot q)

-- An entry that stands in two magazines or in neither is cached in both or in neither.
pub cached_as :
    (t u : Tables) (k : ClassHeap) (e : ℕ) → (Among t k e → Among u k e) → (Among u k e → Among t k e) → is_cached u k e ≡ is_cached t k e
cached_as t u k e on back =
    ⊎_elim
    (λ y. among_cached u k e (on (cached_among t k e y)) ∙ sym y)
    (λ n. not_uncached u k e (λ a. uncached_not t k e n (back a)) ∙ sym n)
    (tested (is_cached t k e))

-- A sound entry that stands in its magazine no longer names a block that is out.
pub sound_out :
    (g : Shape) (t : Tables) (h c e : ℕ) →
    EntrySound t (class_heap g h c) e →
    (Among t (class_heap g h c) e → ⊥) →
    state_of g t (entry_span e) (entry_slot e) ≡ Out
sound_out g t h c e m n =
    out_so g t (entry_span e) (entry_slot e)
    (record {
      occupied = m.occupied;
      not_pending = m.not_pending;
      not_kept = rw (belongs_home g t h c (entry_span e) m.belongs, entry_named e) (not_uncached t (class_heap g h c) e n);
    })

-- This class of this heap, or one whose magazine stands apart.
here_or_apart :
    (g : Shape) (h c i d : ℕ) →
    c < classes g →
    d < classes g →
    (class_heap g i d ≡ class_heap g h c) ⊎ Apart (class_heap g h c) (class_heap g i d)
here_or_apart g h c i d hc hd =
    elim (ℕ_discrete h i) [
      | no y ↦ inr (class_heaps_apart g h i c d hc hd (λ e z. y e))
      | yes y ↦
          elim (ℕ_discrete c d) [
            | no z ↦ inr (class_heaps_apart g h i c d hc hd (λ e w. z w))
            | yes z ↦ inl (ap₂ (class_heap g) (sym y) (sym z))
          ]
    ]

module _ {g : Shape} {t u : Tables} (o : Filled g t) {h c : ℕ} (hh : h < g.heaps) (hc : c < classes g)
    (only : OnlyMagazine t u (class_heap g h c)) where
  -- Spans and links are as they were.
  pub only_spans : SameSpans t u
  only_spans =
      record {
        bits = only.bits;
        used = only.used;
        spans = ap length only.spans;
        class = λ s. rw only.spans;
        owner = λ s. rw only.spans;
        occupied = λ s. rw only.spans;
      }

  only_links : (i d : ℕ) → i < g.heaps → d < classes g → Links t.used u.spans u.heads (class_heap g i d).row
  only_links i d hi hd =
      let r = filled_links o hi hd in
      record {
        room = rw only.spans r.room;
        previous = λ s l. rw only.spans (r.previous s l);
        next = λ s l. rw only.spans (r.next s l);
        rows = λ f l. rw only.heads_length (r.rows f l);
        fronts = λ f l. rw (other_list t u (class_heap g h c) (class_heap g i d) only f (omega arith)) (r.fronts f l);
      }

  -- Another magazine is as it was.
  only_others :
      (i d : ℕ) → i < g.heaps → d < classes g → Apart (class_heap g h c) (class_heap g i d) → MagazineSound u (class_heap g i d)
  only_others i d hi hd a =
      same_magazine only_spans (class_heap g i d) (other_count t u (class_heap g h c) (class_heap g i d) only a)
      (λ j l. other_entry t u (class_heap g h c) (class_heap g i d) only a j (omega (arith, l, count_within o hi hd)))
      (o.magazines i hi d hd)

  -- The table stays filled.
  pub only_filled : MagazineSound u (class_heap g h c) → Filled g u
  only_filled m =
      same_filled only_spans g o only.entries_length only.heads_length only_links
      (λ i d hi hd.
      ⊎_elim (λ e. subst (MagazineSound u) (sym e) m) (only_others i d hi hd) (here_or_apart g h c i d hc hd))

  -- A block of a used span keeps its state, if it stands in this magazine exactly as before.
  pub only_state :
      (x y : ℕ) →
      x < t.used →
      (Among t (class_heap g h c) (entry_of x y) → Among u (class_heap g h c) (entry_of x y)) →
      (Among u (class_heap g h c) (entry_of x y) → Among t (class_heap g h c) (entry_of x y)) →
      state_of g u x y ≡ state_of g t x y
  only_state x y l on back =
      let e = entry_of x y in
      let home = home_of g t x in
      let f = o.spans x l in
      let within = count_within o f.owner f.class in
      same_state only_spans g x y
      (⊎_elim
      (λ q. rw q (cached_as t u (class_heap g h c) e on back))
      (λ a.
      cached_as t u home e (other_among t u (class_heap g h c) home only a e within) (other_from t u (class_heap g h c) home only a e within))
      (here_or_apart g h c (owner_at t x) (class_at t x) hc f.class))

  -- An entry enters the magazine: its block becomes cached.
  pub enters :
      {e : ℕ} →
      Filled g u →
      Among u (class_heap g h c) e →
      ((x : ℕ) → Among t (class_heap g h c) x → Among u (class_heap g h c) x) →
      ((x : ℕ) → Among u (class_heap g h c) x → Among t (class_heap g h c) x ⊎ (x ≡ e)) →
      Becomes g t u (Block (entry_span e) (entry_slot e)) Cached
  enters {e} f new kept from =
      record {
        named = λ x y hx hy d. ap₂ (state_of g u) d.span d.slot ∙ among_is_cached f hh hc new;
        others =
            λ x y hx hy d.
            only_state x y hx (kept (entry_of x y))
            (λ a. ⊎_elim (λ s. s) (λ q. let r = names_block x hy q in absurd (d (record { span = r.0; slot = r.1 }))) (from (entry_of x y) a));
      }

  -- An entry leaves the magazine: its block becomes out.
  pub leaves :
      {e : ℕ} →
      Among t (class_heap g h c) e →
      (Among u (class_heap g h c) e → ⊥) →
      ((x : ℕ) → Among t (class_heap g h c) x → (x ≡ e → ⊥) → Among u (class_heap g h c) x) →
      ((x : ℕ) → Among u (class_heap g h c) x → Among t (class_heap g h c) x) →
      Becomes g t u (Block (entry_span e) (entry_slot e)) Out
  leaves {e} old gone kept from =
      record {
        named =
            λ x y hx hy d.
            ap₂ (state_of g u) d.span d.slot
            ∙ sound_out g u h c e (same_entry only_spans (class_heap g h c) e (among_sound o hh hc old)) gone;
        others =
            λ x y hx hy d.
            only_state x y hx (λ a. kept (entry_of x y) a (λ q. let r = names_block x hy q in d (record { span = r.0; slot = r.1 }))) (from (entry_of x y));
      }

-- A step that leaves spans as they were, but for their links: what is sound of a span, an entry and a magazine stays so, and a table stays filled if
-- its links and magazines are right. Assumes nothing.
use mathlib.Core.Path.{◌≡◌, sym, ap, ap₂, ◌∙◌}
use Prim.Native.Nat.{ℕ, ◌<◌}
use native.Mathlib.Omega.{arith}
use lib.ListN.{length}
use Rattle.tables.specs.declared.ClassHeap.{ClassHeap}
use Rattle.tables.specs.Shape.{Shape, classes, class_heap}
use Rattle.tables.specs.Cells.{Tables, class_at, owner_at, occupied_at, count_at, entry_at, entry_of, entry_span, entry_slot}
use Rattle.tables.proofs.StatedLaws.{stated_passes}
use Rattle.magazine.specs.Magazine.{is_cached}
use Rattle.linked_list.specs.Reach.{Links}
use Rattle.span.specs.State.{is_occupied, is_pending, state_of}
use Rattle.sound.specs.Sound.{home_of, SpanFilled, Belongs, EntrySound, MagazineSound}
use Rattle.sound.specs.Filled.{Filled}
use Rattle.filled_magazines.proofs.FilledFacts.{filled_shape, filled_lengths}

-- u has the spans of t, with other links at most
pub record SameSpans (t u : Tables) : Type 0 where
  pub bits : u.bits ≡ t.bits
  pub used : u.used ≡ t.used
  pub spans : length u.spans ≡ length t.spans
  pub class : (s : ℕ) → class_at u s ≡ class_at t s
  pub owner : (s : ℕ) → owner_at u s ≡ owner_at t s
  pub occupied : (s : ℕ) → occupied_at u s ≡ occupied_at t s

module _ {t u : Tables} (m : SameSpans t u) where
  -- The bits of a block, and the class and heap of a span, are as they were.
  pub same_occupied : (s q : ℕ) → is_occupied u s q ≡ is_occupied t s q
  same_occupied s q = rw m.bits

  pub same_pending : (s q : ℕ) → is_pending u s q ≡ is_pending t s q
  same_pending s q = rw m.bits

  pub same_home : (g : Shape) (s : ℕ) → home_of g u s ≡ home_of g t s
  same_home g s = ap₂ (class_heap g) (m.owner s) (m.class s)

  -- A span that belongs to a class of a heap still does.
  pub same_belongs : (k : ClassHeap) (s : ℕ) → Belongs t k s → Belongs u k s
  same_belongs k s b = record { used = rw m.used b.used; class = m.class s ∙ b.class; owner = m.owner s ∙ b.owner }

  -- A sound entry is still sound.
  pub same_entry : (k : ClassHeap) (e : ℕ) → EntrySound t k e → EntrySound u k e
  same_entry k e s =
      record {
        belongs = same_belongs k (entry_span e) s.belongs;
        in_range = s.in_range;
        occupied = same_occupied (entry_span e) (entry_slot e) ∙ s.occupied;
        not_pending = same_pending (entry_span e) (entry_slot e) ∙ s.not_pending;
      }

  -- The cells of a span are still right.
  pub same_span : (g : Shape) (s : ℕ) → SpanFilled g t s → SpanFilled g u s
  same_span g s f =
      record {
        class = rw (m.class s) f.class;
        owner = rw (m.owner s) f.owner;
        word = λ i h. rw m.bits (f.word i h);
        occupied = rw (m.occupied s, m.bits, same_home g s) f.occupied;
        past = λ q h l. rw m.bits (f.past q h (rw (same_home g s) at l));
        summary = λ i h. rw m.bits (f.summary i h);
        remote = λ i h. rw m.bits (f.remote i h);
        pending = λ q h e. rw (m.bits, same_home g s) (f.pending q h (sym (same_pending s q) ∙ e));
      }

  -- A magazine whose count and entries are as they were is still sound.
  pub same_magazine :
      (k : ClassHeap) →
      count_at u k ≡ count_at t k →
      ((i : ℕ) → i < count_at t k → entry_at u k i ≡ entry_at t k i) →
      MagazineSound t k →
      MagazineSound u k
  same_magazine k n e s =
      record {
        count = rw n s.count;
        entries = λ i h. let l : i < count_at t k = rw n at h in rw (e i l) (same_entry k (entry_at t k i) (s.entries i l));
        distinct =
            λ j h i l z.
            let w : j < count_at t k = rw n at h in s.distinct j w i l (sym (e i (omega arith)) ∙ z ∙ e j w);
      }

  -- A block's state is as it was, if it is cached exactly as before.
  pub same_state :
      (g : Shape) (s q : ℕ) →
      is_cached u (home_of g t s) (entry_of s q) ≡ is_cached t (home_of g t s) (entry_of s q) →
      state_of g u s q ≡ state_of g t s q
  unfolding state_of
  same_state g s q e = rw (same_home g s, e, m.bits)

  -- A filled table stays filled, if the links are in range and the magazines are sound.
  pub same_filled :
      (g : Shape) →
      Filled g t →
      length u.entries ≡ length t.entries →
      length u.heads ≡ length t.heads →
      ((h c : ℕ) → h < g.heaps → c < classes g → Links t.used u.spans u.heads (class_heap g h c).row) →
      ((h c : ℕ) → h < g.heaps → c < classes g → MagazineSound u (class_heap g h c)) →
      Filled g u
  same_filled g o en hn links magazines =
      let l = filled_lengths o in
      let first = links 0 0 (omega (arith, (filled_shape o).some_heap)) o.sizes.some in
      record {
        sizes = o.sizes;
        stated =
            stated_passes g u
            (record {
              shape = filled_shape o;
              lengths =
                  record {
                    bits = ap length m.bits ∙ l.bits;
                    spans = m.spans ∙ l.spans;
                    entries = en ∙ l.entries;
                    heads = hn ∙ l.heads;
                  };
            });
        within = rw m.used o.within;
        spans = λ s h. same_span g s (o.spans s (rw m.used at h));
        previous = λ s h. rw m.used (first.previous s (rw m.used at h));
        next = λ s h. rw m.used (first.next s (rw m.used at h));
        fronts = λ h hh c hc f hf. rw m.used ((links h c hh hc).fronts f hf);
        magazines = λ h hh c hc. magazines h c hh hc;
      }

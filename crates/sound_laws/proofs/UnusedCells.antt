-- "Unused spans and entries at or above a count may hold anything.": soundness looks at no such cell. Assumes nothing.
use mathlib.Core.Path.{◌≡◌, refl, sym, ap, ap₂, subst, ◌∙◌}
use mathlib.Core.Bool.{Bool, cond}
use mathlib.Core.List.{List, ◌∷◌}
use Prim.Native.Nat.{ℕ, zero, suc, ◌-◌, ◌/◌, ◌%◌, ◌<◌, ◌≤◌}
use native.Mathlib.Decide.{ℕ_discrete}
use native.Mathlib.Omega.{arith}
use lib.ListN.{get_or}
use borrow.Author.Tests.{eq-eqb, ne_eqb}
use Rattle.laws.specs.Links.{All, walk}
use Rattle.laws.specs.Members.{Mem}
use Rattle.laws.specs.Word.{is_set}
use Rattle.laws.proofs.ChainLaws.{chain_as}
use Rattle.laws.proofs.MemberLaws.{all_mem, mem_all}
use Rattle.laws.proofs.SumLaws.{sum_same}
use Rattle.size_classes.specs.Slots.{most_slots}
use Rattle.tables.specs.declared.ClassHeap.{ClassHeap}
use Rattle.tables.specs.Shape.{Shape, classes, class_heap, bitmap_cells}
use Rattle.tables.specs.Cells.{Tables, bitmap_word, local_word, remote_word, span_field, next_field, class_at, owner_at, occupied_at, next_at, head_cell, head_at, partial_list, full_list, empty_list, reserve, counter, count_at, entry_at, entry_span, entry_slot}
use Rattle.tables.proofs.CellLaws.{local_in, remote_in, summaries_in}
use Rattle.linked_list.specs.Lists.{list_of}
use Rattle.span.specs.State.{is_occupied, is_pending}
use Rattle.filled_magazines.proofs.FilledFacts.{slots_within}
use Rattle.sound.specs.Sound.{home_of, places_in, Belongs, SpanFilled, EntrySound, MagazineSound, ListSound, Partial, Full, Empty, ClassSound, Sound}

-- u has the heads and the number of spans of t, the cells of its used spans, and its entries below each count
pub record SameUsed (g : Shape) (t u : Tables) : Type 0 where
  pub heads : u.heads ≡ t.heads
  pub used : u.used ≡ t.used
  pub words : (s i : ℕ) → s < t.used → i < bitmap_cells → bitmap_word u s i ≡ bitmap_word t s i
  pub fields : (s f : ℕ) → s < t.used → f ≤ next_field → span_field u s f ≡ span_field t s f
  pub entries :
      (h c i : ℕ) → h < g.heaps → c < classes g → i < count_at t (class_heap g h c) →
      entry_at u (class_heap g h c) i ≡ entry_at t (class_heap g h c) i

word_below : (q : ℕ) → q < most_slots → q / 64 < 64
unfolding most_slots
word_below q h = omega arith

module _ (g : Shape) (t u : Tables) (m : SameUsed g t u) where
  module _ (s : ℕ) (hs : s < t.used) where
    same_class : class_at u s ≡ class_at t s
    same_class = m.fields s 0 hs (omega arith)

    same_owner : owner_at u s ≡ owner_at t s
    same_owner = m.fields s 1 hs (omega arith)

    same_count : occupied_at u s ≡ occupied_at t s
    same_count = m.fields s 2 hs (omega arith)

    same_home : home_of g u s ≡ home_of g t s
    same_home = ap₂ (class_heap g) same_owner same_class

    taken_same : (q : ℕ) → q < most_slots → is_occupied u s q ≡ is_occupied t s q
    taken_same q h = ap (λ (w : ℕ). is_set w (q % 64)) (m.words s _ hs (local_in (word_below q h)))

    waits_same : (q : ℕ) → q < most_slots → is_pending u s q ≡ is_pending t s q
    waits_same q h = ap (λ (w : ℕ). is_set w (q % 64)) (m.words s _ hs (remote_in (word_below q h)))

    span_filled_lem : SpanFilled g t s → SpanFilled g u s
    span_filled_lem f =
        record {
          class = rw same_class f.class;
          owner = rw same_owner f.owner;
          word = λ i h. rw (m.words s i hs h) (f.word i h);
          occupied =
              rw same_home
              (same_count
              ∙ f.occupied
              ∙ sum_same (home_of g t s).slots _ _
              (λ q h. ap (λ (b : Bool). cond b 1 0) (sym (taken_same q (omega (arith, h, slots_within g (owner_at t s) (class_at t s)))))));
          past = λ q h l. taken_same q h ∙ f.past q h (rw same_home at l);
          summary =
              λ i h. rw (m.words s 0 hs (summaries_in (omega arith)), m.words s (local_word i) hs (local_in h)) (f.summary i h);
          remote =
              λ i h. rw (m.words s 65 hs (summaries_in (omega arith)), m.words s (remote_word i) hs (remote_in h)) (f.remote i h);
          pending =
              λ q h e.
              let p = f.pending q h (sym (waits_same q h) ∙ e) in
              (rw same_home p.0, taken_same q h ∙ p.1);
        }

  belongs_same : (k : ClassHeap) (s : ℕ) → Belongs t k s → Belongs u k s
  belongs_same k s b =
      record { used = rw m.used b.used; class = same_class s b.used ∙ b.class; owner = same_owner s b.used ∙ b.owner }

  -- A walk of used spans is the same walk.
  walk_same :
      (k : ClassHeap) (n x : ℕ) → All (Belongs t k) (walk (next_at t) n x) → walk (next_at u) n x ≡ walk (next_at t) n x
  unfolding walk
  walk_same k zero x a = refl
  walk_same k (suc n) x a = go (ℕ_discrete x 0) (λ b r. ap (λ (l : List ℕ). (x - 1) ∷ l) (ap (walk (next_at u) n) (m.fields (x - 1) 4 b.used (omega arith)) ∙ walk_same k n (next_at t (x - 1)) r))
    where
      go :
          Dec (x ≡ 0) →
          (Belongs t k (x - 1) → All (Belongs t k) (walk (next_at t) n (next_at t (x - 1))) → (x - 1) ∷ walk (next_at u) n (next_at u (x - 1)) ≡ (x - 1) ∷ walk (next_at t) n (next_at t (x - 1))) →
          walk (next_at u) (suc n) x ≡ walk (next_at t) (suc n) x
      go (yes e) rest = rw (eq-eqb x 0 e) refl
      go (no q) rest =
          let b : All (Belongs t k) ((x - 1) ∷ walk (next_at t) n (next_at t (x - 1))) = rw (ne_eqb x 0 q) at a in
          rw (ne_eqb x 0 q) (rest b.0 b.1)

  front_same : (k : ClassHeap) (f : ℕ) → head_at u k f ≡ head_at t k f
  front_same k f = ap (λ (h : List ℕ). get_or h (head_cell k.row f) 0) m.heads

  list_same : (k : ClassHeap) (f : ℕ) → All (Belongs t k) (list_of t k f) → list_of u k f ≡ list_of t k f
  list_same k f a =
      ap₂ (λ (n x : ℕ). walk (next_at u) n x) m.used (front_same k f) ∙ walk_same k t.used (head_at t k f) a

  list_sound_lem : (k : ClassHeap) (f : ℕ) (Named : ℕ → Type 0) → ListSound t k f Named → ListSound u k f Named
  list_sound_lem k f Named o =
      let l : List ℕ = list_of t k f in
      let e : list_of u k f ≡ l = list_same k f o.own in
      let b : (s : ℕ) → Mem s l → Belongs t k s = all_mem (Belongs t k) l o.own in
      record {
        linked =
            rw (e, front_same k f)
            (chain_as l 0 (head_at t k f) (λ s i. m.fields s 3 (b s i).used (omega arith)) (λ s i. m.fields s 4 (b s i).used (omega arith)) o.linked);
        own = rw e (mem_all (Belongs u k) l (λ s i. belongs_same k s (b s i)));
        named =
            rw e
            (mem_all (λ s. Named (occupied_at u s)) l
            (λ s i. subst Named (sym (same_count s (b s i).used)) (all_mem (λ z. Named (occupied_at t z)) l o.named s i)));
      }

  entry_sound_lem : (h c e : ℕ) → h < g.heaps → c < classes g → EntrySound t (class_heap g h c) e → EntrySound u (class_heap g h c) e
  entry_sound_lem h c e hh hc o =
      let s : entry_span e < t.used = o.belongs.used in
      let q : entry_slot e < most_slots = omega (arith, o.in_range, slots_within g h c) in
      record {
        belongs = belongs_same _ _ o.belongs;
        in_range = o.in_range;
        occupied = taken_same (entry_span e) s (entry_slot e) q ∙ o.occupied;
        not_pending = waits_same (entry_span e) s (entry_slot e) q ∙ o.not_pending;
      }

  module _ (h c : ℕ) (hh : h < g.heaps) (hc : c < classes g) where
    abbrev k : ClassHeap
    k = class_heap g h c

    same_entry : (i : ℕ) → i < count_at u k → entry_at u k i ≡ entry_at t k i
    same_entry i l = m.entries h c i hh hc (rw (front_same k counter) at l)

    magazine_sound_lem : MagazineSound t k → MagazineSound u k
    magazine_sound_lem o =
        record {
          count = rw (front_same k counter) o.count;
          entries =
              λ i l.
              subst (EntrySound u k) (sym (same_entry i l)) (entry_sound_lem h c _ hh hc (o.entries i (rw (front_same k counter) at l)));
          distinct =
              λ j l i r e.
              o.distinct j (rw (front_same k counter) at l) i r (sym (same_entry i (omega arith)) ∙ e ∙ same_entry j l);
        }

    class_sound_lem : ClassSound t k → ClassSound u k
    class_sound_lem o =
        let a : All (Belongs t k) (list_of t k reserve) = o.kept.own in
        record {
          partial = list_sound_lem k partial_list (Partial k) o.partial;
          full = list_sound_lem k full_list (Full k) o.full;
          empty = list_sound_lem k empty_list Empty o.empty;
          kept = list_sound_lem k reserve Empty o.kept;
          alone =
              rw (list_same k reserve a)
              (mem_all (λ s. next_at u s ≡ 0) (list_of t k reserve)
              (λ s i.
              m.fields s 4 (all_mem (Belongs t k) (list_of t k reserve) a s i).used (omega arith)
              ∙ all_mem (λ z. next_at t z ≡ 0) (list_of t k reserve) o.alone s i));
          magazine = magazine_sound_lem o.magazine;
        }

  -- where a span stands in its own class's lists
  places_same : (o : Sound g t) (s : ℕ) → s < t.used → places_in u (home_of g u s) s ≡ places_in t (home_of g t s) s
  places_same o s h =
      let d : SpanFilled g t s = (o.spans s h).cells in
      let l : ClassSound t (home_of g t s) = o.class_heaps (owner_at t s) d.owner (class_at t s) d.class in
      rw
      (same_home s h, list_same (home_of g t s) partial_list l.partial.own, list_same (home_of g t s) full_list l.full.own, list_same (home_of g t s) empty_list l.empty.own, list_same (home_of g t s) reserve l.kept.own)

  -- Changing cells of unused spans, and entries at or above a count, keeps soundness.
  pub unused_kept : Sound g t → Sound g u
  unused_kept o =
      record {
        within = rw m.used o.within;
        spans =
            λ s h.
            let i : s < t.used = rw m.used at h in
            record { cells = span_filled_lem s i (o.spans s i).cells; listed = places_same o s i ∙ (o.spans s i).listed };
        class_heaps = λ h hh c hc. class_sound_lem h c hh hc (o.class_heaps h hh c hc);
      }

-- A step that changes the cells of one span alone: it keeps a table filled where that span is filled afterwards and its cached slots stay occupied
-- and not pending; and the blocks of every other span keep their state. Assumes nothing.
use mathlib.Core.Path.{◌≡◌, refl, sym, ap, ap₂, subst, ◌∙◌}
use mathlib.Core.Bool.{Bool, cond}
use mathlib.Core.List.{List}
use Prim.Native.Nat.{ℕ, ◌+◌, ◌/◌, ◌%◌, ◌<◌, ◌≤◌}
use native.Mathlib.Nat.{lt_of_lt_of_le, le_trans, div-add-mod'}
use native.Mathlib.Decide.{ℕ_discrete}
use native.Mathlib.Omega.{arith}
use lib.Dec.{eqb}
use lib.ListN.{length, get_or}
use Rattle.laws.specs.Choice.{some}
use Rattle.laws.specs.Word.{is_set}
use Rattle.laws.proofs.SumLaws.{sum_same}
use Rattle.size_classes.specs.Slots.{most_slots}
use Rattle.tables.specs.declared.ClassHeap.{ClassHeap}
use Rattle.tables.specs.Shape.{Shape, classes, class_heap, bitmap_cells}
use Rattle.tables.specs.Cells.{Tables, bitmap_word, local_summary, local_word, remote_summary, remote_word, span_field, class_field, owner_field, occupied_field, previous_field, next_field, previous_at, next_at, head_cell, counter, count_at, entry_at, entry_of, entry_span, entry_slot}
use Rattle.tables.proofs.CellLaws.{local_in, remote_in, summaries_in}
use Rattle.tables.proofs.StatedLaws.{stated_passed, stated_passes}
use Rattle.magazine.specs.Magazine.{is_cached}
use Rattle.span.specs.State.{is_occupied, is_pending, state_of}
use Rattle.sound.specs.Sound.{home_of, set_bits, SpanFilled, Belongs, EntrySound, MagazineSound}
use Rattle.sound.specs.Filled.{Filled}
use Rattle.sound.proofs.StateTests.{same_tests}
use Rattle.filled_spans.proofs.SpanValues.{slot_place, class_most, home_most}

-- from t to u no cell changed but those of span s
pub record OnlySpan (t u : Tables) (s : ℕ) : Type 0 where
  pub bits_length : length u.bits ≡ length t.bits
  pub spans_length : length u.spans ≡ length t.spans
  pub entries : u.entries ≡ t.entries
  pub heads : u.heads ≡ t.heads
  pub words : (r i : ℕ) → i < bitmap_cells → (r ≡ s → ⊥) → bitmap_word u r i ≡ bitmap_word t r i
  pub fields : (r f : ℕ) → f ≤ next_field → (r ≡ s → ⊥) → span_field u r f ≡ span_field t r f

-- and of span s its words and its count alone
pub record OnlyOccupancy (t u : Tables) (s : ℕ) : Type 0 where
  pub span : OnlySpan t u s
  pub used : u.used ≡ t.used
  pub own : (f : ℕ) → f ≤ next_field → (f ≡ occupied_field → ⊥) → span_field u s f ≡ span_field t s f

-- Nothing changed, and one such step after another.
pub only_none : (t : Tables) (s : ℕ) → OnlyOccupancy t t s
only_none t s =
    record {
      span =
          record {
            bits_length = refl;
            spans_length = refl;
            entries = refl;
            heads = refl;
            words = λ r i h n. refl;
            fields = λ r k h n. refl;
          };
      used = refl;
      own = λ k h n. refl;
    }

pub only_then : (t u v : Tables) (s : ℕ) → OnlyOccupancy t u s → OnlyOccupancy u v s → OnlyOccupancy t v s
only_then t u v s a b =
    record {
      span =
          record {
            bits_length = b.span.bits_length ∙ a.span.bits_length;
            spans_length = b.span.spans_length ∙ a.span.spans_length;
            entries = b.span.entries ∙ a.span.entries;
            heads = b.span.heads ∙ a.span.heads;
            words = λ r i h n. b.span.words r i h n ∙ a.span.words r i h n;
            fields = λ r k h n. b.span.fields r k h n ∙ a.span.fields r k h n;
          };
      used = b.used ∙ a.used;
      own = λ k h n. b.own k h n ∙ a.own k h n;
    }

-- Every field of every span but the count of s is as it was.
pub only_field :
    {t u : Tables} {s : ℕ} → OnlyOccupancy t u s → (r f : ℕ) → f ≤ next_field → (f ≡ occupied_field → ⊥) → span_field u r f ≡ span_field t r f
only_field {t} {u} {s} o r f l n =
    elim (ℕ_discrete r s) [
      | yes e ↦ subst (λ (x : ℕ). span_field u x f ≡ span_field t x f) (sym e) (o.own f l n)
      | no e ↦ o.span.fields r f l e
    ]

-- So each span is of the class and heap that it was of.
pub only_belongs : {t u : Tables} {s : ℕ} → OnlyOccupancy t u s → (k : ClassHeap) (r : ℕ) → Belongs t k r → Belongs u k r
only_belongs o k r b =
    record {
      used = rw o.used b.used;
      class = only_field o r class_field (omega arith) (λ e. omega (arith, e)) ∙ b.class;
      owner = only_field o r owner_field (omega arith) (λ e. omega (arith, e)) ∙ b.owner;
    }

-- An entry is that of its span and its slot.
pub entry_whole : (e : ℕ) → entry_of (entry_span e) (entry_slot e) ≡ e
unfolding entry_of entry_span entry_slot
entry_whole e = div-add-mod' e most_slots

module _ (g : Shape) (t u : Tables) (s : ℕ) (only : OnlySpan t u s) where
  -- Every magazine holds what it held.
  pub same_cached : (k : ClassHeap) (e : ℕ) → is_cached u k e ≡ is_cached t k e
  unfolding is_cached
  same_cached k e =
      λ i. some (get_or (only.heads i) (head_cell k.row counter) 0) (λ j. eqb (get_or (only.entries i) (k.base + j) 0) e)

  module _ (r : ℕ) (n : r ≡ s → ⊥) where
    -- Another span keeps its class and owner, its bits, and the state of its blocks.
    other_home : home_of g u r ≡ home_of g t r
    other_home = ap₂ (class_heap g) (only.fields r owner_field (omega arith) n) (only.fields r class_field (omega arith) n)

    other_occupied : (q : ℕ) → q < most_slots → is_occupied u r q ≡ is_occupied t r q
    other_occupied q h = ap (λ (z : ℕ). is_set z (q % 64)) (only.words r (local_word (q / 64)) (local_in (slot_place h)) n)

    other_pending_lem : (q : ℕ) → q < most_slots → is_pending u r q ≡ is_pending t r q
    other_pending_lem q h = ap (λ (z : ℕ). is_set z (q % 64)) (only.words r (remote_word (q / 64)) (remote_in (slot_place h)) n)

    pub other_state : (q : ℕ) → q < most_slots → state_of g u r q ≡ state_of g t r q
    other_state q h =
        same_tests g t u r q (other_occupied q h) (other_pending_lem q h)
        (ap (λ (k : ClassHeap). is_cached u k (entry_of r q)) other_home ∙ same_cached (home_of g t r) (entry_of r q))

    -- And it stays filled.
    other_filled : SpanFilled g t r → SpanFilled g u r
    other_filled c =
        record {
          class = rw (only.fields r class_field (omega arith) n) c.class;
          owner = rw (only.fields r owner_field (omega arith) n) c.owner;
          word = λ i h. rw (only.words r i h n) (c.word i h);
          occupied =
              only.fields r occupied_field (omega arith) n
              ∙ c.occupied
              ∙ sym
              (sum_same (home_of g t r).slots (λ q. cond (is_occupied u r q) 1 0) (λ q. cond (is_occupied t r q) 1 0)
              (λ q l. ap (λ (b : Bool). cond b 1 0) (other_occupied q (lt_of_lt_of_le l (home_most g t r)))))
              ∙ ap (λ (k : ClassHeap). set_bits u r k.slots) (sym other_home);
          past =
              λ q h l. other_occupied q h ∙ c.past q h (subst (λ (k : ClassHeap). k.slots ≤ q) other_home l);
          summary =
              λ i h.
              rw (only.words r local_summary (summaries_in (omega arith)) n, only.words r (local_word i) (local_in h) n) (c.summary i h);
          remote =
              λ i h.
              rw (only.words r remote_summary (summaries_in (omega arith)) n, only.words r (remote_word i) (remote_in h) n) (c.remote i h);
          pending =
              λ q h e.
              let k = c.pending q h (sym (other_pending_lem q h) ∙ e) in
              (subst (λ (k : ClassHeap). q < k.slots) (sym other_home) k.0, other_occupied q h ∙ k.1);
        }

  -- An entry of another span stays sound.
  other_entry : (k : ClassHeap) (e : ℕ) → t.used ≤ u.used → (entry_span e ≡ s → ⊥) → k.slots ≤ most_slots → EntrySound t k e → EntrySound u k e
  other_entry k e more n most c =
      let r = entry_span e in
      let q = entry_slot e in
      let h : q < most_slots = lt_of_lt_of_le c.in_range most in
      record {
        belongs =
            record {
              used = lt_of_lt_of_le c.belongs.used more;
              class = only.fields r class_field (omega arith) n ∙ c.belongs.class;
              owner = only.fields r owner_field (omega arith) n ∙ c.belongs.owner;
            };
        in_range = c.in_range;
        occupied = other_occupied r n q h ∙ c.occupied;
        not_pending = other_pending_lem r n q h ∙ c.not_pending;
      }

-- what a table is after a step that changed span s alone, so that it is filled: u may use one span more, s itself
pub record Refilled (g : Shape) (t u : Tables) (s : ℕ) : Type 0 where
  pub within : u.used ≤ g.spans
  pub more : t.used ≤ u.used
  pub old : (r : ℕ) → r < u.used → (r ≡ s → ⊥) → r < t.used
  pub span : SpanFilled g u s
  pub previous : previous_at u s ≤ u.used
  pub next : next_at u s ≤ u.used
  pub entries :
      (h : ℕ) →
      h < g.heaps →
      (c : ℕ) →
      c < classes g →
      (i : ℕ) →
      i < count_at t (class_heap g h c) →
      entry_span (entry_at t (class_heap g h c) i) ≡ s →
      EntrySound u (class_heap g h c) (entry_at t (class_heap g h c) i)

module _ (g : Shape) (t u : Tables) (s : ℕ) (only : OnlySpan t u s) (f : Filled g t) (now : Refilled g t u s) where
  -- A magazine stays sound.
  magazine_kept : (h : ℕ) → h < g.heaps → (c : ℕ) → c < classes g → MagazineSound u (class_heap g h c)
  magazine_kept h hh c hc =
      let k = class_heap g h c in
      let m = f.magazines h hh c hc in
      let count : count_at u k ≡ count_at t k = ap (λ (l : List ℕ). get_or l (head_cell k.row counter) 0) only.heads in
      record {
        count = rw count m.count;
        entries =
            λ i l.
            subst (EntrySound u k) (ap (λ (x : List ℕ). get_or x (k.base + i) 0) (sym only.entries))
            (entry i (rw count at l) (ℕ_discrete (entry_span (entry_at t k i)) s));
        distinct = λ j l i d. rw only.entries (m.distinct j (rw count at l) i d);
      }
    where
      entry : (i : ℕ) → i < count_at t (class_heap g h c) → Dec (entry_span (entry_at t (class_heap g h c) i) ≡ s) → EntrySound u (class_heap g h c) (entry_at t (class_heap g h c) i)
      entry i l (yes e) = now.entries h hh c hc i l e
      entry i l (no n) =
          other_entry g t u s only (class_heap g h c) (entry_at t (class_heap g h c) i) now.more n (class_most g h c)
          ((f.magazines h hh c hc).entries i l)

  -- Such a step keeps a table filled.
  pub filled_after : Filled g u
  filled_after =
      let stated = stated_passed g t f.stated in
      record {
        sizes = f.sizes;
        stated =
            stated_passes g u
            (record {
              shape = stated.shape;
              lengths =
                  record {
                    bits = only.bits_length ∙ stated.lengths.bits;
                    spans = only.spans_length ∙ stated.lengths.spans;
                    entries = ap length only.entries ∙ stated.lengths.entries;
                    heads = ap length only.heads ∙ stated.lengths.heads;
                  };
            });
        within = now.within;
        spans =
            λ r h.
            elim (ℕ_discrete r s) [
              | yes e ↦ subst (SpanFilled g u) (sym e) now.span
              | no n ↦ other_filled g t u s only r n (f.spans r (now.old r h n))
            ];
        previous =
            λ r h.
            elim (ℕ_discrete r s) [
              | yes e ↦ subst (λ (z : ℕ). previous_at u z ≤ u.used) (sym e) now.previous
              | no n ↦ rw (only.fields r previous_field (omega arith) n) (le_trans (f.previous r (now.old r h n)) now.more)
            ];
        next =
            λ r h.
            elim (ℕ_discrete r s) [
              | yes e ↦ subst (λ (z : ℕ). next_at u z ≤ u.used) (sym e) now.next
              | no n ↦ rw (only.fields r next_field (omega arith) n) (le_trans (f.next r (now.old r h n)) now.more)
            ];
        fronts = λ h hh c hc i l. rw only.heads (le_trans (f.fronts h hh c hc i l) now.more);
        magazines = magazine_kept;
      }

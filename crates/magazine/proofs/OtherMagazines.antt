-- A step of one magazine leaves every other magazine, every list head, the spans and the bits as they were, and its own room. Assumes nothing.
use mathlib.Core.Path.{◌≡◌, refl, sym, ◌∙◌}
use mathlib.Core.List.{List, [], ◌∷◌}
use Prim.Native.Nat.{ℕ, ◌+◌, ◌-◌, ◌<◌, ◌≤◌}
use native.Mathlib.Omega.{arith}
use lib.ListN.{length, length-set}
use lib.Seq.{get_or-set_other}
use Rattle.tables.specs.declared.ClassHeap.{ClassHeap}
use Rattle.tables.specs.Shape.{Shape, classes, class_heap}
use Rattle.tables.specs.Cells.{Tables, head_cell, counter, count_at, head_at, set_head, entry_at, set_entry}
use Rattle.tables.specs.Stated.{Stated}
use Rattle.tables.proofs.CellLaws.{head_same, list_in, rows_same}
use Rattle.tables.proofs.MagazineCells.{base_same}
use Rattle.tables.proofs.StatedLaws.{head_stated, base_stated}
use Rattle.magazine.specs.Magazine.{push_entry, push_entries, pop_entry, drawn_at, top_entry, draw_entry}
use Rattle.magazine.specs.Room.{Room}
use Rattle.magazine.specs.Held.{Among, Distinct, Apart, OnlyMagazine}
use Rattle.magazine.proofs.MagazineLaws.{push_count, pop_count, draw_count_lem, drawn_below}

-- ---- the magazines of a table

-- In a table as stated each class of each heap has room, if its count is within the capacity.
pub room_stated :
    (g : Shape) (t : Tables) {h c : ℕ} →
    Stated g t →
    h < g.heaps →
    c < classes g →
    count_at t (class_heap g h c) ≤ (class_heap g h c).capacity →
    Room t.entries t.heads (class_heap g h c)
unfolding class_heap
room_stated g t s hh hc l = record { row = head_stated g t s hh hc (omega arith); held = l; fits = base_stated g t s hh hc }

-- Two classes, or one class of two heaps, have magazines apart.
pub class_heaps_apart :
    (g : Shape) (h i c d : ℕ) →
    c < classes g →
    d < classes g →
    (h ≡ i → c ≡ d → ⊥) →
    Apart (class_heap g h c) (class_heap g i d)
unfolding class_heap
class_heaps_apart g h i c d hc hd n =
    record {
      rows = λ e. let r = rows_same g h i c d hc hd e in n r.0 r.1;
      ranges = λ x y hx hy e. let r = base_same g h i c d hc hd hx hy e in n r.0 r.1;
    }

-- ---- only this magazine

-- Nothing changed, and one change after another.
pub only_none : (t : Tables) (k : ClassHeap) → OnlyMagazine t t k
only_none t k =
    record {
      bits = refl;
      spans = refl;
      used = refl;
      entries_length = refl;
      heads_length = refl;
      heads = λ r f h n. refl;
      entries = λ p n. refl;
    }

pub only_then : (t u v : Tables) (k : ClassHeap) → OnlyMagazine t u k → OnlyMagazine u v k → OnlyMagazine t v k
only_then t u v k a b =
    record {
      bits = b.bits ∙ a.bits;
      spans = b.spans ∙ a.spans;
      used = b.used ∙ a.used;
      entries_length = b.entries_length ∙ a.entries_length;
      heads_length = b.heads_length ∙ a.heads_length;
      heads = λ r f h n. b.heads r f h n ∙ a.heads r f h n;
      entries = λ p n. b.entries p n ∙ a.entries p n;
    }

-- A store to its count, and one at a place of the magazine.
pub only_counted : (t : Tables) (k : ClassHeap) (n : ℕ) → OnlyMagazine t (set_head t k counter n) k
only_counted t k n =
    record {
      bits = refl;
      spans = refl;
      used = refl;
      entries_length = refl;
      heads_length = length-set t.heads (head_cell k.row counter) n;
      heads =
          λ r f hf z.
          get_or-set_other t.heads (head_cell k.row counter) (head_cell r f) n 0
          (λ e. let q = head_same r k.row hf (list_in {f = counter} (omega arith)) e in z q.0 q.1);
      entries = λ p z. refl;
    }

pub only_placed : (t : Tables) (k : ClassHeap) (i v : ℕ) → i < k.capacity → OnlyMagazine t (set_entry t k i v) k
only_placed t k i v h =
    record {
      bits = refl;
      spans = refl;
      used = refl;
      entries_length = length-set t.entries (k.base + i) v;
      heads_length = refl;
      heads = λ r f hf z. refl;
      entries = λ p z. get_or-set_other t.entries (k.base + i) p v 0 (λ e. z i h e);
    }

-- A push, a pop and a draw.
module _ (t : Tables) (k : ClassHeap) where
  pub push_only : (e : ℕ) → count_at t k < k.capacity → OnlyMagazine t (push_entry t k e) k
  unfolding push_entry
  push_only e free =
      let u = set_entry t k (count_at t k) e in
      only_then t u (set_head u k counter (count_at t k + 1)) k (only_placed t k (count_at t k) e free) (only_counted u k (count_at t k + 1))

  pub pop_only : OnlyMagazine t (pop_entry t k) k
  unfolding pop_entry
  pop_only = only_counted t k (count_at t k - 1)

  pub draw_only : (word : ℕ) → Room t.entries t.heads k → 0 < count_at t k → OnlyMagazine t (draw_entry t k word) k
  unfolding draw_entry
  draw_only word m some =
      let u = set_entry t k (drawn_at t k word) (top_entry t k) in
      let within : drawn_at t k word < k.capacity = omega (arith, drawn_below t k m some word, m.held) in
      only_then t u (set_head u k counter (count_at t k - 1)) k (only_placed t k (drawn_at t k word) (top_entry t k) within)
      (only_counted u k (count_at t k - 1))

-- ---- the room of this magazine is kept

-- A change of this magazine alone keeps its room, if the count stays within the capacity.
pub only_room :
    (t u : Tables) (k : ClassHeap) →
    OnlyMagazine t u k →
    Room t.entries t.heads k →
    count_at u k ≤ k.capacity →
    Room u.entries u.heads k
only_room t u k o m h = record { row = omega (arith, m.row, o.heads_length); held = h; fits = omega (arith, m.fits, o.entries_length) }

module _ (t : Tables) (k : ClassHeap) (m : Room t.entries t.heads k) where
  pub push_room : (e : ℕ) → count_at t k < k.capacity → Room (push_entry t k e).entries (push_entry t k e).heads k
  push_room e free = only_room t (push_entry t k e) k (push_only t k e free) m (omega (arith, push_count t k m e free))

  pub pop_room : 0 < count_at t k → Room (pop_entry t k).entries (pop_entry t k).heads k
  pop_room some = only_room t (pop_entry t k) k (pop_only t k) m (omega (arith, pop_count t k m some, m.held))

  pub draw_room : 0 < count_at t k → (word : ℕ) → Room (draw_entry t k word).entries (draw_entry t k word).heads k
  draw_room some word =
      only_room t (draw_entry t k word) k (draw_only t k word m some) m (omega (arith, draw_count_lem t k m some word, m.held))

pub pushes_only :
    (es : List ℕ) (t : Tables) (k : ClassHeap) →
    Room t.entries t.heads k →
    count_at t k + length es ≤ k.capacity →
    OnlyMagazine t (push_entries es t k) k
unfolding push_entries
pushes_only [] t k m h = only_none t k
pushes_only (e ∷ es) t k m h =
    let free : count_at t k < k.capacity = omega arith in
    only_then t (push_entry t k e) (push_entries es (push_entry t k e) k) k (push_only t k e free)
    (pushes_only es (push_entry t k e) k (push_room t k m e free) (omega (arith, push_count t k m e free)))

-- ---- another magazine

module _ (t u : Tables) (k l : ClassHeap) (o : OnlyMagazine t u k) where
  -- List heads stay, whosever they are.
  pub other_list : (f : ℕ) → f < counter → head_at u l f ≡ head_at t l f
  other_list f h = o.heads l.row f (list_in {f = f} (omega arith)) (λ e z. omega (arith, h, z))

  module _ (a : Apart k l) where
    -- The other magazine's count, entries and what it holds stay.
    pub other_count : count_at u l ≡ count_at t l
    other_count = o.heads l.row counter (list_in {f = counter} (omega arith)) (λ e z. a.rows (sym e))

    pub other_entry : (i : ℕ) → i < l.capacity → entry_at u l i ≡ entry_at t l i
    other_entry i h = o.entries (l.base + i) (λ j hj e. a.ranges j i hj h (sym e))

    pub other_room : Room t.entries t.heads l → Room u.entries u.heads l
    other_room m =
        record {
          row = omega (arith, m.row, o.heads_length);
          held = omega (arith, m.held, other_count);
          fits = omega (arith, m.fits, o.entries_length);
        }

    pub other_among : (x : ℕ) → count_at t l ≤ l.capacity → Among t l x → Among u l x
    other_among x h s =
        record {
          place = s.place;
          below = omega (arith, s.below, other_count);
          is = other_entry s.place (omega (arith, s.below)) ∙ s.is;
        }

    pub other_from : (x : ℕ) → count_at t l ≤ l.capacity → Among u l x → Among t l x
    other_from x h s =
        let b : s.place < count_at t l = omega (arith, s.below, other_count) in
        record { place = s.place; below = b; is = sym (other_entry s.place (omega arith)) ∙ s.is }

    pub other_distinct : count_at t l ≤ l.capacity → Distinct t l → Distinct u l
    other_distinct h d =
        record {
          apart =
              λ j hj i l' z.
              let b : j < count_at t l = omega (arith, hj, other_count) in
              d.apart j b i l' (sym (other_entry i (omega arith)) ∙ z ∙ other_entry j (omega arith));
        }

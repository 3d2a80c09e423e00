-- Spans of a class of a heap that leave a list, enter one, and are at home there. Assumes nothing.
use mathlib.Core.Path.{◌≡◌, refl, sym, ap, ap₂, subst, ◌∙◌}
use Prim.Native.Nat.{ℕ, ◌+◌, ◌<◌, ◌≤◌}
use native.Mathlib.Omega.{arith}
use native.Mathlib.Decide.{ℕ_discrete}
use lib.Seq.{get_or-set_same}
use Rattle.laws.specs.Listed.{changed}
use Rattle.laws.proofs.ListedLaws.{changed_same, changed_other}
use Rattle.occupancy.proofs.RightLaws.{count_most}
use Rattle.tables.specs.declared.ClassHeap.{ClassHeap}
use Rattle.tables.specs.Shape.{Shape, classes, row_of, class_heap}
use Rattle.tables.specs.Cells.{Tables, class_at, owner_at, occupied_at, head_cell, head_at, set_head, partial_list, full_list, empty_list, reserve}
use Rattle.tables.proofs.CellLaws.{head_same, list_in, rows_same}
use Rattle.linked_list.specs.Lists.{push, remove}
use Rattle.linked_list.specs.Reach.{Links}
use Rattle.linked_list.specs.Named.{RowName, ListName, ReserveName, no_list}
use Rattle.linked_list.proofs.ReachLaws.{head_here}
use Rattle.linked_list.proofs.ListCells.{remove_removed}
use Rattle.linked_list.proofs.ListedKept.{no_list_lem, list_name, row_name, push_listed, put_listed, remove_listed, take_listed}
use Rattle.linked_list.proofs.QuietLaws.{push_quiet, remove_quiet, head_quiet}
use Rattle.span.specs.Span.{loaded}
use Rattle.sound.specs.Sound.{home_of, Belongs}
use Rattle.sound.specs.Filled.{Filled}
use Rattle.filled_magazines.proofs.FilledFacts.{home_class, home_owner, slots_some, belongs_home, filled_links}
use Rattle.filled_magazines.proofs.SameSpans.{same_belongs}
use Rattle.filled_magazines.proofs.ListSteps.{quiet_spans, push_filled, remove_filled, front_none_filled, front_span_filled}
use Rattle.filled_spans.proofs.SpanValues.{filled_right}
use Rattle.homes.specs.Homes.{Fits, AtHome, Near, Whole, Loose, But, Ready}
use Rattle.homes.proofs.FitsLaws.{full_fits, partial_fits}
use Rattle.homes.proofs.HomesFrame.{near_but, near_moved}

-- a span in no list of the table
pub unlisted : (home : ℕ → ℕ) (g : Shape) (a : ℕ) → home a ≡ no_list → ListName (RowName g) (home a) → ⊥
unlisted home g a e l = no_list_lem (RowName g) (subst (ListName (RowName g)) e l)

-- the row of a class of a heap
pub row_named : (g : Shape) (h c : ℕ) → (class_heap g h c).row ≡ row_of g h c
unfolding class_heap
row_named g h c = refl

-- a span of a class of a heap has its row
pub belongs_row : (g : Shape) (t : Tables) (h c : ℕ) {s : ℕ} → Belongs t (class_heap g h c) s → row_of g (owner_at t s) (class_at t s) ≡ (class_heap g h c).row
unfolding class_heap
belongs_row g t h c b = ap₂ (row_of g) b.owner b.class

-- a class of a heap
module _ {g : Shape} {h c : ℕ} (hh : h < g.heaps) (hc : c < classes g) where
  -- it has a row
  pub class_row : RowName g (class_heap g h c).row
  class_row = unfold class_heap in row_name g hh hc

  -- and lists
  pub class_list_lem : {f : ℕ} → f ≤ reserve → ListName (RowName g) (head_cell (class_heap g h c).row f)
  class_list_lem hf = list_name (class_heap g h c).row class_row hf

  module _ {t : Tables} where
    -- no more slots of a used span of it are occupied than it has
    pub count_within_slots : {s : ℕ} → Filled g t → Belongs t (class_heap g h c) s → occupied_at t s ≤ (class_heap g h c).slots
    count_within_slots {s} w b =
        subst (λ (k : ClassHeap). occupied_at t s ≤ k.slots) (belongs_home g t h c s b)
        (count_most (home_of g t s).slots (loaded t s) (filled_right g t w s b.used))

    -- a span of it in a list that it may be in is at home
    pub at_home : {f s d : ℕ} → Belongs t (class_heap g h c) s → d ≡ head_cell (class_heap g h c).row f → Fits f (occupied_at t s) (class_heap g h c).slots → AtHome g t s d
    at_home {f} {s} b e fits =
        record {
          kind = f;
          cell = e ∙ ap (λ (r : ℕ). head_cell r f) (sym (belongs_row g t h c b));
          fits = subst (λ (k : ClassHeap). Fits f (occupied_at t s) k.slots) (sym (belongs_home g t h c s b)) fits;
        }

    -- a span that may be in the list it is in leaves the table whole
    pub settle : {f a : ℕ} → Loose g t (class_heap g h c) f a → Fits f (occupied_at t a) (class_heap g h c).slots → Whole g t
    settle {f} {a} o fits =
        record {
          home = o.home;
          rank = o.rank;
          near = record { filled = o.near.filled; listed = o.near.listed; homes = λ s l n. at s l (ℕ_discrete s a) };
        }
      where
        at : (s : ℕ) → s < t.used → Dec (s ≡ a) → AtHome g t s (o.home s)
        at s l (yes e) = subst (λ (x : ℕ). AtHome g t x (o.home x)) (sym e) (at_home o.belongs o.mine fits)
        at s l (no n) = o.near.homes s l (λ q. n (omega arith))

    -- a span at home in a list of it is of it, and has a count that the list's name says
    pub member_near :
        {home rank : ℕ → ℕ} {x f a : ℕ} → Near g t home rank x → (a + 1 ≡ x → ⊥) → f ≤ reserve →
        home a ≡ head_cell (class_heap g h c).row f → Belongs t (class_heap g h c) a × Fits f (occupied_at t a) (class_heap g h c).slots
    member_near {home} {rank} {x} {f} {a} o n hf e =
        let l : ListName (RowName g) (home a) = rw e (class_list_lem hf) in
        let u : a < t.used = o.listed.within a l in
        let y : AtHome g t a (home a) = o.homes a u n in
        let d = head_same (row_of g (owner_at t a) (class_at t a)) (class_heap g h c).row (list_in (omega (arith, y.fits.low))) (list_in (omega arith)) (sym y.cell ∙ e) in
        let r = rows_same g (owner_at t a) h (class_at t a) c (o.filled.spans a u).class hc (d.0 ∙ row_named g h c) in
        let b : Belongs t (class_heap g h c) a = record { used = u; class = r.1 ∙ sym (home_class g h c); owner = r.0 ∙ sym (home_owner g h c) } in (
          b,
          subst (λ (k : ClassHeap). Fits f (occupied_at t a) k.slots) (belongs_home g t h c a b)
              (subst (λ (f : ℕ). Fits f (occupied_at t a) (home_of g t a).slots) d.1 y.fits),
        )

    -- the same of a whole table
    pub member :
        {f a : ℕ} (o : Whole g t) → f ≤ reserve → o.home a ≡ head_cell (class_heap g h c).row f →
        Loose g t (class_heap g h c) f a × Fits f (occupied_at t a) (class_heap g h c).slots
    member {f} {a} o hf e =
        let m = member_near o.near (λ q. omega arith) hf e in
        (record { home = o.home; rank = o.rank; near = near_but (a + 1) o.near; belongs = m.0; mine = e }, m.1)

    -- the front of a list of it
    pub front_member :
        {f a : ℕ} → Whole g t → f ≤ reserve → head_at t (class_heap g h c) f ≡ a + 1 → Loose g t (class_heap g h c) f a × Fits f (occupied_at t a) (class_heap g h c).slots
    front_member {f} {a} o hf e = member o hf (o.near.listed.front (head_cell (class_heap g h c).row f) a (class_list_lem hf) e).mine

    -- a span of it is in a list of it, by its count
    module _ {a : ℕ} (o : Whole g t) (b : Belongs t (class_heap g h c) a) where
      -- it is at home
      abbrev here : AtHome g t a (o.home a)
      here = o.near.homes a b.used (λ q. omega arith)

      -- which list
      abbrev pub own_kind : ℕ
      own_kind = here.kind

      -- its head
      pub own_cell : o.home a ≡ head_cell (class_heap g h c).row own_kind
      own_cell = here.cell ∙ ap (λ (r : ℕ). head_cell r own_kind) (belongs_row g t h c b)

      -- the count is as its name says
      pub own_fits : Fits own_kind (occupied_at t a) (class_heap g h c).slots
      own_fits = subst (λ (k : ClassHeap). Fits own_kind (occupied_at t a) k.slots) (belongs_home g t h c a b) here.fits

      -- so it is that span in that list, whatever its count becomes
      pub own_loose : Loose g t (class_heap g h c) own_kind a
      own_loose = (member o own_fits.low own_cell).0

      -- a full one is at home in the full list
      pub full_home : occupied_at t a ≡ (class_heap g h c).slots → o.home a ≡ head_cell (class_heap g h c).row full_list
      full_home e = own_cell ∙ ap (head_cell (class_heap g h c).row) (full_fits own_fits (slots_some g h c) e)

      -- the same, whatever its count becomes
      pub full_loose : occupied_at t a ≡ (class_heap g h c).slots → Loose g t (class_heap g h c) full_list a
      full_loose e = (member o (omega arith) (full_home e)).0

      -- and one neither empty nor full is in the partial list
      pub partial_loose : 0 < occupied_at t a → occupied_at t a < (class_heap g h c).slots → Loose g t (class_heap g h c) partial_list a
      partial_loose lo hi = (member o (omega arith) (own_cell ∙ ap (head_cell (class_heap g h c).row) (partial_fits own_fits lo hi))).0

  -- ---- push and remove

  module _ {t : Tables} where
    -- its links are in range
    pub reach : Filled g t → Links t.used t.spans t.heads (class_heap g h c).row
    reach w = filled_links w hh hc

    -- a span in no list, pushed, is in that list, whatever its count
    pub push_kept : {f a : ℕ} → f ≤ empty_list → But g t (class_heap g h c) a → Loose g (push t (class_heap g h c) f a) (class_heap g h c) f a
    push_kept {f} {a} hf o =
        let w = o.near.filled in
        let le : f ≤ reserve = omega arith in
        let u = o.belongs.used in
        let q = push_quiet t (class_heap g h c) f le a in
        record {
          home = changed o.home a (head_cell (class_heap g h c).row f);
          rank = _;
          near =
              near_moved o.near q (push_filled w hh hc le u)
              (push_listed t (class_heap g h c) f (reach w) le class_row o.near.listed a u (unlisted o.home g a o.out) (λ e. absurd (let z : ⊥ = omega arith in z)) u)
              (λ s n. changed_other o.home a (head_cell (class_heap g h c).row f) s (λ e. n (omega arith)));
          belongs = same_belongs (quiet_spans q) (class_heap g h c) a o.belongs;
          mine = changed_same o.home a (head_cell (class_heap g h c).row f);
        }

    -- the pushed span is the front
    pub push_front : {f : ℕ} (a : ℕ) → f ≤ reserve → Filled g t → head_at (push t (class_heap g h c) f a) (class_heap g h c) f ≡ a + 1
    push_front {f} a hf w = unfold push in get_or-set_same t.heads (head_cell (class_heap g h c).row f) (a + 1) 0 (head_here (reach w) hf)

    -- an empty span in no list, pushed to partial, makes the table ready
    pub push_ready : {a : ℕ} → But g t (class_heap g h c) a → occupied_at t a ≡ 0 → Ready g (push t (class_heap g h c) partial_list a) (class_heap g h c)
    push_ready {a} o e =
        record {
          span = a;
          loose = push_kept (omega arith) o;
          front = push_front a (omega arith) o.near.filled;
          room = rw (push_count a, e) (slots_some g h c);
        }
      where
        push_count : (s : ℕ) → occupied_at (push t (class_heap g h c) partial_list a) s ≡ occupied_at t s
        push_count s = (quiet_spans (push_quiet t (class_heap g h c) partial_list (omega arith) a)).occupied s

    -- a span of a list, removed, is in no list and has no links
    pub remove_kept : {f a : ℕ} → f ≤ reserve → Loose g t (class_heap g h c) f a → But g (remove t (class_heap g h c) f a) (class_heap g h c) a
    remove_kept {f} {a} hf o =
        let w = o.near.filled in
        let u = o.belongs.used in
        let q = remove_quiet t (class_heap g h c) f hf a in
        let l = o.near.listed in
        let i : ListName (RowName g) (o.home a) = rw o.mine (class_list_lem hf) in
        let r = remove_removed t (class_heap g h c) f a (reach w) hf u (λ e. omega (arith, (l.after a a i e).lower)) (λ e. omega (arith, (l.after a a i (l.before a a i e).on).lower)) in
        record {
          home = changed o.home a no_list;
          rank = o.rank;
          near =
              near_moved o.near q (remove_filled w hh hc hf u) (remove_listed t (class_heap g h c) f (reach w) hf class_row l a o.mine u)
              (λ s n. changed_other o.home a no_list s (λ e. n (omega arith)));
          belongs = same_belongs (quiet_spans q) (class_heap g h c) a o.belongs;
          out = changed_same o.home a no_list;
          top = r.top;
          down = r.down;
        }

  -- ---- the reserve

  module _ {t : Tables} where
    -- the reserve, taken by a store of none, is in no list
    pub take_kept : {a : ℕ} → Whole g t → head_at t (class_heap g h c) reserve ≡ a + 1 → But g (set_head t (class_heap g h c) reserve 0) (class_heap g h c) a × (occupied_at t a ≡ 0)
    take_kept {a} o e =
        let m = front_member o (omega arith) e in
        let w = o.near.filled in
        let q = head_quiet t (class_heap g h c) reserve (omega arith) 0 in
        let l = o.near.listed in
        let f = l.front (head_cell (class_heap g h c).row reserve) a (class_list_lem (omega arith)) e in
        let i : ListName (RowName g) (o.home a) = rw f.mine (class_list_lem {f = reserve} (omega arith)) in
        let single : ReserveName (o.home a) = record { row = (class_heap g h c).row; cell = f.mine } in
        let alone = l.alone a i single in (
          record {
            home = changed o.home a no_list;
            rank = o.rank;
            near =
                near_moved (near_but (a + 1) o.near) q (front_none_filled w hh hc (omega arith))
                (take_listed t (class_heap g h c) reserve (reach w) (omega arith) class_row l a f.mine e alone)
                (λ s n. changed_other o.home a no_list s (λ e. n (omega arith)));
            belongs = same_belongs (quiet_spans q) (class_heap g h c) a m.0.belongs;
            out = changed_same o.home a no_list;
            top = f.top;
            down = alone;
          },
          m.1.none (omega arith),
        )

    -- an empty span in no list, stored where there is no reserve, is the reserve
    pub put_kept : {a : ℕ} → But g t (class_heap g h c) a → head_at t (class_heap g h c) reserve ≡ 0 → Loose g (set_head t (class_heap g h c) reserve (a + 1)) (class_heap g h c) reserve a
    put_kept {a} o e =
        let w = o.near.filled in
        let q = head_quiet t (class_heap g h c) reserve (omega arith) (a + 1) in
        record {
          home = changed o.home a (head_cell (class_heap g h c).row reserve);
          rank = _;
          near =
              near_moved o.near q (front_span_filled w hh hc (omega arith) o.belongs.used)
              (put_listed t (class_heap g h c) reserve (reach w) (omega arith) class_row o.near.listed a o.belongs.used (unlisted o.home g a o.out) (λ z. e) e o.top o.down)
              (λ s n. changed_other o.home a (head_cell (class_heap g h c).row reserve) s (λ e. n (omega arith)));
          belongs = same_belongs (quiet_spans q) (class_heap g h c) a o.belongs;
          mine = changed_same o.home a (head_cell (class_heap g h c).row reserve);
        }

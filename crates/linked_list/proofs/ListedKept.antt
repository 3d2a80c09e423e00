-- The lists of a table by home and rank, kept by push, remove, pop and the stores to a reserve: home changes at the moved span alone. Assumes nothing.
use mathlib.Core.Path.{◌≡◌, refl, sym, subst, ◌∙◌}
use mathlib.Core.Logic.{◌⊎◌, ⊎_elim}
use Prim.Native.Nat.{ℕ, ◌+◌, ◌-◌, ◌*◌, ◌<◌, ◌≤◌}
use native.Mathlib.Omega.{arith}
use native.Mathlib.Decide.{ℕ_discrete}
use lib.ListN.{length}
use lib.Seq.{get_or-set_same, get_or-set_other, set-set}
use Rattle.laws.specs.Listed.{Pushed, Removed, changed}
use Rattle.laws.proofs.ListedLaws.{listed_push, listed_remove}
use Rattle.laws.proofs.ListedChains.{home_in, rank_in, lists_of, listed_of}
use Rattle.tables.specs.declared.ClassHeap.{ClassHeap}
use Rattle.tables.specs.Shape.{Shape, classes, record_cells, row_of}
use Rattle.tables.specs.Cells.{Tables, previous_at, next_at, head_cell, head_at, set_head, reserve, counter}
use Rattle.tables.proofs.CellLaws.{head_same, list_in}
use Rattle.linked_list.specs.Lists.{push, remove, pop}
use Rattle.linked_list.specs.Reach.{Links}
use Rattle.linked_list.specs.Named.{heads_at, RowName, ListName, ReserveName, no_list, ListedIn, ListsIn}
use Rattle.linked_list.proofs.ReachLaws.{head_here}
use Rattle.linked_list.proofs.ListCells.{push_pushed, remove_removed}

-- no_list is no list's cell
pub no_list_lem : (IsRow : ℕ → Type 0) → ListName IsRow no_list → ⊥
no_list_lem IsRow o =
    let e : counter ≡ o.kind = (head_same 0 o.row (list_in (omega arith)) (list_in (omega (arith, o.low))) o.cell).1 in
    omega (arith, o.low)

-- list f of a row is a list
pub list_name : {IsRow : ℕ → Type 0} {f : ℕ} (row : ℕ) → IsRow row → f ≤ reserve → ListName IsRow (head_cell row f)
list_name row h hf = record { row = row; kind = _; within = h; low = hf; cell = refl }

-- a class of a heap has a row
pub row_name : (g : Shape) {h c : ℕ} → h < g.heaps → c < classes g → RowName g (row_of g h c)
row_name g {h} {c} hh hc = record { owner = h; class = c; heap = hh; sized = hc; place = refl }

-- a list that is a reserve's is the reserve
pub reserve_kind : (row : ℕ) {f : ℕ} → f ≤ reserve → ReserveName (head_cell row f) → f ≡ reserve
reserve_kind row hf o = (head_same row o.row (list_in (omega arith)) (list_in (omega arith)) o.cell).1

-- both readings of the lists of a table
pub spelled_out :
    {IsRow : ℕ → Type 0} (t : Tables) {home rank : ℕ → ℕ} → ListedIn IsRow t home rank → ((s : ℕ) → s < t.used → ListName IsRow (home s)) →
    ListsIn IsRow t home
spelled_out t l all = lists_of l all

-- and the second gives the first
pub by_home :
    {IsRow : ℕ → Type 0} (t : Tables) {home : ℕ → ℕ} → ListsIn IsRow t home →
    ListedIn IsRow t (home_in no_list t.used home) (rank_in t.used (next_at t))
by_home {IsRow} t l = listed_of no_list (no_list_lem IsRow) l

-- f is a list of k, whose row is among the rows
module _ {n : ℕ} {IsRow : ℕ → Type 0} (t : Tables) (k : ClassHeap) (f : ℕ) {home rank : ℕ → ℕ} (r : Links n t.spans t.heads k.row) (hf : f ≤ reserve) (row : IsRow k.row) (l : ListedIn IsRow t home rank) where
  -- the list's name
  name : ListName IsRow (head_cell k.row f)
  name = list_name k.row row hf

  -- ---- a span that is in no list
  module _ (s : ℕ) (hu : s < t.used) (out : ListName IsRow (home s) → ⊥) (one : f ≡ reserve → head_at t k f ≡ 0) where
    -- where the list is the reserve, it is empty
    alone : ReserveName (head_cell k.row f) → head_at t k f ≡ 0
    alone o = one (reserve_kind k.row hf o)

    -- it is not the front
    not_front : head_at t k f ≡ s + 1 → ⊥
    not_front e = out (subst (ListName IsRow) (sym (l.front (head_cell k.row f) s name e).mine) name)

    -- pushed, it is at home in the list, and of higher rank than the old front
    pub push_listed : s < n → ListedIn IsRow (push t k f s) (changed home s (head_cell k.row f)) (changed rank s (rank (head_at t k f - 1) + 1))
    push_listed hs = unfold push in listed_push l (push_pushed t k f s r hf hs not_front) hu out name alone

    -- a span with no links becomes the only one of an empty list by a store to the head
    pub put_listed :
        head_at t k f ≡ 0 → previous_at t s ≡ 0 → next_at t s ≡ 0 →
        ListedIn IsRow (set_head t k f (s + 1)) (changed home s (head_cell k.row f)) (changed rank s (rank (head_at t k f - 1) + 1))
    put_listed empty top down = listed_push l stored hu out name alone
      where
        stored : Pushed (previous_at t) (next_at t) (heads_at t) (previous_at t) (next_at t) (heads_at (set_head t k f (s + 1))) (head_cell k.row f) s
        stored =
            record {
              top = top;
              down = down ∙ sym empty;
              back = λ y e. absurd (let z : ⊥ = omega arith in z);
              backs = λ y m o. refl;
              nexts = λ y m. refl;
              front = get_or-set_same t.heads (head_cell k.row f) (s + 1) 0 (head_here r hf);
              fronts = λ c m. get_or-set_other t.heads (head_cell k.row f) c (s + 1) 0 m;
            }

  -- ---- a span of the list
  module _ (s : ℕ) (mine : home s ≡ head_cell k.row f) where
    -- its home is a list
    listed : ListName IsRow (home s)
    listed = rw mine name

    -- removed, it is at home in no list
    pub remove_listed : s < n → ListedIn IsRow (remove t k f s) (changed home s no_list) rank
    remove_listed hs =
        unfold remove in
        listed_remove l
        (remove_removed t k f s r hf hs
        (λ e. omega (arith, (l.after s s listed e).lower))
        (λ e. omega (arith, (l.after s s listed (l.before s s listed e).on).lower)))
        mine name no_list (no_list_lem IsRow)

    -- the only one of a list leaves it by a store to the head
    pub take_listed : head_at t k f ≡ s + 1 → next_at t s ≡ 0 → ListedIn IsRow (set_head t k f 0) (changed home s no_list) rank
    take_listed front down = listed_remove l stored mine name no_list (no_list_lem IsRow)
      where
        top : previous_at t s ≡ 0
        top = (l.front (head_cell k.row f) s name front).top

        stored : Removed (previous_at t) (next_at t) (heads_at t) (previous_at t) (next_at t) (heads_at (set_head t k f 0)) (head_cell k.row f) s
        stored =
            record {
              top = top;
              down = down;
              over = λ y e. absurd (let z : ⊥ = omega arith in z);
              under = λ y e. absurd (let z : ⊥ = omega (arith, top) in z);
              backs = λ y m o. refl;
              nexts = λ y m o. refl;
              front = λ e. get_or-set_same t.heads (head_cell k.row f) 0 0 (head_here r hf) ∙ sym down;
              kept = λ m. absurd (m top);
              fronts = λ c m. get_or-set_other t.heads (head_cell k.row f) c 0 0 m;
            }

  -- the front popped is at home in no list
  pub pop_listed : (s : ℕ) → head_at t k f ≡ s + 1 → ListedIn IsRow (pop t k f) (changed home s no_list) rank
  unfolding pop
  pop_listed s e =
      let q : head_at t k f - 1 ≡ s = omega arith in
      rw q (remove_listed s (l.front (head_cell k.row f) s name e).mine (omega (arith, r.fronts f hf)))

-- a head stored to twice has the last number: a reserve replaced is the old one taken and the new one put
pub put_again : (t : Tables) (k : ClassHeap) (f u v : ℕ) → set_head (set_head t k f u) k f v ≡ set_head t k f v
put_again t k f u v = rw set-set

-- ---- links in range

-- a link to none, or to a number below n, is at most n
link_low : (n x : ℕ) → ((y : ℕ) → x ≡ y + 1 → y < n) → x ≤ n
link_low n x h = go (ℕ_discrete x 0)
  where
    go : Dec (x ≡ 0) → x ≤ n
    go (yes e) = omega arith
    go (no m) = omega (arith, h (x - 1) (omega arith))

-- where every used span is listed or has no links, every link is in range
pub listed_links :
    {IsRow : ℕ → Type 0} (t : Tables) {home rank : ℕ → ℕ} (row : ℕ) → ListedIn IsRow t home rank → IsRow row →
    t.used * record_cells ≤ length t.spans → ((f : ℕ) → f ≤ counter → head_cell row f < length t.heads) →
    ((s : ℕ) → s < t.used → ListName IsRow (home s) ⊎ ((previous_at t s ≡ 0) × (next_at t s ≡ 0))) →
    Links t.used t.spans t.heads row
listed_links {IsRow} t {home} {rank} row l i room rows each =
    record {
      room = room;
      previous =
          λ s h.
          ⊎_elim
          (λ o. link_low t.used (previous_at t s) (λ y e. l.within y (rw (l.before s y o e).same o)))
          (λ z. omega (arith, z.0))
          (each s h);
      next =
          λ s h.
          ⊎_elim
          (λ o. link_low t.used (next_at t s) (λ y e. l.within y (rw (l.after s y o e).same o)))
          (λ z. omega (arith, z.1))
          (each s h);
      rows = rows;
      fronts =
          λ f hf.
          link_low t.used (heads_at t (head_cell row f))
          (λ y e. l.within y (rw (l.front (head_cell row f) y (list_name row i hf) e).mine (list_name row i hf)));
    }

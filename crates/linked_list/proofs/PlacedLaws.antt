-- The lists as 01 counts them are the lists spelled out, with the one list that a span stands in as its home; and back. Assumes nothing.
use mathlib.Core.Path.{◌≡◌, refl, sym, ap, subst, ◌∙◌}
use mathlib.Core.Bool.{cond}
use Prim.Native.Nat.{ℕ, zero, suc, ◌+◌, ◌<◌, ◌≤◌}
use native.Mathlib.Omega.{arith}
use native.Mathlib.Decide.{ℕ_discrete}
use lib.Dec.{eqb}
use borrow.Author.Tests.{eq-eqb, ne_eqb}
use Rattle.laws.specs.Links.{Chain, walk, times}
use Rattle.laws.specs.Members.{Mem}
use Rattle.laws.proofs.ChainLaws.{chain_nodup}
use Rattle.laws.proofs.MemberLaws.{times_none, times_some, times_once, times_mem}
use Rattle.tables.specs.Cells.{Tables, previous_at, next_at, head_cell, reserve, partial_list, full_list, empty_list}
use Rattle.tables.proofs.CellLaws.{head_same, list_in}
use Rattle.linked_list.specs.Named.{heads_at, ListsIn, row_list, places_of, Placed}
use Rattle.linked_list.proofs.ListedKept.{list_name, reserve_kind}

-- ---- a number that stands once in four lists

-- which of the four: the first where it stands, from how often it stands in each
abbrev pub which_of : (ℕ → ℕ) → ℕ
which_of n = cond (eqb (n partial_list) 0) (cond (eqb (n full_list) 0) (cond (eqb (n empty_list) 0) reserve empty_list) full_list) partial_list

-- what holds of each of the four holds of any
pub by_four : (P : ℕ → Type 0) (f : ℕ) → f ≤ reserve → P partial_list → P full_list → P empty_list → P reserve → P f
by_four P zero h a b c d = a
by_four P (suc zero) h a b c d = b
by_four P (suc (suc zero)) h a b c d = c
by_four P (suc (suc (suc zero))) h a b c d = d
by_four P (suc (suc (suc (suc f)))) h a b c d = absurd (let z : ⊥ = omega arith in z)

-- it stands in list w, and in no other
record Only (n : ℕ → ℕ) (w : ℕ) : Type 0 where
  low : w ≤ reserve
  there : 0 < n w
  none : (f : ℕ) → f ≤ reserve → 0 < n f → w ≡ f

-- a number that stands once stands in the first list where it stands, and in no other
only : (n : ℕ → ℕ) → n partial_list + n full_list + n empty_list + n reserve ≡ 1 → Only n (which_of n)
only n e = go (ℕ_discrete (n 0) 0) (ℕ_discrete (n 1) 0) (ℕ_discrete (n 2) 0)
  where
    -- another list where it stood would make it two
    two : {A : Type 0} → 2 ≤ n partial_list + n full_list + n empty_list + n reserve → A
    two h = absurd (let z : ⊥ = omega arith in z)

    go : Dec (n 0 ≡ 0) → Dec (n 1 ≡ 0) → Dec (n 2 ≡ 0) → Only n (which_of n)
    go (no a) b c =
        rw (ne_eqb (n 0) 0 a)
        (record {
          low = omega arith;
          there = omega arith;
          none = λ f h. by_four (λ g. 0 < n g → 0 ≡ g) f h (λ p. refl) (λ p. two (omega arith)) (λ p. two (omega arith)) (λ p. two (omega arith));
        })
    go (yes a) (no b) c =
        rw (eq-eqb (n 0) 0 a, ne_eqb (n 1) 0 b)
        (record {
          low = omega arith;
          there = omega arith;
          none = λ f h. by_four (λ g. 0 < n g → 1 ≡ g) f h (λ p. two (omega arith)) (λ p. refl) (λ p. two (omega arith)) (λ p. two (omega arith));
        })
    go (yes a) (yes b) (no c) =
        rw (eq-eqb (n 0) 0 a, eq-eqb (n 1) 0 b, ne_eqb (n 2) 0 c)
        (record {
          low = omega arith;
          there = omega arith;
          none = λ f h. by_four (λ g. 0 < n g → 2 ≡ g) f h (λ p. two (omega arith)) (λ p. two (omega arith)) (λ p. refl) (λ p. two (omega arith));
        })
    go (yes a) (yes b) (yes c) =
        rw (eq-eqb (n 0) 0 a, eq-eqb (n 1) 0 b, eq-eqb (n 2) 0 c)
        (record {
          low = omega arith;
          there = omega arith;
          none = λ f h. by_four (λ g. 0 < n g → 3 ≡ g) f h (λ p. two (omega arith)) (λ p. two (omega arith)) (λ p. two (omega arith)) (λ p. refl);
        })

-- and back: it stands once in w and in no other, so once in all
only_sum :
    (n : ℕ → ℕ) (w : ℕ) → w ≤ reserve → n w ≡ 1 → ((f : ℕ) → f ≤ reserve → (f ≡ w → ⊥) → n f ≡ 0) →
    n partial_list + n full_list + n empty_list + n reserve ≡ 1
only_sum n w h =
    by_four (λ v. n v ≡ 1 → ((f : ℕ) → f ≤ reserve → (f ≡ v → ⊥) → n f ≡ 0) → n partial_list + n full_list + n empty_list + n reserve ≡ 1) w h
    (λ e z. omega (arith, z 1 (omega arith) (λ q. omega arith), z 2 (omega arith) (λ q. omega arith), z 3 (omega arith) (λ q. omega arith)))
    (λ e z. omega (arith, z 0 (omega arith) (λ q. omega arith), z 2 (omega arith) (λ q. omega arith), z 3 (omega arith) (λ q. omega arith)))
    (λ e z. omega (arith, z 0 (omega arith) (λ q. omega arith), z 1 (omega arith) (λ q. omega arith), z 3 (omega arith) (λ q. omega arith)))
    (λ e z. omega (arith, z 0 (omega arith) (λ q. omega arith), z 1 (omega arith) (λ q. omega arith), z 2 (omega arith) (λ q. omega arith)))

-- ---- the lists of a table

-- the list of its row that span s stands in
abbrev pub kind_at : Tables → (ℕ → ℕ) → ℕ → ℕ
kind_at t row s = which_of (λ f. times s (row_list t (row s) f))

-- the head of that list
abbrev pub home_at : Tables → (ℕ → ℕ) → ℕ → ℕ
home_at t row s = head_cell (row s) (kind_at t row s)

-- a used span's home is a list of its row, and it stands in that one alone
module _ {IsRow : ℕ → Type 0} (t : Tables) {row : ℕ → ℕ} (p : Placed IsRow t row) where
  -- which list that is
  stands : (s : ℕ) → s < t.used → Only (λ f. times s (row_list t (row s) f)) (kind_at t row s)
  stands s h = only (λ f. times s (row_list t (row s) f)) (p.listed s h)

  -- it is one of the four
  pub kind_low : (s : ℕ) → s < t.used → kind_at t row s ≤ reserve
  kind_low s h = (stands s h).low

  -- a span of list f of row r has that list as its home
  kind_own : (r f s : ℕ) → IsRow r → f ≤ reserve → Mem s (row_list t r f) → home_at t row s ≡ head_cell r f
  kind_own r f s i h m =
      let o = p.own r f s i h m in
      let q : kind_at t row s ≡ f = (stands s o.0).none f h (times_some s (row_list t (row s) f) (subst (λ (x : ℕ). Mem s (row_list t x f)) (sym o.1) m)) in
      ap (head_cell (row s)) q ∙ ap (λ (x : ℕ). head_cell x f) o.1

  -- the lists spelled out
  pub placed_lists : ListsIn IsRow t (home_at t row)
  placed_lists =
      record {
        each = λ c n. subst (λ (x : ℕ). Chain (previous_at t) (next_at t) 0 (heads_at t x) (walk (next_at t) t.used (heads_at t x))) (sym n.cell) (p.linked n.row n.kind n.within n.low);
        own =
            λ c s n m.
            let j : Mem s (row_list t n.row n.kind) = subst (λ (x : ℕ). Mem s (walk (next_at t) t.used (heads_at t x))) n.cell m in
            ((p.own n.row n.kind s n.within n.low j).0, kind_own n.row n.kind s n.within n.low j ∙ sym n.cell);
        all = λ s h. (list_name (row s) (p.within s h) (kind_low s h), times_mem s (row_list t (row s) (kind_at t row s)) (stands s h).there);
        alone =
            λ s h o.
            let q : kind_at t row s ≡ reserve = reserve_kind (row s) (kind_low s h) o in
            p.alone (row s) s (p.within s h)
            (subst (λ (f : ℕ). Mem s (row_list t (row s) f)) q (times_mem s (row_list t (row s) (kind_at t row s)) (stands s h).there));
      }

-- ---- and back
module _ {IsRow : ℕ → Type 0} (t : Tables) {home row : ℕ → ℕ} (l : ListsIn IsRow t home) (within : (s : ℕ) → s < t.used → IsRow (row s)) (kind : ℕ → ℕ) (low : (s : ℕ) → s < t.used → kind s ≤ reserve) (mine : (s : ℕ) → s < t.used → home s ≡ head_cell (row s) (kind s)) where
  -- a span of list f of row r is of that row, and f is its kind
  pub own_kind : (r f s : ℕ) → IsRow r → f ≤ reserve → Mem s (row_list t r f) → (s < t.used) × (row s ≡ r) × (kind s ≡ f)
  own_kind r f s i h m =
      let o = l.own (head_cell r f) s (list_name r i h) m in
      let q = head_same (row s) r (list_in (omega (arith, low s o.0))) (list_in (omega arith)) (sym (mine s o.0) ∙ o.1) in
      (o.0, q.0, q.1)

  -- each used span stands once in the lists of its row
  pub stands_once : (s : ℕ) → s < t.used → places_of t (row s) s ≡ 1
  stands_once s h =
      only_sum (λ f. times s (row_list t (row s) f)) (kind s) (low s h)
      (times_once s (row_list t (row s) (kind s)) (chain_nodup (previous_at t) (next_at t) (row_list t (row s) (kind s)) (heads_at t (head_cell (row s) (kind s))) (l.each (head_cell (row s) (kind s)) (list_name (row s) (within s h) (low s h))))
      (subst (λ (x : ℕ). Mem s (walk (next_at t) t.used (heads_at t x))) (mine s h) (l.all s h).1))
      (λ f hf n. times_none s (row_list t (row s) f) (λ m. n (sym (own_kind (row s) f s (within s h) hf m).2)))

  -- the lists as 01 counts them
  pub lists_placed : Placed IsRow t row
  lists_placed =
      record {
        linked = λ r f i h. l.each (head_cell r f) (list_name r i h);
        own = λ r f s i h m. let o = own_kind r f s i h m in (o.0, o.1);
        within = within;
        listed = stands_once;
        alone =
            λ r s i m.
            let o = own_kind r reserve s i (omega arith) m in
            l.alone s o.0 (record { row = row s; cell = mine s o.0 ∙ ap (head_cell (row s)) o.2 });
      }

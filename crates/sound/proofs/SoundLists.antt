-- The lists of a sound table, as their laws have them: every used span stands once in the lists and the reserve of its row, and these hold no other
-- span. So they are the lists by home and rank; and these give back each clause on lists. Assumes nothing.
use mathlib.Core.Path.{◌≡◌, sym, ap, subst, ◌∙◌}
use Prim.Native.Nat.{ℕ, ◌<◌, ◌≤◌}
use native.Mathlib.Omega.{arith}
use Rattle.laws.specs.Links.{All, Chain}
use Rattle.laws.specs.Members.{Mem}
use Rattle.laws.proofs.MemberLaws.{all_mem, mem_all}
use Rattle.laws.proofs.ListedChains.{home_in, rank_in}
use Rattle.tables.specs.declared.ClassHeap.{ClassHeap}
use Rattle.tables.specs.Shape.{Shape, classes, row_of, class_heap}
use Rattle.tables.specs.Cells.{Tables, class_at, owner_at, occupied_at, previous_at, next_at, head_cell, head_at, reserve}
use Rattle.tables.proofs.CellLaws.{rows_same}
use Rattle.linked_list.specs.Lists.{list_of}
use Rattle.linked_list.specs.Named.{heads_at, RowName, ListName, no_list, ListedIn, ListsIn, row_list, Placed}
use Rattle.linked_list.proofs.ListedKept.{row_name, list_name, by_home, spelled_out}
use Rattle.linked_list.proofs.PlacedLaws.{by_four, home_at, placed_lists, own_kind, stands_once}
use Rattle.sound.specs.Sound.{home_of, places_in, Belongs, ListSound, ClassSound, Sound}

-- the row of span s
abbrev pub row_at : Shape → Tables → ℕ → ℕ
row_at g t s = row_of g (owner_at t s) (class_at t s)

-- ---- one class of one heap
module _ {t : Tables} {k : ClassHeap} (o : ClassSound t k) where
  -- each of its lists is linked both ways
  class_linked : (f : ℕ) → f ≤ reserve → Chain (previous_at t) (next_at t) 0 (head_at t k f) (list_of t k f)
  class_linked f h =
      by_four (λ g. Chain (previous_at t) (next_at t) 0 (head_at t k g) (list_of t k g)) f h o.partial.linked o.full.linked
      o.empty.linked o.kept.linked

  -- and holds its own spans alone
  class_own : (f : ℕ) → f ≤ reserve → (s : ℕ) → Mem s (list_of t k f) → Belongs t k s
  class_own f h s =
      by_four (λ g. Mem s (list_of t k g) → Belongs t k s) f h
      (all_mem (Belongs t k) (list_of t k 0) o.partial.own s)
      (all_mem (Belongs t k) (list_of t k 1) o.full.own s)
      (all_mem (Belongs t k) (list_of t k 2) o.empty.own s)
      (all_mem (Belongs t k) (list_of t k 3) o.kept.own s)

-- ---- the table
module _ (g : Shape) (t : Tables) (o : Sound g t) where
  -- the lists as 01 counts them
  pub sound_placed : Placed (RowName g) t (row_at g t)
  unfolding class_heap
  sound_placed =
      record {
        linked =
            λ r f n h.
            subst (λ (x : ℕ). Chain (previous_at t) (next_at t) 0 (heads_at t (head_cell x f)) (row_list t x f)) (sym n.place)
            (class_linked (o.class_heaps n.owner n.heap n.class n.sized) f h);
        own =
            λ r f s n h m.
            let b : Belongs t (class_heap g n.owner n.class) s =
            class_own (o.class_heaps n.owner n.heap n.class n.sized) f h s
            (subst (λ (x : ℕ). Mem s (row_list t x f)) n.place m) in
            (b.used, ap (λ (x : ℕ). row_of g x (class_at t s)) b.owner ∙ ap (row_of g n.owner) b.class ∙ sym n.place);
        within = λ s h. row_name g (o.spans s h).cells.owner (o.spans s h).cells.class;
        listed = λ s h. (o.spans s h).listed;
        alone =
            λ r s n m.
            all_mem (λ y. next_at t y ≡ 0) (row_list t (row_of g n.owner n.class) reserve)
            (o.class_heaps n.owner n.heap n.class n.sized).alone s
            (subst (λ (x : ℕ). Mem s (row_list t x reserve)) n.place m);
      }

  -- each list spelled out, every used span in the one that is its home
  pub sound_lists : ListsIn (RowName g) t (home_at t (row_at g t))
  sound_lists = placed_lists t sound_placed

  -- the lists by home and rank
  pub sound_listed : ListedIn (RowName g) t (home_in no_list t.used (home_at t (row_at g t))) (rank_in t.used (next_at t))
  sound_listed = by_home t sound_lists

-- ---- and back: what a sound table asks of its lists, from home and rank; kind s is the list of its row that span s is at home in
module _ (g : Shape) (t : Tables) {home rank : ℕ → ℕ} (l : ListedIn (RowName g) t home rank) (kind : ℕ → ℕ)
    (class_in : (s : ℕ) → s < t.used → class_at t s < classes g)
    (owner_in : (s : ℕ) → s < t.used → owner_at t s < g.heaps)
    (low : (s : ℕ) → s < t.used → kind s ≤ reserve)
    (mine : (s : ℕ) → s < t.used → home s ≡ head_cell (row_at g t s) (kind s)) where
  -- every used span's row is a row
  row_in : (s : ℕ) → s < t.used → RowName g (row_at g t s)
  row_in s h = row_name g (owner_in s h) (class_in s h)

  -- so its home is a list
  lists : ListsIn (RowName g) t home
  lists = spelled_out t l (λ s h. subst (ListName (RowName g)) (sym (mine s h)) (list_name (row_at g t s) (row_in s h) (low s h)))

  -- and it stands once in the lists and the reserve of its class and owner
  pub places_one : (s : ℕ) → s < t.used → places_in t (home_of g t s) s ≡ 1
  unfolding class_heap
  places_one s h = stands_once t lists row_in kind low mine s h

  -- the lists of class c of heap h
  module _ (h c : ℕ) (hh : h < g.heaps) (hc : c < classes g) where
    -- a span of list f is of that class and heap, and f is its kind
    pub list_own : (f s : ℕ) → f ≤ reserve → Mem s (list_of t (class_heap g h c) f) → Belongs t (class_heap g h c) s × (kind s ≡ f)
    unfolding class_heap
    list_own f s hf m =
        let o = own_kind t lists row_in kind low mine (row_of g h c) f s (row_name g hh hc) hf m in
        let q = rows_same g (owner_at t s) h (class_at t s) c (class_in s o.0) hc o.1 in
        (record { used = o.0; class = q.1; owner = q.0 }, o.2)

    -- a list is sound where each span of it has a count that its name allows
    pub list_sound_lem : (f : ℕ) → f ≤ reserve → (Named : ℕ → Type 0) → ((s : ℕ) → Belongs t (class_heap g h c) s → kind s ≡ f → Named (occupied_at t s)) → ListSound t (class_heap g h c) f Named
    list_sound_lem f hf Named named =
        record {
          linked = unfold class_heap in lists.each (head_cell (row_of g h c) f) (list_name (row_of g h c) (row_name g hh hc) hf);
          own = mem_all (Belongs t (class_heap g h c)) (list_of t (class_heap g h c) f) (λ s m. (list_own f s hf m).0);
          named =
              mem_all (λ s. Named (occupied_at t s)) (list_of t (class_heap g h c) f)
              (λ s m. let o = list_own f s hf m in named s o.0 o.1);
        }

    -- a reserve has no links
    pub reserve_alone : All (λ s. next_at t s ≡ 0) (list_of t (class_heap g h c) reserve)
    reserve_alone =
        mem_all (λ s. next_at t s ≡ 0) (list_of t (class_heap g h c) reserve)
        (λ s m.
        let o = list_own reserve s (omega arith) m in
        lists.alone s o.0.used (record { row = row_at g t s; cell = mine s o.0.used ∙ ap (head_cell (row_at g t s)) o.1 }))

-- A state whose table has the model's counts, and the frees that follow the model. Assumes nothing.
use mathlib.Core.Path.{◌≡◌, refl, sym, ap, ap₂, subst, ◌∙◌}
use mathlib.Core.Logic.{inl, inr}
use mathlib.Core.Bool.{cond}
use mathlib.Core.List.{List, ◌∷◌}
use Prim.Native.Nat.{ℕ, ◌*◌, ◌^◌, ◌<◌, ◌≤◌}
use native.Mathlib.Decide.{ℕ_discrete}
use lib.ListN.{length, get_or}
use lib.Dec.{eqb, ltb}
use borrow.Author.Tests.{ltb-true, ltb-false, eqb-true, eqb-false}
use Rattle.laws.specs.Members.{Mem}
use Rattle.laws.proofs.CondLaws.{cond_both}
use Rattle.size_classes.specs.Slots.{most_slots, slot_offset}
use Rattle.tables.specs.declared.ClassHeap.{ClassHeap}
use Rattle.tables.specs.Shape.{Shape, classes, class_heap}
use Rattle.tables.specs.Cells.{Tables}
use Rattle.calls.specs.Outcome.{Outcome, outcome, refused}
use Rattle.calls.specs.Primary.{dealloc_small}
use Rattle.calls.specs.Calls.{free_sound, free}
use Rattle.sound.specs.Sound.{Belongs}
use Rattle.homes.specs.Homes.{Whole}
use Rattle.sound_calls.proofs.FreeTests.{no_heap_lem}
use Rattle.chance.specs.Counts.{Row, free_row, Whose, whose, Counts, put_row, Counted, counted, freed_count, free_count}
use Rattle.chance.specs.Chance.{row_in, Place, place, State, state, given_at, After, released, Names}
use Rattle.chance.proofs.RowTests.{belongs_once}
use Rattle.chance.proofs.RowSteps.{Frees, frees}
use Rattle.chance.proofs.CallAnswers.{OutAs, out_goes, free_sound_lem, owner_in, class_in, free_done}

-- ---- what a call of the list and of the model have in common

-- whose block allocation n gave, by the model
abbrev pub whose_at : Counts → ℕ → Whose
whose_at m n = get_or m.given n (whose 0 0)

-- given and not freed yet
pub record Live (s : State) (n : ℕ) : Type 0 where
  pub earlier : n < length s.given
  pub once : Mem n s.freed → ⊥

-- the state's table is whole and has the model's counts; a block given and not freed is out, of the model's class and heap, and given once
pub record Follows (g : Shape) (s : State) (m : Counts) : Type 0 where
  pub whole : Whole g s.table
  pub rows : (h c : ℕ) → h < g.heaps → c < classes g → row_in g s.table h c ≡ m.rows h c
  pub used : s.table.used ≡ m.used
  pub made : length s.given ≡ length m.given
  pub freed : s.freed ≡ m.freed
  pub out : (n : ℕ) → Live s n → OutAs g s.table (whose_at m n) (given_at s n)
  pub apart : (n n' : ℕ) → Live s n → Live s n' → given_at s n ≡ given_at s n' → n ≡ n'

-- a call's answer and state, and the model's
pub record Fits (g : Shape) (a : After) (b : Counted) : Type 0 where
  pub number : a.number ≡ b.number
  pub follows : Follows g a.state b.counts

module _ (g : Shape) where
  -- Rows that are as before but for one.
  pub put_rows :
      (f rows : ℕ → ℕ → Row) (h c : ℕ) (r : Row) → f h c ≡ r →
      ((x y : ℕ) → x < g.heaps → y < classes g → (x ≡ h → y ≡ c → ⊥) → f x y ≡ rows x y) →
      (x y : ℕ) → x < g.heaps → y < classes g → f x y ≡ put_row rows h c r x y
  unfolding put_row
  put_rows f rows h c r e others x y l m =
      cond_both (λ (z : Row). f x y ≡ z) (eqb x h) _ _
      (λ a.
      cond_both (λ (z : Row). f x y ≡ z) (eqb y c) _ _
      (λ b. ap₂ f (eqb-true x h a) (eqb-true y c b) ∙ e) (λ b. others x y l m (λ p q. eqb-false y c b q)))
      (λ a. others x y l m (λ p q. eqb-false x h a p))

  -- Rows of which one is as it was, and the others too.
  pub all_rows :
      (f rows : ℕ → ℕ → Row) (h c : ℕ) → f h c ≡ rows h c →
      ((x y : ℕ) → x < g.heaps → y < classes g → (x ≡ h → y ≡ c → ⊥) → f x y ≡ rows x y) →
      (x y : ℕ) → x < g.heaps → y < classes g → f x y ≡ rows x y
  all_rows f rows h c e others x y l m =
      elim (ℕ_discrete x h) [
        | yes a ↦
            elim (ℕ_discrete y c) [
              | yes b ↦ ap₂ f a b ∙ e ∙ sym (ap₂ rows a b)
              | no b ↦ others x y l m (λ p q. b q)
            ]
        | no a ↦ others x y l m (λ p q. a p)
      ]

module _ (g : Shape) (small : g.spans * most_slots ≤ 2 ^ 64) (s : State) (m : Counts) (f : Follows g s m) where
  abbrev t : Tables
  t = s.table

  -- ---- refused

  refused_free : (n : ℕ) → Fits g (released s n (refused 3 t)) (counted 3 m)
  unfolding released
  refused_free n = record { number = refl; follows = f }

  -- ---- a free

  module _ (heap n : ℕ) (live : Live s n) where
    abbrev b : Whose
    b = whose_at m n

    abbrev p : Place
    p = given_at s n

    abbrev x : OutAs g t b p
    x = f.out n live

    abbrev u : Tables
    u = dealloc_small t (class_heap g b.heap b.class) heap p.span x.slot

    done : Frees g b.heap b.class (eqb b.heap heap) t u p.span x.slot
    done =
        frees g small b.heap b.class (owner_in g small f.whole b.heap b.class x.belongs) (class_in g small f.whole b.heap b.class x.belongs) f.whole
        x.belongs x.out heap

    abbrev s' : State
    s' = state u s.given (n ∷ s.freed)

    older : (i : ℕ) → Live s' i → Live s i
    older i l = record { earlier = l.earlier; once = λ e. l.once (inr e) }

    -- another block given and not freed is another block
    other : (i : ℕ) (l : Live s' i) → (given_at s i).span ≡ p.span → (f.out i (older i l)).slot ≡ x.slot → ⊥
    other i l e d =
        let y = f.out i (older i l) in
        let z = belongs_once g t b.heap b.class (whose_at m i).heap (whose_at m i).class p.span x.belongs
        (subst (Belongs t (class_heap g (whose_at m i).heap (whose_at m i).class)) e y.belongs) in
        let k : class_heap g (whose_at m i).heap (whose_at m i).class ≡ class_heap g b.heap b.class = ap₂ (class_heap g) z.0 z.1 in
        let o : (given_at s i).offset ≡ p.offset =
        y.offset ∙ ap₂ (λ (k : ClassHeap) (q : ℕ). slot_offset k.slot q) k d ∙ sym x.offset in
        l.once (inl (f.apart i n (older i l) live (λ j. place (e j) (o j))))

    freed_fits : Fits g (released s n (outcome 0 p.span p.offset 0 u)) (freed_count g m heap n b)
    unfolding released freed_count
    freed_fits =
        record {
          number = refl;
          follows =
              record {
                whole = done.stays.whole;
                rows =
                    put_rows g (row_in g u) m.rows b.heap b.class _
                    (done.row
                    ∙ ap (free_row (class_heap g b.heap b.class) (eqb b.heap heap))
                    (f.rows b.heap b.class (owner_in g small f.whole b.heap b.class x.belongs) (class_in g small f.whole b.heap b.class x.belongs)))
                    (λ h c i j no. done.stays.others h c i j no ∙ f.rows h c i j);
                used = done.used ∙ f.used;
                made = f.made;
                freed = ap (λ (l : List ℕ). n ∷ l) f.freed;
                out = λ i l. out_goes (f.out i (older i l)) done.goes (other i l);
                apart = λ i j l k e. f.apart i j (older i l) (older j k) e;
              };
        }

  -- A free of a block that an accepted allocation gave, by any heap.
  pub free_fits : (heap n : ℕ) → Names g s heap n → Fits g (released s n (free g t heap (given_at s n).span (given_at s n).offset)) (free_count g m heap n)
  unfolding free_count
  free_fits heap n names =
      let p = given_at s n in
      subst (λ (o : Outcome). Fits g (released s n o) (cond (ltb heap g.heaps) (freed_count g m heap n (whose_at m n)) (counted 3 m)))
      (sym (free_sound_lem g small f.whole heap p.span p.offset))
      (cond_both (λ (z : Counted). Fits g (released s n (free_sound g t heap p.span p.offset)) z) (ltb heap g.heaps) _ _
      (λ e.
      let hh = ltb-true heap g.heaps e in
      let live : Live s n = record { earlier = names.earlier; once = names.once hh } in
      let y = f.out n live in
      let b = whose_at m n in
      subst (λ (o : Outcome). Fits g (released s n o) (freed_count g m heap n b))
      (sym (free_done g small f.whole b.heap b.class y.belongs heap p.offset y.slot hh y.offset y.out))
      (freed_fits heap n live))
      (λ e.
      subst (λ (o : Outcome). Fits g (released s n o) (counted 3 m))
      (no_heap_lem g t heap p.span p.offset (ltb-false heap g.heaps e)) (refused_free n)))

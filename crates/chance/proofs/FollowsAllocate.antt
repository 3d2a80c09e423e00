-- An allocation follows the model of counts: it answers the model's number, and leaves the model's counts. Assumes nothing.
use mathlib.Core.Path.{◌≡◌, refl, sym, ap, ap₂, subst, ◌∙◌}
use mathlib.Core.Logic.{◌⊎◌, inl, inr, ⊎_elim}
use mathlib.Core.Bool.{Bool, false, cond}
use mathlib.Core.List.{List, [], ◌∷◌, ◌++◌}
use Prim.Native.Nat.{ℕ, ◌+◌, ◌*◌, ◌^◌, ◌<◌, ◌≤◌}
use native.Mathlib.Omega.{arith}
use native.Mathlib.Decide.{dec_lt}
use lib.ListN.{length, get_or, length-append, get_or-append}
use lib.Seq.{get_or_at}
use lib.Dec.{eqb, leb, ltb}
use borrow.Author.Tests.{ltb-true, eqb-true, eqb-false}
use Rattle.laws.proofs.TestLaws.{paired}
use Rattle.size_classes.specs.Class.{in_range, smallest_class}
use Rattle.size_classes.specs.Slots.{most_slots, slot_offset}
use Rattle.tables.specs.declared.ClassHeap.{ClassHeap}
use Rattle.tables.specs.Shape.{Shape, classes, class_heap}
use Rattle.tables.specs.Cells.{Tables, count_at, entry_at, entry_span, entry_slot}
use Rattle.magazine.specs.Magazine.{drawn_at, draw_entry}
use Rattle.class_heap.specs.Steps.{refilled}
use Rattle.calls.specs.Outcome.{Outcome, refused}
use Rattle.calls.specs.Heap.{granted, draw, refill_first, alloc_small}
use Rattle.calls.specs.Calls.{words_needed, allocate_sound, allocate}
use Rattle.sound.specs.Sound.{Belongs}
use Rattle.filled_magazines.proofs.FilledFacts.{capacity_some}
use Rattle.outs.specs.Outs.{IsOut}
use Rattle.chance.specs.Counts.{Stock, stock, refill_first_count, draw_row, whose, Counts, counts, put_row, Counted, counted, draw_count, allocate_count}
use Rattle.chance.specs.Chance.{row_in, Place, place, State, state, given_at, allocated}
use Rattle.chance.proofs.RowTests.{belongs_once}
use Rattle.chance.proofs.ModelLaws.{none_cached}
use Rattle.chance.proofs.RowSteps.{Draws, Refills, refill_first_lem, draws}
use Rattle.chance.proofs.CallAnswers.{OutAs, out_same, out_comes, class_found, allocate_sound_lem, one_offset}
use Rattle.chance.proofs.Follows.{whose_at, Live, Follows, Fits, put_rows, all_rows}

module _ (g : Shape) (small : g.spans * most_slots ≤ 2 ^ 64) (s : State) (m : Counts) (f : Follows g s m) where
  abbrev t : Tables
  t = s.table

  -- ---- refused

  refused_allocation : (n : ℕ) → eqb n 0 ≡ false → Fits g (allocated s (refused n t)) (counted n m)
  unfolding allocated
  refused_allocation n e = record { number = refl; follows = rw e f }

  -- ---- a block drawn

  module _ (h c : ℕ) (hh : h < g.heaps) (hc : c < classes g) where
    abbrev k : ClassHeap
    k = class_heap g h c

    -- a number of a state with one block more given: that block's, or one from before
    record Newest (p : Place) (n : ℕ) : Type 0 where
      last : n ≡ length s.given
      block : get_or (s.given ++ (p ∷ [])) n (place 0 0) ≡ p
      its : get_or (m.given ++ (whose h c ∷ [])) n (whose 0 0) ≡ whose h c

    record Older (p : Place) (n : ℕ) : Type 0 where
      live : Live s n
      block : get_or (s.given ++ (p ∷ [])) n (place 0 0) ≡ given_at s n
      its : get_or (m.given ++ (whose h c ∷ [])) n (whose 0 0) ≡ whose_at m n

    which : (u : Tables) (p : Place) (n : ℕ) → Live (state u (s.given ++ (p ∷ [])) s.freed) n → Older p n ⊎ Newest p n
    which u p n l =
        elim (dec_lt n (length s.given)) [
          | yes y ↦
              inl
              (record {
                live = record { earlier = y; once = l.once };
                block = get_or-append s.given _ (place 0 0) n y;
                its = get_or-append m.given _ (whose 0 0) n (omega (arith, y, f.made));
              })
          | no y ↦
              inr
              (let e : n ≡ length s.given = omega (arith, y, simp length-append at l.earlier) in
              record {
                last = e;
                block = get_or_at s.given p [] (place 0 0) n (sym e);
                its = get_or_at m.given _ [] (whose 0 0) n (sym (e ∙ f.made));
              })
        ]

    -- a draw from a table that the refill left
    module _ (u : Tables) (r : Refills g h c t u) where
      module _ (some : 0 < count_at u k) (word words : ℕ) where
        abbrev v : Tables
        v = draw_entry u k word

        abbrev q : ℕ
        q = entry_slot (entry_at u k (drawn_at u k word))

        abbrev p : Place
        p = place (entry_span (entry_at u k (drawn_at u k word))) (slot_offset k.slot q)

        drawn : Draws g h c u v p.span q
        drawn = draws g small h c hh hc r.stays.whole some word

        -- what was out is out,
        still : (n : ℕ) → Live s n → OutAs g v (whose_at m n) (given_at s n)
        still n l = out_comes (out_same (f.out n l) r.outs) drawn.comes

        -- and is another block
        new_one : (n : ℕ) → Live s n → given_at s n ≡ p → ⊥
        new_one n l e =
            let y = f.out n l in
            let a = still n l in
            let w = whose_at m n in
            let i : (given_at s n).span ≡ p.span = ap (λ (z : Place). z.span) e in
            let z = belongs_once g v h c w.heap w.class p.span drawn.belongs (subst (Belongs v (class_heap g w.heap w.class)) i a.belongs) in
            let same : slot_offset k.slot y.slot ≡ slot_offset k.slot q =
            ap (λ (j : ClassHeap). slot_offset j.slot y.slot) (sym (ap₂ (class_heap g) z.0 z.1)) ∙ sym y.offset ∙ ap (λ (z : Place). z.offset) e in
            let d : y.slot ≡ q = one_offset g small drawn.stays.whole h c drawn.belongs y.slot q same in
            drawn.comes.was (subst (λ (x : ℕ). IsOut g u x q) i (subst (IsOut g u (given_at s n).span) d (r.outs.kept (given_at s n).span y.slot y.out)))

        abbrev s'' : State
        s'' = state v (s.given ++ (p ∷ [])) s.freed

        out_now : (n : ℕ) → Live s'' n → OutAs g v (get_or (m.given ++ (whose h c ∷ [])) n (whose 0 0)) (given_at s'' n)
        out_now n l =
            ⊎_elim (λ y. rw (y.block, y.its) (still n y.live))
            (λ y. rw (y.block, y.its) (record { slot = q; belongs = drawn.belongs; offset = refl; out = drawn.comes.now })) (which v p n l)

        apart_now : (n n' : ℕ) → Live s'' n → Live s'' n' → given_at s'' n ≡ given_at s'' n' → n ≡ n'
        apart_now n n' l l' e =
            ⊎_elim
            (λ x.
            ⊎_elim (λ y. f.apart n n' x.live y.live (sym x.block ∙ e ∙ y.block))
            (λ y. absurd (new_one n x.live (sym x.block ∙ e ∙ y.block))) (which v p n' l'))
            (λ x.
            ⊎_elim (λ y. absurd (new_one n' y.live (sym y.block ∙ sym e ∙ x.block))) (λ y. x.last ∙ sym y.last) (which v p n' l'))
            (which v p n l)

        granted_fits :
            Fits g (allocated s (granted u k word words))
            (counted 0 (counts (put_row m.rows h c (draw_row (row_in g u h c))) u.used (m.given ++ (whose h c ∷ [])) m.freed))
        unfolding granted allocated
        granted_fits =
            record {
              number = refl;
              follows =
                  record {
                    whole = drawn.stays.whole;
                    rows =
                        put_rows g (row_in g v) m.rows h c (draw_row (row_in g u h c)) drawn.row
                        (λ x y i j no. drawn.stays.others x y i j no ∙ r.stays.others x y i j no ∙ f.rows x y i j);
                    used = drawn.used;
                    made = simp length-append (ap (λ (n : ℕ). n + 1) f.made);
                    freed = f.freed;
                    out = out_now;
                    apart = apart_now;
                  };
            }

      -- where nothing is cached nothing was
      module _ (none : count_at u k ≡ 0) where
        as_was : stock (row_in g u h c) u.used ≡ stock (row_in g t h c) t.used
        as_was =
            r.stocked
            ∙ none_cached g.spans k (row_in g t h c) t.used (capacity_some g h c)
            (ap (λ (x : Stock). x.row.cached) (sym r.stocked) ∙ (unfold row_in in none))

        six_fits : Fits g (allocated s (refused 6 u)) (counted 6 m)
        unfolding allocated
        six_fits =
            record {
              number = refl;
              follows =
                  record {
                    whole = r.stays.whole;
                    rows =
                        all_rows g (row_in g u) m.rows h c (ap (λ (x : Stock). x.row) as_was ∙ f.rows h c hh hc)
                        (λ x y i j no. r.stays.others x y i j no ∙ f.rows x y i j);
                    used = ap (λ (x : Stock). x.used) as_was ∙ f.used;
                    made = f.made;
                    freed = f.freed;
                    out = λ n l. out_same (f.out n (record { earlier = l.earlier; once = l.once })) r.outs;
                    apart = λ n n' l l' e. f.apart n n' (record { earlier = l.earlier; once = l.once }) (record { earlier = l'.earlier; once = l'.once }) e;
                  };
            }

      -- a draw, or 6
      draw_fits : (ws : List ℕ) (i : ℕ) → Fits g (allocated s (draw (refilled u i) k ws)) (draw_count m h c (stock (row_in g u h c) u.used))
      unfolding draw draw_count
      draw_fits ws i =
          let e : eqb (count_at u k) 0 ≡ eqb (row_in g u h c).cached 0 = unfold row_in in refl in
          subst
          (λ (b : Bool).
          Fits g (allocated s (cond (eqb (count_at u k) 0) (refused 6 u) (granted u k (get_or ws i 0) (i + 1))))
          (cond b (counted 6 m)
          (counted 0 (counts (put_row m.rows h c (draw_row (row_in g u h c))) u.used (m.given ++ (whose h c ∷ [])) m.freed))))
          e
          (paired (λ (o : Outcome) (x : Counted). Fits g (allocated s o) x) (eqb (count_at u k) 0) (refused 6 u) (granted u k (get_or ws i 0) (i + 1))
          (counted 6 m) _
          (λ z. six_fits (eqb-true (count_at u k) 0 z)) (λ z. granted_fits (omega (arith, eqb-false (count_at u k) 0 z)) (get_or ws i 0) (i + 1)))

    -- in a class that was found
    small_fits : (ws : List ℕ) → Fits g (allocated s (alloc_small g.spans t k ws)) (draw_count m h c (refill_first_count g.spans k (m.rows h c) m.used))
    unfolding alloc_small
    small_fits ws =
        let r = refill_first_lem g small h c hh hc f.whole ws in
        let z = refill_first g.spans t k ws in
        let e : stock (row_in g z.table h c) z.table.used ≡ refill_first_count g.spans k (m.rows h c) m.used =
        r.stocked ∙ ap₂ (refill_first_count g.spans k) (f.rows h c hh hc) f.used in
        subst (λ (x : Stock). Fits g (allocated s (draw z k ws)) (draw_count m h c x)) e (draw_fits z.table r ws z.words)

  -- ---- the call

  -- An allocation with any words, of which the model sees how many there are.
  pub allocate_fits :
      (heap size alignment : ℕ) (ws : List ℕ) →
      Fits g (allocated s (allocate g t heap size alignment ws)) (allocate_count g m heap size alignment (length ws))
  unfolding allocate_count allocate_sound
  allocate_fits heap size alignment ws =
      let c = smallest_class g.sizes size alignment in
      let R : Outcome → Counted → Type 0 = λ o x. Fits g (allocated s o) x in
      subst (λ (o : Outcome). Fits g (allocated s o) (allocate_count g m heap size alignment (length ws)))
      (sym (allocate_sound_lem g small f.whole heap size alignment ws))
      (paired R (ltb heap g.heaps) _ _ _ _
      (λ a.
      paired R (leb words_needed (length ws)) _ _ _ _
      (λ b.
      paired R (in_range g.sizes size alignment) _ _ _ _
      (λ e. small_fits heap c (ltb-true heap g.heaps a) (class_found g t f.whole size alignment e) ws)
      (λ e. refused_allocation 5 refl))
      (λ b. refused_allocation 4 refl))
      (λ a. refused_allocation 3 refl))

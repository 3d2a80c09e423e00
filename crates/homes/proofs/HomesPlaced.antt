-- A span placed by its count, and one unlinked and placed: every span is at home afterwards. Assumes nothing.
use mathlib.Core.Path.{◌≡◌, refl, sym, ap, subst, ◌∙◌}
use mathlib.Core.Bool.{cond}
use Prim.Native.Nat.{ℕ, ◌+◌, ◌-◌, ◌<◌, ◌≤◌}
use native.Mathlib.Omega.{arith}
use native.Mathlib.Decide.{ℕ_discrete}
use borrow.Author.Tests.{eqb-true, eqb-false}
use lib.Dec.{eqb}
use lib.Seq.{get_or-set_same}
use Rattle.laws.specs.Listed.{changed}
use Rattle.laws.proofs.ListedLaws.{changed_same, changed_other}
use Rattle.laws.proofs.CondLaws.{cond_both}
use Rattle.tables.specs.Shape.{Shape, classes, class_heap}
use Rattle.tables.specs.Cells.{Tables, occupied_at, next_at, head_cell, head_at, set_head, partial_list, full_list, empty_list, reserve}
use Rattle.linked_list.specs.Lists.{push}
use Rattle.linked_list.specs.Named.{RowName, ListName, no_list, ListedIn}
use Rattle.linked_list.proofs.ReachLaws.{head_here}
use Rattle.linked_list.proofs.ListedKept.{no_list_lem, put_listed, take_listed, put_again}
use Rattle.linked_list.proofs.QuietLaws.{push_quiet, head_quiet, quiet_occupied}
use Rattle.span.specs.Span.{is_full, is_empty}
use Rattle.class_heap.specs.Steps.{demote, release_empty, place, refile}
use Rattle.sound.specs.Sound.{Belongs}
use Rattle.filled_magazines.proofs.SameSpans.{same_belongs}
use Rattle.filled_magazines.proofs.ListSteps.{quiet_spans, front_none_filled, front_span_filled}
use Rattle.homes.specs.Homes.{Fits, AtHome, Whole, Loose, But}
use Rattle.homes.proofs.FitsLaws.{fits_partial, fits_full, fits_empty}
use Rattle.homes.proofs.HomesFrame.{SameRecord, home_as}
use Rattle.homes.proofs.HomesMoved.{unlisted, class_row, class_list_lem, count_within_slots, at_home, settle, member_near, reach, push_kept, remove_kept, put_kept}

module _ {g : Shape} {h c : ℕ} (hh : h < g.heaps) (hc : c < classes g) where
  -- ---- a new reserve where there is one

  module _ {t : Tables} {a : ℕ} (b : ℕ) (o : But g t (class_heap g h c) a) (none : occupied_at t a ≡ 0) (e : head_at t (class_heap g h c) reserve ≡ b + 1) where
    -- the table where it is taken, and that with the new one
    abbrev between : Tables
    between = set_head t (class_heap g h c) reserve 0

    abbrev after : Tables
    after = set_head t (class_heap g h c) reserve (a + 1)

    -- the old reserve is at home in the reserve
    was : o.home b ≡ head_cell (class_heap g h c).row reserve
    was = (o.near.listed.front (head_cell (class_heap g h c).row reserve) b (class_list_lem hh hc (omega arith)) e).mine

    -- so it is another span
    other : a ≡ b → ⊥
    other q =
        no_list_lem (RowName g)
        (subst (ListName (RowName g)) (sym was ∙ ap o.home (sym q) ∙ o.out) (class_list_lem hh hc {f = reserve} (omega arith)))

    -- of that class and heap, and empty
    old : Belongs t (class_heap g h c) b × Fits reserve (occupied_at t b) (class_heap g h c).slots
    old = member_near hh hc o.near (λ q. other (omega arith)) (omega arith) was

    -- with no links
    last : next_at t b ≡ 0
    last =
        o.near.listed.alone b (rw was (class_list_lem hh hc {f = reserve} (omega arith)))
        (record { row = (class_heap g h c).row; cell = was })

    -- the homes with the old one out, and with the new one in
    abbrev out : ℕ → ℕ
    out = changed o.home b no_list

    abbrev now : ℕ → ℕ
    now = changed out a (head_cell (class_heap g h c).row reserve)

    -- the lists with the old one out
    taken : ListedIn (RowName g) between out o.rank
    taken = take_listed t (class_heap g h c) reserve (reach hh hc o.near.filled) (omega arith) (class_row hh hc) o.near.listed b was e last

    -- no reserve is left
    free : head_at between (class_heap g h c) reserve ≡ 0
    free = get_or-set_same t.heads (head_cell (class_heap g h c).row reserve) 0 0 (head_here (reach hh hc o.near.filled) (omega arith))

    -- the lists with the new one in
    put : ListedIn (RowName g) after now (changed o.rank a (o.rank (head_at between (class_heap g h c) reserve - 1) + 1))
    put =
        subst (λ (u : Tables). ListedIn (RowName g) u now (changed o.rank a (o.rank (head_at between (class_heap g h c) reserve - 1) + 1)))
        (put_again t (class_heap g h c) reserve 0 (a + 1))
        (put_listed between (class_heap g h c) reserve (reach hh hc (front_none_filled o.near.filled hh hc (omega arith))) (omega arith)
        (class_row hh hc) taken a o.belongs.used (unlisted out g a (changed_other o.home b no_list a other ∙ o.out)) (λ q. free) free o.top o.down)

    -- the old reserve is in no list, and every other span is at home
    pub replaced : But g (set_head t (class_heap g h c) reserve (a + 1)) (class_heap g h c) b
    replaced =
        let q = head_quiet t (class_heap g h c) reserve (omega arith) (a + 1) in
        let stay : (s : ℕ) → SameRecord t after s = λ s. record { class = refl; owner = refl; occupied = refl } in
        record {
          home = now;
          rank = changed o.rank a (o.rank (head_at between (class_heap g h c) reserve - 1) + 1);
          near =
              record {
                filled = front_span_filled o.near.filled hh hc (omega arith) o.belongs.used;
                listed = put;
                homes =
                    λ s l n.
                    elim (ℕ_discrete s a) [
                      | yes z ↦
                          subst (λ (x : ℕ). AtHome g after x (now x)) (sym z)
                          (at_home hh hc (same_belongs (quiet_spans q) (class_heap g h c) a o.belongs) (changed_same out a (head_cell (class_heap g h c).row reserve))
                          (fits_empty (omega arith) (omega arith) none))
                      | no z ↦
                          home_as (stay s)
                          (changed_other out a (head_cell (class_heap g h c).row reserve) s z ∙ changed_other o.home b no_list s (λ y. n (omega arith)))
                          (o.near.homes s l (λ y. z (omega arith)))
                    ];
              };
          belongs = same_belongs (quiet_spans q) (class_heap g h c) b old.0;
          out = changed_other out a (head_cell (class_heap g h c).row reserve) b (λ z. other (sym z)) ∙ changed_same o.home b no_list;
          top = (o.near.listed.front (head_cell (class_heap g h c).row reserve) b (class_list_lem hh hc (omega arith)) e).top;
          down = last;
        }

    -- the old reserve is empty
    pub replaced_empty : occupied_at t b ≡ 0
    replaced_empty = old.1.none (omega arith)

  -- ---- place

  module _ {t : Tables} {a : ℕ} (o : But g t (class_heap g h c) a) where
    -- an empty span becomes the reserve
    pub release_kept : occupied_at t a ≡ 0 → Whole g (release_empty t (class_heap g h c) a)
    unfolding release_empty demote
    release_kept none =
        let u = set_head t (class_heap g h c) reserve (a + 1) in
        let x = head_at t (class_heap g h c) reserve in
        cond_both (Whole g) (eqb x 0) u (push u (class_heap g h c) empty_list (x - 1))
        (λ e. settle hh hc (put_kept hh hc o (eqb-true x 0 e)) (fits_empty (omega arith) (omega arith) none))
        (λ e.
        let n : x ≡ x - 1 + 1 = omega (arith, eqb-false x 0 e) in
        settle hh hc (push_kept hh hc (omega arith) (replaced (x - 1) o none n))
        (fits_empty (omega arith) (omega arith)
        (quiet_occupied (push_quiet u (class_heap g h c) empty_list (omega arith) (x - 1)) (x - 1) ∙ replaced_empty (x - 1) o none n)))

    -- a span in no list, placed, is at home
    pub place_kept : Whole g (place t (class_heap g h c) a)
    unfolding place
    place_kept =
        let k = class_heap g h c in
        let n = occupied_at t a in
        let most = count_within_slots hh hc o.near.filled o.belongs in
        cond_both (Whole g) (is_empty t a) (release_empty t k a) (cond (is_full t k a) (push t k full_list a) (push t k partial_list a))
        (λ e. release_kept (eqb-true n 0 e))
        (λ e.
        cond_both (Whole g) (is_full t k a) (push t k full_list a) (push t k partial_list a)
        (λ d.
        settle hh hc (push_kept hh hc (omega arith) o)
        (fits_full (quiet_occupied (push_quiet t k full_list (omega arith) a) a ∙ eqb-true n k.slots d)))
        (λ d.
        settle hh hc (push_kept hh hc (omega arith) o)
        (rw (quiet_occupied (push_quiet t k partial_list (omega arith) a) a)
        (fits_partial (omega (arith, eqb-false n 0 e)) (omega (arith, eqb-false n k.slots d, most))))))

  -- a span of a list, unlinked and placed, is at home
  pub refile_kept : {t : Tables} {f a : ℕ} → f ≤ reserve → Loose g t (class_heap g h c) f a → Whole g (refile t (class_heap g h c) f a)
  unfolding refile
  refile_kept hf o = place_kept (remove_kept hh hc hf o)

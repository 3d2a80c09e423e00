-- What one magazine holds after a push, a pop and a draw. Assumes nothing.
use mathlib.Core.Path.{◌≡◌, refl, sym, ◌∙◌}
use mathlib.Core.Logic.{◌⊎◌, inl, inr}
use Prim.Native.Nat.{ℕ, ◌+◌, ◌-◌, ◌<◌}
use native.Mathlib.Decide.{dec_lt, ℕ_discrete}
use native.Mathlib.Nat.{mod-lt}
use native.Mathlib.Omega.{arith}
use lib.Seq.{get_or-set_same, get_or-set_other}
use Rattle.tables.specs.declared.ClassHeap.{ClassHeap}
use Rattle.tables.specs.Cells.{Tables, head_cell, counter, count_at, entry_at}
use Rattle.magazine.specs.Magazine.{push_entry, top_entry, pop_entry, drawn_at, draw_entry}
use Rattle.magazine.specs.Room.{Room}
use Rattle.magazine.specs.Held.{Among, Distinct}

-- Two places of equal entries are one.
pub distinct_place :
    (t : Tables) (k : ClassHeap) (i j : ℕ) →
    Distinct t k →
    i < count_at t k →
    j < count_at t k →
    entry_at t k i ≡ entry_at t k j →
    i ≡ j
distinct_place t k i j d hi hj e =
    elim (dec_lt i j) [
      | yes y ↦ absurd (d.apart j hj i y e)
      | no y ↦ elim (dec_lt j i) [ yes z ↦ absurd (d.apart i hi j z (sym e)) | no z ↦ omega arith ]
    ]

module _ (t : Tables) (k : ClassHeap) (m : Room t.entries t.heads k) where
  -- ---- push

  module _ (e : ℕ) (free : count_at t k < k.capacity) where
    pub push_count : count_at (push_entry t k e) k ≡ count_at t k + 1
    unfolding push_entry
    push_count = get_or-set_same t.heads (head_cell k.row counter) (count_at t k + 1) 0 m.row

    -- The new entry stands on the top, and every other place is as it was.
    pub push_top : entry_at (push_entry t k e) k (count_at t k) ≡ e
    unfolding push_entry
    push_top = get_or-set_same t.entries (k.base + count_at t k) e 0 (omega (arith, m.fits))

    pub push_entry_lem : (i : ℕ) → (i ≡ count_at t k → ⊥) → entry_at (push_entry t k e) k i ≡ entry_at t k i
    unfolding push_entry
    push_entry_lem i n = get_or-set_other t.entries (k.base + count_at t k) (k.base + i) e 0 (λ z. n (omega (arith, z)))

    -- What holds of the old entries and of the new one holds of all.
    pub push_each :
        (P : ℕ → Type 0) →
        ((i : ℕ) → i < count_at t k → P (entry_at t k i)) →
        P e →
        (i : ℕ) →
        i < count_at (push_entry t k e) k →
        P (entry_at (push_entry t k e) k i)
    push_each P old new i h =
        elim (dec_lt i (count_at t k)) [
          | yes y ↦ rw (push_entry_lem i (λ z. omega (arith, y, z))) (old i y)
          | no y ↦ let q : i ≡ count_at t k = omega (arith, h, push_count) in rw (q, push_top) new
        ]

    -- It holds the old entries and the new one, and no other.
    pub push_kept : (x : ℕ) → Among t k x → Among (push_entry t k e) k x
    push_kept x a =
        record {
          place = a.place;
          below = omega (arith, a.below, push_count);
          is = push_entry_lem a.place (λ z. omega (arith, a.below, z)) ∙ a.is;
        }

    pub push_new : Among (push_entry t k e) k e
    push_new = record { place = count_at t k; below = omega (arith, push_count); is = push_top }

    pub push_from : (x : ℕ) → Among (push_entry t k e) k x → Among t k x ⊎ (x ≡ e)
    push_from x a =
        elim (dec_lt a.place (count_at t k)) [
          | yes y ↦ inl (record { place = a.place; below = y; is = sym (push_entry_lem a.place (λ z. omega (arith, y, z))) ∙ a.is })
          | no y ↦
              let q : a.place ≡ count_at t k = omega (arith, a.below, push_count) in
              let s : entry_at (push_entry t k e) k (count_at t k) ≡ x = rw q at a.is in
              inr (sym s ∙ push_top)
        ]

    -- An entry that it did not hold keeps all distinct.
    pub push_distinct : Distinct t k → (Among t k e → ⊥) → Distinct (push_entry t k e) k
    push_distinct d n =
        record {
          apart =
              λ j hj i h z.
              let si = push_entry_lem i (λ q. omega (arith, h, hj, q, push_count)) in
              elim (dec_lt j (count_at t k)) [
                | yes y ↦ d.apart j y i h (sym si ∙ z ∙ push_entry_lem j (λ q. omega (arith, y, q)))
                | no y ↦
                    let q : j ≡ count_at t k = omega (arith, hj, push_count) in
                    let s : entry_at (push_entry t k e) k i ≡ entry_at (push_entry t k e) k (count_at t k) = rw q at z in
                    n (record { place = i; below = omega (arith, h, q); is = sym si ∙ s ∙ push_top })
              ];
        }

  -- ---- pop

  module _ (some : 0 < count_at t k) where
    pub pop_count : count_at (pop_entry t k) k ≡ count_at t k - 1
    unfolding pop_entry
    pop_count = get_or-set_same t.heads (head_cell k.row counter) (count_at t k - 1) 0 m.row

    -- Every place is as it was.
    pub pop_entry_lem : (i : ℕ) → entry_at (pop_entry t k) k i ≡ entry_at t k i
    unfolding pop_entry
    pop_entry_lem i = refl

    -- What holds of the old entries holds of those left.
    pub pop_each :
        (P : ℕ → Type 0) →
        ((i : ℕ) → i < count_at t k → P (entry_at t k i)) →
        (i : ℕ) →
        i < count_at (pop_entry t k) k →
        P (entry_at (pop_entry t k) k i)
    pop_each P old i h = rw (pop_entry_lem i) (old i (omega (arith, h, pop_count)))

    -- It holds the old entries but for the top one.
    pub pop_from : (x : ℕ) → Among (pop_entry t k) k x → Among t k x
    pop_from x a =
        record { place = a.place; below = omega (arith, a.below, pop_count); is = sym (pop_entry_lem a.place) ∙ a.is }

    pub pop_kept : (x : ℕ) → Among t k x → (x ≡ top_entry t k → ⊥) → Among (pop_entry t k) k x
    pop_kept x a n =
        elim (ℕ_discrete a.place (count_at t k - 1)) [
          | yes y ↦ let s : entry_at t k (count_at t k - 1) ≡ x = rw y at a.is in absurd (n (sym s))
          | no y ↦
              record {
                place = a.place;
                below = omega (arith, a.below, pop_count, y);
                is = pop_entry_lem a.place ∙ a.is;
              }
        ]

    pub pop_gone : Distinct t k → Among (pop_entry t k) k (top_entry t k) → ⊥
    pop_gone d a =
        let s = sym (pop_entry_lem a.place) ∙ a.is in
        let q = distinct_place t k a.place (count_at t k - 1) d (omega (arith, a.below, pop_count)) (omega arith) s in
        omega (arith, q, a.below, pop_count)

    pub pop_distinct : Distinct t k → Distinct (pop_entry t k) k
    pop_distinct d =
        record {
          apart = λ j hj i h z. d.apart j (omega (arith, hj, pop_count)) i h (sym (pop_entry_lem i) ∙ z ∙ pop_entry_lem j);
        }

    -- ---- draw

    module _ (word : ℕ) where
      -- The drawn place is below the count.
      pub drawn_below : drawn_at t k word < count_at t k
      drawn_below = mod-lt word some

      pub draw_count_lem : count_at (draw_entry t k word) k ≡ count_at t k - 1
      unfolding draw_entry
      draw_count_lem = get_or-set_same t.heads (head_cell k.row counter) (count_at t k - 1) 0 m.row

      -- The top entry fills the drawn place, and every other place is as it was.
      pub draw_filled : entry_at (draw_entry t k word) k (drawn_at t k word) ≡ top_entry t k
      unfolding draw_entry
      draw_filled =
          get_or-set_same t.entries (k.base + drawn_at t k word) (top_entry t k) 0 (omega (arith, drawn_below, m.held, m.fits))

      pub draw_entry_lem : (i : ℕ) → (i ≡ drawn_at t k word → ⊥) → entry_at (draw_entry t k word) k i ≡ entry_at t k i
      unfolding draw_entry
      draw_entry_lem i n =
          get_or-set_other t.entries (k.base + drawn_at t k word) (k.base + i) (top_entry t k) 0 (λ z. n (omega (arith, z)))

      -- Where the entry at a place below the new count stood before: at the top if it is the drawn place.
      pub draw_origin :
          (i : ℕ) →
          i < count_at (draw_entry t k word) k →
          (j : ℕ) × (j < count_at t k) × (entry_at (draw_entry t k word) k i ≡ entry_at t k j) × (j ≡ drawn_at t k word → ⊥)
      draw_origin i h =
          elim (ℕ_discrete i (drawn_at t k word)) [
            | yes y ↦
                (count_at t k - 1, omega arith, rw y draw_filled, λ z. omega (arith, z, y, h, draw_count_lem))
            | no y ↦ (i, omega (arith, h, draw_count_lem), draw_entry_lem i y, y)
          ]

      -- What holds of the old entries holds of those left.
      pub draw_each :
          (P : ℕ → Type 0) →
          ((i : ℕ) → i < count_at t k → P (entry_at t k i)) →
          (i : ℕ) →
          i < count_at (draw_entry t k word) k →
          P (entry_at (draw_entry t k word) k i)
      draw_each P old i h = let o = draw_origin i h in rw o.2 (old o.0 o.1)

      -- It holds the old entries but for the drawn one.
      pub draw_from : (x : ℕ) → Among (draw_entry t k word) k x → Among t k x
      draw_from x a =
          let o = draw_origin a.place a.below in record { place = o.0; below = o.1; is = sym o.2 ∙ a.is }

      pub draw_kept : (x : ℕ) → Among t k x → (x ≡ entry_at t k (drawn_at t k word) → ⊥) → Among (draw_entry t k word) k x
      draw_kept x a n =
          elim (ℕ_discrete a.place (drawn_at t k word)) [
            | yes y ↦ let s : entry_at t k (drawn_at t k word) ≡ x = rw y at a.is in absurd (n (sym s))
            | no y ↦
                elim (ℕ_discrete a.place (count_at t k - 1)) [
                  | yes z ↦
                      let s : top_entry t k ≡ x = rw z at a.is in
                      record {
                        place = drawn_at t k word;
                        below = omega (arith, drawn_below, y, z, draw_count_lem);
                        is = draw_filled ∙ s;
                      }
                  | no z ↦
                      record {
                        place = a.place;
                        below = omega (arith, a.below, z, draw_count_lem);
                        is = draw_entry_lem a.place y ∙ a.is;
                      }
                ]
          ]

      pub draw_gone : Distinct t k → Among (draw_entry t k word) k (entry_at t k (drawn_at t k word)) → ⊥
      draw_gone d a =
          let o = draw_origin a.place a.below in
          o.3 (distinct_place t k o.0 (drawn_at t k word) d o.1 drawn_below (sym o.2 ∙ a.is))

      pub draw_distinct : Distinct t k → Distinct (draw_entry t k word) k
      draw_distinct d =
          record {
            apart =
                λ j hj i h z.
                let below : j < count_at t k - 1 = omega (arith, hj, draw_count_lem) in
                let top = count_at t k - 1 in
                elim (ℕ_discrete i (drawn_at t k word)) [
                  | yes y ↦
                      let s : top_entry t k ≡ entry_at t k j = sym draw_filled ∙ rw (← y) z ∙ draw_entry_lem j (λ q. omega (arith, q, y, h)) in
                      let q = distinct_place t k top j d (omega arith) (omega arith) s in
                      omega (arith, q)
                  | no y ↦
                      elim (ℕ_discrete j (drawn_at t k word)) [
                        | yes w ↦
                            let s : entry_at t k i ≡ top_entry t k = sym (draw_entry_lem i y) ∙ z ∙ rw w draw_filled in
                            let q = distinct_place t k i top d (omega arith) (omega arith) s in
                            omega (arith, q, h)
                        | no w ↦ d.apart j (omega arith) i h (sym (draw_entry_lem i y) ∙ z ∙ draw_entry_lem j w)
                      ]
                ];
          }

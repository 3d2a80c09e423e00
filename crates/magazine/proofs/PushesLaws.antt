-- What one magazine holds after a run of pushes. Assumes nothing.
use mathlib.Core.Path.{◌≡◌, refl, sym, ◌∙◌}
use mathlib.Core.Logic.{◌⊎◌, inl, inr}
use mathlib.Core.List.{List, [], ◌∷◌}
use Prim.Native.Nat.{ℕ, zero, suc, ◌+◌, ◌-◌, ◌<◌, ◌≤◌}
use native.Mathlib.Decide.{dec_lt}
use native.Mathlib.Omega.{arith}
use lib.ListN.{length, get_or}
use Rattle.tables.specs.declared.ClassHeap.{ClassHeap}
use Rattle.tables.specs.Cells.{Tables, count_at, entry_at}
use Rattle.magazine.specs.Magazine.{push_entry, push_entries}
use Rattle.magazine.specs.Room.{Room}
use Rattle.magazine.specs.Held.{Among, Distinct}
use Rattle.magazine.proofs.MagazineLaws.{push_count, push_top, push_entry_lem}
use Rattle.magazine.proofs.OtherMagazines.{push_room}

-- there is room for so many more
abbrev pub Fits : Tables → ClassHeap → ℕ → Type 0
Fits t k n = count_at t k + n ≤ k.capacity

-- Each is counted.
pub pushes_count :
    (es : List ℕ) (t : Tables) (k : ClassHeap) →
    Room t.entries t.heads k →
    Fits t k (length es) →
    count_at (push_entries es t k) k ≡ count_at t k + length es
unfolding push_entries
pushes_count [] t k m h = omega arith
pushes_count (e ∷ es) t k m h =
    let free : count_at t k < k.capacity = omega arith in
    let one = push_count t k m e free in
    omega (arith, one, pushes_count es (push_entry t k e) k (push_room t k m e free) (omega (arith, one)))

-- Places below the old count are as they were.
pub pushes_old :
    (es : List ℕ) (t : Tables) (k : ClassHeap) (i : ℕ) →
    Room t.entries t.heads k →
    Fits t k (length es) →
    i < count_at t k →
    entry_at (push_entries es t k) k i ≡ entry_at t k i
unfolding push_entries
pushes_old [] t k i m h l = refl
pushes_old (e ∷ es) t k i m h l =
    let free : count_at t k < k.capacity = omega arith in
    let one = push_count t k m e free in
    pushes_old es (push_entry t k e) k i (push_room t k m e free) (omega (arith, one)) (omega (arith, one)) ∙
    push_entry_lem t k m e free i (λ z. omega (arith, z))

-- The new entries stand above it, in order.
pub pushes_new :
    (es : List ℕ) (t : Tables) (k : ClassHeap) (i : ℕ) →
    Room t.entries t.heads k →
    Fits t k (length es) →
    i < length es →
    entry_at (push_entries es t k) k (count_at t k + i) ≡ get_or es i 0
unfolding push_entries
pushes_new [] t k i m h l = absurd (let z : ⊥ = omega arith in z)
pushes_new (e ∷ es) t k zero m h l =
    let free : count_at t k < k.capacity = omega arith in
    let one = push_count t k m e free in
    let q : count_at t k + 0 ≡ count_at t k = omega arith in
    rw q (pushes_old es (push_entry t k e) k (count_at t k) (push_room t k m e free) (omega (arith, one)) (omega (arith, one)) ∙ push_top t k m e free)
pushes_new (e ∷ es) t k (suc i) m h l =
    let free : count_at t k < k.capacity = omega arith in
    let one = push_count t k m e free in
    let q : count_at t k + suc i ≡ count_at (push_entry t k e) k + i = omega (arith, one) in
    rw q (pushes_new es (push_entry t k e) k i (push_room t k m e free) (omega (arith, one)) (omega arith))

module _ (es : List ℕ) (t : Tables) (k : ClassHeap) (m : Room t.entries t.heads k) (h : Fits t k (length es)) where
  -- Where the entry at a place stood: in the magazine before, or in the list.
  pub pushes_place :
      (i : ℕ) →
      i < count_at (push_entries es t k) k →
      (i < count_at t k) ⊎ ((j : ℕ) × (j < length es) × (i ≡ count_at t k + j))
  pushes_place i l =
      elim (dec_lt i (count_at t k)) [
        | yes y ↦ inl y
        | no y ↦ inr (i - count_at t k, omega (arith, l, pushes_count es t k m h), omega arith)
      ]

  -- What holds of the old entries and of each of the list holds of all.
  pub pushes_each :
      (P : ℕ → Type 0) →
      ((i : ℕ) → i < count_at t k → P (entry_at t k i)) →
      ((j : ℕ) → j < length es → P (get_or es j 0)) →
      (i : ℕ) →
      i < count_at (push_entries es t k) k →
      P (entry_at (push_entries es t k) k i)
  pushes_each P old new i l =
      elim (pushes_place i l) [
        | inl y ↦ rw (pushes_old es t k i m h y) (old i y)
        | inr y ↦ rw (y.2, pushes_new es t k y.0 m h y.1) (new y.0 y.1)
      ]

  -- It holds the old entries and those of the list, and no other.
  pub pushes_kept : (x : ℕ) → Among t k x → Among (push_entries es t k) k x
  pushes_kept x a =
      record {
        place = a.place;
        below = omega (arith, a.below, pushes_count es t k m h);
        is = pushes_old es t k a.place m h a.below ∙ a.is;
      }

  pub pushes_among : (j : ℕ) → j < length es → Among (push_entries es t k) k (get_or es j 0)
  pushes_among j l =
      record {
        place = count_at t k + j;
        below = omega (arith, l, pushes_count es t k m h);
        is = pushes_new es t k j m h l;
      }

  pub pushes_from :
      (x : ℕ) → Among (push_entries es t k) k x → Among t k x ⊎ ((j : ℕ) × (j < length es) × (get_or es j 0 ≡ x))
  pushes_from x a =
      elim (pushes_place a.place a.below) [
        | inl y ↦ inl (record { place = a.place; below = y; is = sym (pushes_old es t k a.place m h y) ∙ a.is })
        | inr y ↦
            let s : entry_at (push_entries es t k) k (count_at t k + y.0) ≡ x = rw y.2 at a.is in
            inr (y.0, y.1, sym (pushes_new es t k y.0 m h y.1) ∙ s)
      ]

  -- Distinct entries of the list that it did not hold keep all distinct.
  pub pushes_distinct :
      Distinct t k →
      ((j : ℕ) → j < length es → (i : ℕ) → i < j → get_or es i 0 ≡ get_or es j 0 → ⊥) →
      ((j : ℕ) → j < length es → Among t k (get_or es j 0) → ⊥) →
      Distinct (push_entries es t k) k
  pushes_distinct d own other =
      record {
        apart =
            λ j hj i l z.
            elim (pushes_place j hj) [
              | inl y ↦
                  let il : i < count_at t k = omega (arith, l, y) in
                  d.apart j y i l (sym (pushes_old es t k i m h il) ∙ z ∙ pushes_old es t k j m h y)
              | inr y ↦
                  let s : entry_at (push_entries es t k) k i ≡ get_or es y.0 0 = rw (y.2, pushes_new es t k y.0 m h y.1) at z in
                  elim (pushes_place i (omega (arith, l, hj))) [
                    | inl w ↦ other y.0 y.1 (record { place = i; below = w; is = sym (pushes_old es t k i m h w) ∙ s })
                    | inr w ↦
                        let r : get_or es w.0 0 ≡ get_or es y.0 0 = rw (w.2, pushes_new es t k w.0 m h w.1) at s in
                        own y.0 y.1 w.0 (omega (arith, l, y.2, w.2)) r
                  ]
            ];
      }

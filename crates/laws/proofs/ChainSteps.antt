-- What push and remove make of chains: a list's chain gains its new front, or loses the removed element; a chain that holds neither the element nor
-- a neighbour of it stays. Assumes nothing.
use mathlib.Core.Path.{◌≡◌, refl, sym, ap, subst, ◌∙◌}
use mathlib.Core.Bool.{cond}
use mathlib.Core.List.{List, [], ◌∷◌}
use mathlib.Core.Logic.{inl, inr, ⊎_elim}
use Prim.Native.Nat.{ℕ, ◌+◌}
use native.Mathlib.Omega.{arith}
use native.Mathlib.Decide.{ℕ_discrete}
use lib.Dec.{eqb}
use borrow.Author.Tests.{eq-eqb, ne_eqb}
use Rattle.laws.specs.Links.{Chain}
use Rattle.laws.specs.Members.{Mem, NoDup, without}
use Rattle.laws.specs.Listed.{Pushed, Removed}
use Rattle.laws.proofs.ChainLaws.{Apart, chain_as, chain_back, chain_next, chain_previous, chain_nodup}

-- a link to a becomes the link to what stands after a
abbrev past : (ℕ → ℕ) → ℕ → ℕ → ℕ
past next a x = cond (eqb x (a + 1)) (next a) x

-- a list without its first element is the rest
pub without_first : (a : ℕ) (xs : List ℕ) → without a (a ∷ xs) ≡ xs
unfolding without
without_first a xs = rw (eq-eqb a a refl)

module _ {previous next head previous' next' head' : ℕ → ℕ} {h a : ℕ} where
  module _ (p : Pushed previous next head previous' next' head' h a) where
    -- the chain after the pushed element: its first element links back to a, and the rest is as it was
    push_rest : (xs : List ℕ) → Chain previous next 0 (head h) xs → NoDup xs → (Mem a xs → ⊥) → Chain previous' next' (a + 1) (head h) xs
    push_rest [] c d out = c
    push_rest (y ∷ ys) c d out =
        let e : next' y ≡ next y = p.nexts y (λ q. out (inl (sym q))) in (
          record { here = c.0.here; back = p.back y c.0.here },
          subst (λ (z : ℕ). Chain previous' next' (y + 1) z ys) (sym e)
              (chain_as ys (y + 1) (next y)
              (λ s m. p.backs s (λ q. out (inr (subst (λ (z : ℕ). Mem z ys) q m))) (λ q. d.0 (subst (λ (z : ℕ). Mem z ys) (omega (arith, c.0.here)) m)))
              (λ s m. p.nexts s (λ q. out (inr (subst (λ (z : ℕ). Mem z ys) q m))))
              c.1),
        )

    -- the list's chain has the pushed element in front
    pub chain_push : (xs : List ℕ) → Chain previous next 0 (head h) xs → (Mem a xs → ⊥) → Chain previous' next' 0 (head' h) (a ∷ xs)
    chain_push xs c out = (
      record { here = p.front; back = p.top },
      subst (λ (z : ℕ). Chain previous' next' (a + 1) z xs) (sym p.down) (push_rest xs c (chain_nodup previous next xs (head h) c) out),
    )

    -- another list that holds neither the pushed element nor the old front stays
    pub chain_push_other :
        (c : ℕ) (xs : List ℕ) → (c ≡ h → ⊥) → Chain previous next 0 (head c) xs → (Mem a xs → ⊥) → Apart (head h) xs →
        Chain previous' next' 0 (head' c) xs
    chain_push_other c xs n k out off =
        subst (λ (z : ℕ). Chain previous' next' 0 z xs) (sym (p.fronts c n))
        (chain_as xs 0 (head c)
        (λ s m. p.backs s (λ q. out (subst (λ (z : ℕ). Mem z xs) q m)) (λ q. off s q m))
        (λ s m. p.nexts s (λ q. out (subst (λ (z : ℕ). Mem z xs) q m)))
        k)

  module _ (r : Removed previous next head previous' next' head' h a) where
    -- where a is the first, its place is taken by what stands after it
    remove_first :
        (ys : List ℕ) (p : ℕ) → previous a ≡ p → Chain previous next (a + 1) (next a) ys → NoDup ys → (Mem a ys → ⊥) → Apart p ys →
        Chain previous' next' p (next a) ys
    remove_first [] p e c d out n = c
    remove_first (z ∷ zs) p e c d out n =
        let not_before : (y : ℕ) → Mem y (z ∷ zs) → previous a ≡ y + 1 → ⊥ = λ y m q. n y (sym e ∙ q) m in
        let not_a : (y : ℕ) → Mem y (z ∷ zs) → y ≡ a → ⊥ = λ y m q. out (subst (λ (w : ℕ). Mem w (z ∷ zs)) q m) in (
          record { here = c.0.here; back = r.over z c.0.here ∙ e },
          subst (λ (w : ℕ). Chain previous' next' (z + 1) w zs) (sym (r.nexts z (not_a z (inl refl)) (not_before z (inl refl))))
              (chain_as zs (z + 1) (next z)
              (λ s m. r.backs s (not_a s (inr m)) (λ q. d.0 (subst (λ (w : ℕ). Mem w zs) (omega (arith, c.0.here)) m)))
              (λ s m. r.nexts s (not_a s (inr m)) (not_before s (inr m)))
              c.1),
        )

    -- from any place of the chain before a
    remove_from :
        (xs : List ℕ) (p x : ℕ) → Chain previous next p x xs → NoDup xs → Apart p xs → Mem a xs →
        Chain previous' next' p (past next a x) (without a xs)
    unfolding without
    remove_from [] p x c d n m = absurd m
    remove_from (y ∷ ys) p x c d n m = go (ℕ_discrete a y) (λ i. remove_from ys (y + 1) (next y) c.1 d.1 (λ z e k. d.0 (subst (λ (w : ℕ). Mem w ys) (omega arith) k)) i)
      where
        go :
            Dec (a ≡ y) → (Mem a ys → Chain previous' next' (y + 1) (past next a (next y)) (without a ys)) →
            Chain previous' next' p (past next a x) (without a (y ∷ ys))
        go (yes q) rest =
            let e : x ≡ a + 1 = omega (arith, c.0.here) in
            rw (eq-eqb a y q, eq-eqb x (a + 1) e)
            (remove_first ys p (ap previous q ∙ c.0.back) (subst (λ (w : ℕ). Chain previous next (w + 1) (next w) ys) (sym q) c.1) d.1
            (λ i. d.0 (subst (λ (w : ℕ). Mem w ys) q i)) (λ z e i. n z e (inr i)))
        go (no k) rest =
            let i : Mem a ys = ⊎_elim (λ q. absurd (k q)) (λ j. j) m in
            let e : x ≡ a + 1 → ⊥ = λ w. k (omega (arith, c.0.here)) in
            let b : previous' y ≡ previous y = r.backs y (λ q. k (sym q)) (λ q. d.0 (chain_next previous next ys (y + 1) (next y) a y c.1 i q)) in
            rw (ne_eqb a y k, ne_eqb x (a + 1) e)
            (record { here = c.0.here; back = b ∙ c.0.back }, subst (λ (w : ℕ). Chain previous' next' (y + 1) w (without a ys)) (sym (on i (ℕ_discrete (next y) (a + 1)))) (rest i))
          where
            on : Mem a ys → Dec (next y ≡ a + 1) → next' y ≡ past next a (next y)
            on i (yes q) = rw (eq-eqb (next y) (a + 1) q) (r.under y (chain_back previous next ys (y + 1) (next y) a c.1 q))
            on i (no q) =
                rw (ne_eqb (next y) (a + 1) q)
                (r.nexts y (λ e. k (sym e))
                (λ e. ⊎_elim (λ o. q o.here) (λ o. d.0 (subst (λ (w : ℕ). Mem w ys) (omega (arith, o.2)) o.1)) (chain_previous previous next ys (y + 1) (next y) a c.1 i)))

    -- the head, where a was the first, is what stood after it
    remove_head : (xs : List ℕ) → Chain previous next 0 (head h) xs → Mem a xs → Dec (head h ≡ a + 1) → head' h ≡ past next a (head h)
    remove_head xs c m (yes q) = rw (eq-eqb (head h) (a + 1) q) (r.front (chain_back previous next xs 0 (head h) a c q))
    remove_head xs c m (no n) =
        rw (ne_eqb (head h) (a + 1) n)
        (r.kept (λ z. ⊎_elim (λ o. n o.here) (λ o. omega (arith, o.2)) (chain_previous previous next xs 0 (head h) a c m)))

    -- the list's chain without the removed element
    pub chain_remove : (xs : List ℕ) → Chain previous next 0 (head h) xs → Mem a xs → Chain previous' next' 0 (head' h) (without a xs)
    chain_remove xs c m =
        subst (λ (z : ℕ). Chain previous' next' 0 z (without a xs)) (sym (remove_head xs c m (ℕ_discrete (head h) (a + 1))))
        (remove_from xs 0 (head h) c (chain_nodup previous next xs (head h) c) (λ y e i. omega arith) m)

    -- the front removed leaves the rest
    pub chain_pop : (xs : List ℕ) → Chain previous next 0 (head h) (a ∷ xs) → Chain previous' next' 0 (head' h) xs
    chain_pop xs c =
        subst (λ (l : List ℕ). Chain previous' next' 0 (head' h) l) (without_first a xs) (chain_remove (a ∷ xs) c (inl refl))

    -- another list that holds neither the removed element nor a neighbour of it stays
    pub chain_remove_other :
        (c : ℕ) (xs : List ℕ) → (c ≡ h → ⊥) → Chain previous next 0 (head c) xs → (Mem a xs → ⊥) → Apart (next a) xs →
        Apart (previous a) xs → Chain previous' next' 0 (head' c) xs
    chain_remove_other c xs n k out after before =
        subst (λ (z : ℕ). Chain previous' next' 0 z xs) (sym (r.fronts c n))
        (chain_as xs 0 (head c)
        (λ s m. r.backs s (λ q. out (subst (λ (z : ℕ). Mem z xs) q m)) (λ q. after s q m))
        (λ s m. r.nexts s (λ q. out (subst (λ (z : ℕ). Mem z xs) q m)) (λ q. before s q m))
        k)

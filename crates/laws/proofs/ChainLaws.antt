-- Chains of links, over any functions previous and next: each element's neighbours, no element twice, and enough steps walk the whole chain.
-- Assumes nothing.
use mathlib.Core.Path.{◌≡◌, refl, sym, ap, subst, ◌∙◌}
use mathlib.Core.List.{List, [], ◌∷◌}
use mathlib.Core.Logic.{◌⊎◌, inl, inr, ⊎_elim}
use Prim.Native.Nat.{ℕ, zero, suc, ◌+◌, ◌-◌, ◌<◌, ◌≤◌}
use native.Mathlib.Omega.{arith}
use native.Mathlib.Nat.{le_of_suc-le-suc}
use lib.ListN.{length}
use borrow.Author.Tests.{eq-eqb, ne_eqb}
use Rattle.laws.specs.Links.{Joined, Chain, walk}
use Rattle.laws.specs.Members.{Mem, NoDup}
use Rattle.laws.proofs.Pigeonhole.{few}

-- the same chain under other functions that agree on its elements
pub chain_as :
    {previous next previous' next' : ℕ → ℕ} (xs : List ℕ) (p x : ℕ) → ((s : ℕ) → Mem s xs → previous' s ≡ previous s) →
    ((s : ℕ) → Mem s xs → next' s ≡ next s) → Chain previous next p x xs → Chain previous' next' p x xs
chain_as [] p x ep en c = c
chain_as {previous} {next} {previous'} {next'} (y ∷ ys) p x ep en c = (
  record { here = c.0.here; back = ep y (inl refl) ∙ c.0.back },
  subst (λ (z : ℕ). Chain previous' next' (y + 1) z ys) (sym (en y (inl refl)))
      (chain_as ys (y + 1) (next y) (λ s m. ep s (inr m)) (λ s m. en s (inr m)) c.1),
)

-- no element that the link p names is in a list
abbrev pub Apart : ℕ → List ℕ → Type 0
Apart p xs = (y : ℕ) → p ≡ y + 1 → Mem y xs → ⊥

-- ---- walking
module _ (previous next : ℕ → ℕ) where
  -- a chain under these links
  abbrev C : ℕ → ℕ → List ℕ → Type 0
  C = Chain previous next

  -- a link to none leads nowhere
  pub walk_none : (m x : ℕ) → x ≡ 0 → walk next m x ≡ []
  unfolding walk
  walk_none zero x e = refl
  walk_none (suc m) x e = rw (eq-eqb x 0 e)

  -- a link to s leads to s, and then on
  pub walk_some : (m x s : ℕ) → x ≡ s + 1 → walk next (suc m) x ≡ s ∷ walk next m (next s)
  unfolding walk
  walk_some m x s e =
      let n : x ≡ 0 → ⊥ = λ z. omega arith in
      let q : x - 1 ≡ s = omega arith in
      rw (ne_eqb x 0 n, q)

  -- enough steps are enough
  pub chain_walk : (xs : List ℕ) (m p x : ℕ) → C p x xs → length xs ≤ m → walk next m x ≡ xs
  chain_walk [] m p x c h = walk_none m x c
  chain_walk (s ∷ xs) zero p x c h = absurd (let z : ⊥ = omega arith in z)
  chain_walk (s ∷ xs) (suc m) p x c h = walk_some m x s c.0.here ∙ ap (λ (l : List ℕ). s ∷ l) (chain_walk xs m (s + 1) (next s) c.1 (le_of_suc-le-suc h))

  -- one link leads to one chain
  pub chain_one : (xs ys : List ℕ) (p q x : ℕ) → C p x xs → C q x ys → xs ≡ ys
  chain_one [] [] p q x c d = refl
  chain_one [] (z ∷ ys) p q x c d = absurd (let w : ⊥ = omega (arith, d.0.here) in w)
  chain_one (y ∷ xs) [] p q x c d = absurd (let w : ⊥ = omega (arith, c.0.here) in w)
  chain_one (y ∷ xs) (z ∷ ys) p q x c d =
      let e : z ≡ y = omega (arith, c.0.here, d.0.here) in
      let r : xs ≡ ys = chain_one xs ys (y + 1) (z + 1) (next y) c.1 (subst (λ (w : ℕ). C (z + 1) (next w) ys) e d.1) in
      cc

  -- ---- neighbours

  -- the element that the first link names is of the chain
  pub chain_first : (xs : List ℕ) (p x s : ℕ) → C p x xs → x ≡ s + 1 → Mem s xs
  chain_first [] p x s c e = absurd (let w : ⊥ = omega arith in w)
  chain_first (y ∷ xs) p x s c e = inl (omega (arith, c.0.here))

  -- and links back to where the chain begins
  pub chain_back : (xs : List ℕ) (p x s : ℕ) → C p x xs → x ≡ s + 1 → previous s ≡ p
  chain_back [] p x s c e = absurd (let w : ⊥ = omega arith in w)
  chain_back (y ∷ xs) p x s c e = let q : s ≡ y = omega (arith, c.0.here) in ap previous q ∙ c.0.back

  -- what stands next after an element of the chain is of the chain
  pub chain_next : (xs : List ℕ) (p x y s : ℕ) → C p x xs → Mem y xs → next y ≡ s + 1 → Mem s xs
  chain_next [] p x y s c m e = absurd m
  chain_next (z ∷ xs) p x y s c (inl q) e = inr (chain_first xs (z + 1) (next z) s c.1 (sym (ap next q) ∙ e))
  chain_next (z ∷ xs) p x y s c (inr m) e = inr (chain_next xs (z + 1) (next z) y s c.1 m e)

  -- what is left after an element of the chain
  pub chain_rest :
      (xs : List ℕ) (p x s : ℕ) → C p x xs → Mem s xs →
      (zs : List ℕ) × C (s + 1) (next s) zs × (length zs < length xs) × ((y : ℕ) → Mem y zs → Mem y xs)
  chain_rest [] p x s c m = absurd m
  chain_rest (z ∷ xs) p x s c (inl q) = (xs, subst (λ (w : ℕ). C (w + 1) (next w) xs) (sym q) c.1, omega arith, λ y i. inr i)
  chain_rest (z ∷ xs) p x s c (inr m) =
      let r = chain_rest xs (z + 1) (next z) s c.1 m in
      (r.0, r.1, omega (arith, r.2), λ y i. inr (r.3 y i))

  -- what stands before an element of the chain: nothing, or an element that links on to it
  pub chain_previous :
      (xs : List ℕ) (p x s : ℕ) → C p x xs → Mem s xs →
      Joined previous p x s ⊎ ((y : ℕ) × Mem y xs × (previous s ≡ y + 1) × (next y ≡ s + 1))
  chain_previous [] p x s c m = absurd m
  chain_previous (z ∷ xs) p x s c (inl q) = inl (subst (λ (w : ℕ). Joined previous p x w) (sym q) c.0)
  chain_previous (z ∷ xs) p x s c (inr m) =
      ⊎_elim
      (λ o. inr (z, inl refl, o.back, o.here))
      (λ r. inr (r.0, inr r.1, r.2, r.3))
      (chain_previous xs (z + 1) (next z) s c.1 m)

  -- ---- no element twice

  -- an element that stood a second time would link back to two
  twice : (y : ℕ) (xs : List ℕ) (p x : ℕ) → C p x (y ∷ xs) → Apart p (y ∷ xs) → Mem y xs → ⊥
  twice y xs p x c n m =
      ⊎_elim
      (λ o. n y (sym c.0.back ∙ o.back) (inl refl))
      (λ r. n r.0 (sym c.0.back ∙ r.2) (inr r.1))
      (chain_previous xs (y + 1) (next y) y c.1 m)

  -- a chain that does not lead back to where it begins has no element twice
  pub chain_distinct : (xs : List ℕ) (p x : ℕ) → C p x xs → Apart p xs → NoDup xs
  chain_distinct [] p x c n = tt
  chain_distinct (y ∷ xs) p x c n =
      let ny : Mem y xs → ⊥ = λ m. twice y xs p x c n m in
      (ny, chain_distinct xs (y + 1) (next y) c.1 (λ z e m. ny (subst (λ (w : ℕ). Mem w xs) (omega arith) m)))

  -- a list's chain, from its head: no element stands twice
  pub chain_nodup : (xs : List ℕ) (x : ℕ) → C 0 x xs → NoDup xs
  chain_nodup xs x c = chain_distinct xs 0 x c (λ y e m. omega arith)

  -- of numbers below n a chain has at most n
  pub chain_few : (n : ℕ) (xs : List ℕ) (x : ℕ) → C 0 x xs → ((s : ℕ) → Mem s xs → s < n) → length xs ≤ n
  chain_few n xs x c h = few n xs (chain_nodup xs x c) h

  -- so n steps walk the whole chain
  pub chain_walked : (n : ℕ) (xs : List ℕ) (x : ℕ) → C 0 x xs → ((s : ℕ) → Mem s xs → s < n) → walk next n x ≡ xs
  chain_walked n xs x c h = chain_walk xs n 0 x c (chain_few n xs x c h)

  -- an element does not link on to itself
  pub chain_no_next : (xs : List ℕ) (p x s : ℕ) → C p x xs → NoDup xs → Mem s xs → next s ≡ s + 1 → ⊥
  chain_no_next [] p x s c d m e = m
  chain_no_next (z ∷ xs) p x s c d (inl q) e = d.0 (chain_first xs (z + 1) (next z) z c.1 (omega (arith, ap next q)))
  chain_no_next (z ∷ xs) p x s c d (inr m) e = chain_no_next xs (z + 1) (next z) s c.1 d.1 m e

  -- nor back
  pub chain_no_back : (xs : List ℕ) (x s : ℕ) → C 0 x xs → Mem s xs → previous s ≡ s + 1 → ⊥
  chain_no_back xs x s c m e =
      ⊎_elim
      (λ o. omega (arith, o.back))
      (λ r. chain_no_next xs 0 x s c (chain_nodup xs x c) m (let q : r.0 ≡ s = omega (arith, r.2) in sym (ap next q) ∙ r.3))
      (chain_previous xs 0 x s c m)

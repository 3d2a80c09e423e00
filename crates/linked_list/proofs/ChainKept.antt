-- The lists of a table as chains: what push, remove and pop make of their own list, and that they leave every list apart from it alone.
-- Assumes nothing.
use mathlib.Core.Path.{◌≡◌, refl, sym, subst}
use mathlib.Core.List.{List, ◌∷◌}
use mathlib.Core.Logic.{inl, inr, ⊎_elim}
use Prim.Native.Nat.{ℕ, ◌-◌, ◌<◌, ◌≤◌}
use native.Mathlib.Omega.{arith}
use Rattle.laws.specs.Links.{Chain}
use Rattle.laws.specs.Members.{Mem, without}
use Rattle.laws.specs.Listed.{Pushed, Removed}
use Rattle.laws.proofs.ChainLaws.{chain_walked, chain_first, chain_next, chain_previous, chain_nodup, chain_no_next, chain_no_back}
use Rattle.laws.proofs.ChainSteps.{chain_push, chain_push_other, chain_remove, chain_pop, chain_remove_other}
use Rattle.laws.proofs.MemberLaws.{without_mem}
use Rattle.tables.specs.declared.ClassHeap.{ClassHeap}
use Rattle.tables.specs.Cells.{Tables, previous_at, next_at, head_cell, head_at, reserve}
use Rattle.tables.proofs.CellLaws.{head_same, list_in}
use Rattle.linked_list.specs.Lists.{push, remove, pop, list_of}
use Rattle.linked_list.specs.Reach.{Links}
use Rattle.linked_list.specs.Named.{heads_at}
use Rattle.linked_list.proofs.ListCells.{push_pushed, remove_removed}

-- list f of k is the chain of xs
abbrev pub ChainOf : Tables → ClassHeap → ℕ → List ℕ → Type 0
ChainOf t k f xs = Chain (previous_at t) (next_at t) 0 (head_at t k f) xs

-- no span is in both lists
abbrev pub Disjoint : List ℕ → List ℕ → Type 0
Disjoint xs ys = (s : ℕ) → Mem s xs → Mem s ys → ⊥

-- lists of different rows, or different lists of one row, have different heads
pub heads_apart :
    (j k : ClassHeap) (g f : ℕ) → g ≤ reserve → f ≤ reserve → (j.row ≡ k.row → g ≡ f → ⊥) → head_cell j.row g ≡ head_cell k.row f → ⊥
heads_apart j k g f hg hf n e = let q = head_same j.row k.row (list_in (omega arith)) (list_in (omega arith)) e in n q.0 q.1

-- a chain of used spans is the whole list
pub list_whole : (t : Tables) (k : ClassHeap) (f : ℕ) (xs : List ℕ) → ChainOf t k f xs → ((s : ℕ) → Mem s xs → s < t.used) → list_of t k f ≡ xs
list_whole t k f xs c h = chain_walked (previous_at t) (next_at t) t.used xs (head_at t k f) c h

module _ {n : ℕ} (t : Tables) (k : ClassHeap) (f : ℕ) (r : Links n t.spans t.heads k.row) (hf : f ≤ reserve) (xs : List ℕ) (c : ChainOf t k f xs) where
  -- ---- push of a span that the list does not hold
  module _ (s : ℕ) (hs : s < n) (out : Mem s xs → ⊥) where
    -- the front is another span
    pushed : Pushed (previous_at t) (next_at t) (heads_at t) (previous_at (push t k f s)) (next_at (push t k f s)) (heads_at (push t k f s)) (head_cell k.row f) s
    pushed = push_pushed t k f s r hf hs (λ e. out (chain_first (previous_at t) (next_at t) xs 0 (head_at t k f) s c e))

    -- the list has the span in front
    pub push_chain : ChainOf (push t k f s) k f (s ∷ xs)
    push_chain = chain_push pushed xs c out

    -- every list that holds neither the span nor a span of this one stays
    pub push_chain_other :
        (j : ClassHeap) (g : ℕ) (ys : List ℕ) → g ≤ reserve → (j.row ≡ k.row → g ≡ f → ⊥) → ChainOf t j g ys → (Mem s ys → ⊥) →
        Disjoint xs ys → ChainOf (push t k f s) j g ys
    push_chain_other j g ys hg other d off apart =
        chain_push_other pushed (head_cell j.row g) ys (heads_apart j k g f hg hf other) d off
        (λ y e m. apart y (chain_first (previous_at t) (next_at t) xs 0 (head_at t k f) y c e) m)

  -- ---- remove of a span that the list holds
  module _ (s : ℕ) (hs : s < n) (here : Mem s xs) where
    -- it does not link to itself
    removed : Removed (previous_at t) (next_at t) (heads_at t) (previous_at (remove t k f s)) (next_at (remove t k f s)) (heads_at (remove t k f s)) (head_cell k.row f) s
    removed =
        remove_removed t k f s r hf hs
        (chain_no_next (previous_at t) (next_at t) xs 0 (head_at t k f) s c (chain_nodup (previous_at t) (next_at t) xs (head_at t k f) c) here)
        (chain_no_back (previous_at t) (next_at t) xs (head_at t k f) s c here)

    -- the list without it
    pub remove_chain : ChainOf (remove t k f s) k f (without s xs)
    remove_chain = chain_remove removed xs c here

    -- every list that holds no span of this one stays
    pub remove_chain_other :
        (j : ClassHeap) (g : ℕ) (ys : List ℕ) → g ≤ reserve → (j.row ≡ k.row → g ≡ f → ⊥) → ChainOf t j g ys → Disjoint xs ys →
        ChainOf (remove t k f s) j g ys
    remove_chain_other j g ys hg other d apart =
        chain_remove_other removed (head_cell j.row g) ys (heads_apart j k g f hg hf other) d (apart s here)
        (λ y e m. apart y (chain_next (previous_at t) (next_at t) xs 0 (head_at t k f) s y c here e) m)
        (λ y e m.
        ⊎_elim
        (λ o. omega (arith, o.back))
        (λ o. apart y (subst (λ (z : ℕ). Mem z xs) (omega (arith, o.2)) o.1) m)
        (chain_previous (previous_at t) (next_at t) xs 0 (head_at t k f) s c here))

-- ---- pop of a list that is not empty
module _ {n : ℕ} (t : Tables) (k : ClassHeap) (f : ℕ) (r : Links n t.spans t.heads k.row) (hf : f ≤ reserve) (s : ℕ) (xs : List ℕ) (c : ChainOf t k f (s ∷ xs)) where
  -- the front is a span among the n
  front_in : s < n
  front_in = omega (arith, c.0.here, r.fronts f hf)

  -- pop removes it
  pub pop_front : pop t k f ≡ remove t k f s
  unfolding pop
  pop_front = let e : head_at t k f - 1 ≡ s = omega (arith, c.0.here) in rw e

  -- the list is the rest
  pub pop_chain : ChainOf (pop t k f) k f xs
  pop_chain = rw pop_front (chain_pop (removed t k f r hf (s ∷ xs) c s front_in (inl refl)) xs c)

  -- every list that holds no span of this one stays
  pub pop_chain_other :
      (j : ClassHeap) (g : ℕ) (ys : List ℕ) → g ≤ reserve → (j.row ≡ k.row → g ≡ f → ⊥) → ChainOf t j g ys → Disjoint (s ∷ xs) ys →
      ChainOf (pop t k f) j g ys
  pop_chain_other j g ys hg other d apart = rw pop_front (remove_chain_other t k f r hf (s ∷ xs) c s front_in (inl refl) j g ys hg other d apart)

-- ---- the same of the lists as they are walked
module _ {n : ℕ} (t : Tables) (k : ClassHeap) (f : ℕ) (r : Links n t.spans t.heads k.row) (hf : f ≤ reserve) (c : ChainOf t k f (list_of t k f)) (own : (s : ℕ) → Mem s (list_of t k f) → s < t.used) where
  -- one span more, in front
  pub push_list : (s : ℕ) → s < n → s < t.used → (Mem s (list_of t k f) → ⊥) → list_of (push t k f s) k f ≡ s ∷ list_of t k f
  push_list s hs hu out =
      list_whole (push t k f s) k f (s ∷ list_of t k f) (push_chain t k f r hf (list_of t k f) c s hs out)
      (λ y m. unfold push in ⊎_elim (λ e. omega arith) (λ i. own y i) m)

  -- one span fewer
  pub remove_list : (s : ℕ) → s < n → Mem s (list_of t k f) → list_of (remove t k f s) k f ≡ without s (list_of t k f)
  remove_list s hs here =
      list_whole (remove t k f s) k f (without s (list_of t k f)) (remove_chain t k f r hf (list_of t k f) c s hs here)
      (λ y m. unfold remove in own y (without_mem s y (list_of t k f) m))

  -- the front gone
  pub pop_list : (s : ℕ) (xs : List ℕ) → list_of t k f ≡ s ∷ xs → list_of (pop t k f) k f ≡ xs
  pop_list s xs e =
      let d : ChainOf t k f (s ∷ xs) = subst (λ (l : List ℕ). ChainOf t k f l) e c in
      list_whole (pop t k f) k f xs (pop_chain t k f r hf s xs d)
      (λ y m. rw (pop_front t k f r hf s xs d) (unfold remove in own y (subst (λ (l : List ℕ). Mem y l) (sym e) (inr m))))

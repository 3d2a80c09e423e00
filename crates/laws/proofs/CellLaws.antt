-- Laws of cells after a store. Assumes nothing.
use mathlib.Core.Path.{◌≡◌, sym, subst}
use mathlib.Core.List.{List, [], ◌∷◌}
use Prim.Native.Nat.{ℕ, zero, suc, ◌<◌}
use native.Mathlib.Decide.{ℕ_discrete}
use lib.ListN.{length, get_or, set}
use lib.Seq.{get_or-set_same, get_or-set_other}

-- What holds of v at i, and elsewhere of what was there, holds everywhere after the store.
pub set_at : (P : ℕ → ℕ → Type 0) (l : List ℕ) (i v : ℕ) → i < length l → P i v → ((j : ℕ) → (j ≡ i → ⊥) → P j (get_or l j 0)) → (j : ℕ)
    → P j (get_or (set l i v) j 0)
set_at P l i v h here there j = go (ℕ_discrete j i)
  where
    go : Dec (j ≡ i) → P j (get_or (set l i v) j 0)
    go (yes e) = subst (λ (k : ℕ). P k (get_or (set l i v) k 0)) (sym e) (subst (P i) (sym (get_or-set_same l i v 0 h)) here)
    go (no n) = subst (P j) (sym (get_or-set_other l i j v 0 n)) (there j n)

-- What holds of a cell and of the number stored holds of the cell after the store, wherever that was made.
pub at_set : (P : ℕ → Type 0) (l : List ℕ) (i j v : ℕ) → P (get_or l i 0) → P v → P (get_or (set l j v) i 0)
at_set P [] i j v p q = p
at_set P (x ∷ l) zero zero v p q = q
at_set P (x ∷ l) zero (suc j) v p q = p
at_set P (x ∷ l) (suc i) zero v p q = p
at_set P (x ∷ l) (suc i) (suc j) v p q = at_set P l i j v p q

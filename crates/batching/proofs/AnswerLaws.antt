-- The cells of an answer. Assumes nothing.
use mathlib.Core.Path.{◌≡◌}
use mathlib.Core.List.{List, [], ◌∷◌}
use Prim.Native.Nat.{ℕ, suc, ◌+◌, ◌<◌}
use native.Mathlib.Omega.{arith}
use lib.ListN.{length, set, length-set}
use lib.Seq.{sets}

-- A store keeps a place within a list.
pub long_after : (l : List ℕ) (i v : ℕ) {j : ℕ} → j < length l → j < length (set l i v)
long_after l i v h = rw (length-set l i v) h

-- Three stores one after the other.
pub three_stores : (l : List ℕ) (at a b c : ℕ) → set (set (set l at a) (at + 1) b) (at + 2) c ≡ sets l at (a ∷ b ∷ c ∷ [])
three_stores l at a b c =
    let one : at + 1 ≡ suc at = omega arith in
    let two : at + 2 ≡ suc (suc at) = omega arith in
    rw (one, two)

-- Which list a span may be in, by its count of occupied slots. Assumes nothing.
use mathlib.Core.Path.{◌≡◌, refl}
use Prim.Native.Nat.{ℕ, ◌<◌, ◌≤◌}
use native.Mathlib.Omega.{arith}
use Rattle.tables.specs.Cells.{partial_list, full_list, empty_list, reserve}
use Rattle.linked_list.proofs.PlacedLaws.{by_four}
use Rattle.homes.specs.Homes.{Fits}

-- a span neither empty nor full may be partial
pub fits_partial : {n m : ℕ} → 0 < n → n < m → Fits partial_list n m
fits_partial lo hi =
    record {
      low = omega arith;
      some = λ e. lo;
      room = λ e. hi;
      all = λ e. absurd (let z : ⊥ = omega arith in z);
      none = λ e. absurd (let z : ⊥ = omega arith in z);
    }

-- a full one may be in the full list
pub fits_full : {n m : ℕ} → n ≡ m → Fits full_list n m
fits_full e =
    record {
      low = omega arith;
      some = λ q. absurd (let z : ⊥ = omega arith in z);
      room = λ q. absurd (let z : ⊥ = omega arith in z);
      all = λ q. e;
      none = λ q. absurd (let z : ⊥ = omega arith in z);
    }

-- an empty one may be in the empty list or the reserve
pub fits_empty : {f n m : ℕ} → empty_list ≤ f → f ≤ reserve → n ≡ 0 → Fits f n m
fits_empty lo hi e =
    record {
      low = hi;
      some = λ q. absurd (let z : ⊥ = omega arith in z);
      room = λ q. absurd (let z : ⊥ = omega arith in z);
      all = λ q. absurd (let z : ⊥ = omega arith in z);
      none = λ q. e;
    }

module _ {f n m : ℕ} (o : Fits f n m) where
  -- a full span, of some slots, may be in the full list alone
  pub full_fits : 0 < m → n ≡ m → f ≡ full_list
  full_fits some e =
      by_four (λ f. Fits f n m → f ≡ full_list) f o.low
      (λ o. absurd (let z : ⊥ = omega (arith, o.room refl) in z)) (λ o. refl)
      (λ o. absurd (let z : ⊥ = omega (arith, o.none (omega arith)) in z))
      (λ o. absurd (let z : ⊥ = omega (arith, o.none (omega arith)) in z)) o

  -- a span neither empty nor full may be partial alone
  pub partial_fits : 0 < n → n < m → f ≡ partial_list
  partial_fits lo hi =
      by_four (λ f. Fits f n m → f ≡ partial_list) f o.low (λ o. refl)
      (λ o. absurd (let z : ⊥ = omega (arith, o.all refl) in z))
      (λ o. absurd (let z : ⊥ = omega (arith, o.none (omega arith)) in z))
      (λ o. absurd (let z : ⊥ = omega (arith, o.none (omega arith)) in z)) o

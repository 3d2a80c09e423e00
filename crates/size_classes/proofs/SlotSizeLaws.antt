-- What holds of the slot sizes of every admissible list, and that 01's list is admissible. Assumes nothing.
use mathlib.Core.List.{List}
use mathlib.Core.Path.{◌≡◌, refl}
use Prim.Native.Nat.{ℕ, suc, ◌-◌, ◌%◌, ◌≤◌, ◌<◌}
use native.Mathlib.Nat.{mod-eq_of_lt, le_refl}
use native.Mathlib.Decide.{dec_lt, ℕ_discrete}
use native.Mathlib.Omega.{arith}
use lib.Dec.{lit<, lit≤}
use lib.ListN.{length}
use Rattle.laws.proofs.Rising.{rises_below}
use Rattle.laws.proofs.TableLaws.{each_below}
use Rattle.size_classes.specs.SlotSizes.{rising, groups, slot_sizes, slot_size, last_size, least_alignment, largest_slot, most_classes, Admissible}

-- Each of 01's slots is smaller than the next class's.
slot_sizes_step : (k : ℕ) → k < 47 → slot_size slot_sizes k < slot_size slot_sizes (suc k)
unfolding slot_sizes rising groups dec_lt
slot_sizes_step = each_below (λ k. dec_lt (slot_size slot_sizes k) (slot_size slot_sizes (suc k))) 47 tt

-- 01's list of slot sizes is admissible.
pub slot_sizes_admissible : Admissible slot_sizes
unfolding slot_sizes rising groups most_classes least_alignment largest_slot dec_lt ℕ_discrete
slot_sizes_admissible =
    record {
      some = lit< tt;
      few = lit≤ tt;
      multiple = each_below (λ k. ℕ_discrete (slot_size slot_sizes k % least_alignment) 0) 48 tt;
      positive = each_below (λ k. dec_lt 0 (slot_size slot_sizes k)) 48 tt;
      rises = rises_below (slot_size slot_sizes) 48 (λ k h. slot_sizes_step k (omega arith));
      power = (17, refl);
      largest = lit≤ tt;
    }

module _ (sizes : List ℕ) (ok : Admissible sizes) where
  -- No slot is larger than a later class's.
  pub size_le : (j k : ℕ) → j ≤ k → k < length sizes → slot_size sizes j ≤ slot_size sizes k
  size_le j k h l =
      elim (dec_lt j k) [
        | yes y ↦ omega (arith, ok.rises j k y l)
        | no y ↦ let e : j ≡ k = omega arith in rw e (le_refl (slot_size sizes k))
      ]

  -- No slot is larger than the last class's.
  pub size_last : (k : ℕ) → k < length sizes → slot_size sizes k ≤ last_size sizes
  size_last k l = size_le k (length sizes - 1) (omega arith) (omega arith)

  -- No slot is larger than the largest that any list has.
  pub size_largest : (k : ℕ) → k < length sizes → slot_size sizes k ≤ largest_slot
  size_largest k l = omega (arith, size_last k l, ok.largest)

  -- Every slot holds the least alignment.
  pub size_least : (k : ℕ) → k < length sizes → least_alignment ≤ slot_size sizes k
  size_least k l =
      elim (dec_lt (slot_size sizes k) least_alignment) [
        | yes y ↦ omega (arith, ok.positive k l, ok.multiple k l, mod-eq_of_lt y)
        | no y ↦ omega arith
      ]

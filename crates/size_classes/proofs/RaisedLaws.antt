-- The raised alignment: a power of two, the first that is not below the alignment. Assumes nothing.
use mathlib.Core.List.{List}
use mathlib.Core.Path.{◌≡◌, refl, ap, sym, ◌∙◌}
use Prim.Native.Nat.{ℕ, ◌+◌, ◌/◌, ◌%◌, ◌^◌, ◌≤◌, ◌<◌, max}
use Rattle.std.specs.Int.{IsPowerOfTwo}
use native.Mathlib.Decide.{dec_lt}
use native.Mathlib.Omega.{arith}
use lib.Dec.{leb}
use lib.ListN.{length}
use lib.Pow.{pow_pos, pow_mono, pow-add, pow-lt}
use borrow.Author.Tests.{leb-true, le-leb, lt-leb}
use Rattle.laws.specs.First.{first}
use Rattle.laws.proofs.FirstLaws.{first_is, first_holds, first_le}
use Rattle.laws.proofs.Powers.{power_divides, multiple_of}
use Rattle.size_classes.specs.SlotSizes.{slot_size, last_size, least_alignment, Admissible}
use Rattle.size_classes.specs.Class.{raised}

-- the exponent of the raised alignment
unfoldable exponent : ℕ → ℕ
exponent a = first (λ j. leb a (2 ^ j)) 64 0

-- The raised alignment is a power of two.
raised_power : (a : ℕ) → raised a ≡ 2 ^ exponent a
unfolding raised exponent
raised_power a = refl

-- A power of two not below the alignment, with the smaller powers below it, is the raised alignment.
pub raised_is : (a j : ℕ) → j ≤ 64 → a ≤ 2 ^ j → ((i : ℕ) → i < j → 2 ^ i < a) → raised a ≡ 2 ^ j
unfolding raised
raised_is a j h l u =
    ap (λ (n : ℕ). 2 ^ n)
    (first_is (λ i. leb a (2 ^ i)) 64 0 j (omega arith) (omega arith) (le-leb a (2 ^ j) l) (λ i z k. lt-leb a (2 ^ i) (u i k)))

-- So is a power of two not below the alignment whose half is.
pub raised_by_half : (a r : ℕ) → a ≤ 2 ^ 63 → IsPowerOfTwo r → a ≤ r → r / 2 < max 1 a → r ≡ raised a
raised_by_half a r top power low high =
    let k = power.0 in
    let is : r ≡ 2 ^ k = power.1 in
    let passed : ((i : ℕ) → i < k → 2 ^ i < a) =
    (λ i h. omega (arith, is, high, pow_pos i, pow-add 2 i 1, pow_mono {i = i + 1} {j = k} (omega arith))) in
    let few : k ≤ 64 =
    elim (dec_lt 64 k) [ yes y ↦ absurd (omega (arith, top, passed 64 y)) | no y ↦ omega arith ] in
    is ∙ sym (raised_is a k few (omega (arith, is, low)) passed)

-- An alignment of at most 2 ^ 64 is not above its raised one.
pub raised_ge : (a : ℕ) → a ≤ 2 ^ 64 → a ≤ raised a
unfolding raised
raised_ge a h = leb-true a (raised a) (first_holds (λ j. leb a (2 ^ j)) 64 0 64 (omega arith) (omega arith) (le-leb a (2 ^ 64) h))

-- The exponent is at most that of any power of two that is not below the alignment.
exponent_le : (a j : ℕ) → a ≤ 2 ^ j → exponent a ≤ j
unfolding exponent
exponent_le a j h = first_le (λ i. leb a (2 ^ i)) 64 0 j (omega arith) (le-leb a (2 ^ j) h)

-- A raised alignment is positive.
pub raised_pos : (a : ℕ) → 0 < raised a
raised_pos a = rw raised_power (pow_pos (exponent a))

-- A raised alignment is at most any power of two that is not below the alignment.
pub raised_le : (a j : ℕ) → a ≤ 2 ^ j → raised a ≤ 2 ^ j
raised_le a j h = rw raised_power (pow_mono (exponent_le a j h))

-- A raised alignment divides every power of two that is not below it.
pub raised_divides : (a j : ℕ) → raised a ≤ 2 ^ j → 2 ^ j % raised a ≡ 0
raised_divides a j h =
    rw raised_power
    (elim (dec_lt j (exponent a)) [
      | yes y ↦ absurd (omega (arith, raised_power a, pow-lt y))
      | no y ↦ power_divides (exponent a) j (omega arith)
    ])

-- The least alignment is a power of two.
least_power : least_alignment ≡ 2 ^ 4
unfolding least_alignment
least_power = refl

-- An alignment not above the least one is raised to one not above it.
pub raised_least : (a : ℕ) → a ≤ least_alignment → raised a ≤ least_alignment
raised_least a h = rw least_power (raised_le a 4 (rw least_power at h))

module _ (sizes : List ℕ) (ok : Admissible sizes) (a : ℕ) where
  -- An alignment not above the last size is raised to one not above it.
  pub raised_last : a ≤ last_size sizes → raised a ≤ last_size sizes
  raised_last h = rw ok.power.1 (raised_le a ok.power.0 (rw ok.power.1 at h))

  -- The last size is a multiple of every raised alignment that is not above it.
  pub last_aligned : raised a ≤ last_size sizes → last_size sizes % raised a ≡ 0
  last_aligned h = rw ok.power.1 (raised_divides a ok.power.0 (rw ok.power.1 at h))

  -- Every slot is a multiple of every raised alignment that is not above the least one.
  pub small_aligned : raised a ≤ least_alignment → (k : ℕ) → k < length sizes → slot_size sizes k % raised a ≡ 0
  small_aligned h k l =
      let d : least_alignment % raised a ≡ 0 = rw least_power (raised_divides a 4 (rw least_power at h)) in
      multiple_of (slot_size sizes k) least_alignment (raised a) d (ok.multiple k l)

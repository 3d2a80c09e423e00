-- Powers of two divide one another. Assumes nothing.
use mathlib.Core.Path.{◌≡◌}
use Prim.Native.Nat.{ℕ, ◌+◌, ◌-◌, ◌%◌, ◌^◌, ◌≤◌}
use native.Mathlib.Nat.{mul-mod_left, mod-mod_of_dvd, dvd_of_mod-eq-zero, zero-mod}
use native.Mathlib.Omega.{arith}
use lib.Pow.{pow-add}

-- A power of two is a multiple of every power of two that is not above it.
pub power_divides : (i j : ℕ) → i ≤ j → 2 ^ j % 2 ^ i ≡ 0
power_divides i j h =
    let e : (j - i) + i ≡ j = omega arith in
    rw (← e, pow-add 2 (j - i) i) (mul-mod_left (2 ^ (j - i)) (2 ^ i))

-- A multiple of a multiple of a number is a multiple of that number.
pub multiple_of : (x b d : ℕ) → b % d ≡ 0 → x % b ≡ 0 → x % d ≡ 0
multiple_of x b d h m = rw (← mod-mod_of_dvd d x (dvd_of_mod-eq-zero d h), m) (zero-mod d)

-- Division by multiplication, over whole numbers: the quotient by d is the part above M of the product with a number m that is 1/d of M or a
-- little more. Assumes nothing.
use mathlib.Core.Path.{◌≡◌, sym}
use Prim.Native.Nat.{ℕ, ◌+◌, ◌-◌, ◌*◌, ◌/◌, ◌≤◌, ◌<◌}
use native.Mathlib.Nat.{div-eq_of_lt-le, div-mul-le_self, lt-div-mul-add, div-lt_iff_lt-mul, mul-le-mul_right, mul_assoc, mul_comm, add-mul, mul-add, one-mul}
use native.Mathlib.Omega.{arith}

module _ (M d m n x q e : ℕ) (over : m * d ≡ M + e) (low : q * d ≤ x) (high : x + 1 ≤ (q + 1) * d) (inside : q + 1 ≤ n) (small : n * e < m) where
  -- k quotients take k times M, and k times the excess.
  spread : (k : ℕ) → k * d * m ≡ k * M + k * e
  spread k = rw (mul_assoc, mul_comm d m, over, mul-add)

  -- The product is not below q times M.
  at_least : q * M ≤ x * m
  at_least = omega (arith, spread q, mul-le-mul_right m low)

  -- The product is below the next multiple of M.
  below_next : x * m < (q + 1) * M
  below_next =
      let a : x * m + m ≤ (q + 1) * d * m = rw (add-mul x 1 m, one-mul) at (mul-le-mul_right m high) in
      omega (arith, spread (q + 1), mul-le-mul_right e inside)

-- Division by d of a number below n times d is multiplication by m, where m times d is above M by so little that n times the excess is below m.
pub by_multiplying : (M d m n x : ℕ) → 0 < d → M ≤ m * d → n * (m * d - M) < m → x < n * d → x / d ≡ x * m / M
by_multiplying M d m n x pos over small inside =
    let o : m * d ≡ M + (m * d - M) = omega arith in
    let l : x / d * d ≤ x = div-mul-le_self x d in
    let h : x + 1 ≤ (x / d + 1) * d = rw (add-mul, one-mul) (omega (arith, lt-div-mul-add {a = x} pos)) in
    let i : x / d < n = (div-lt_iff_lt-mul pos).1 inside in
    let j : x / d + 1 ≤ n = omega arith in
    sym
    (div-eq_of_lt-le
    M
    (at_least M d m n x (x / d) (m * d - M) o l h j small)
    (below_next M d m n x (x / d) (m * d - M) o l h j small))

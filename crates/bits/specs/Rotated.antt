-- A word of 64 bits turned. Assumes nothing.
use Rattle.std.specs.Prelude.{ℕ, ◌+◌, ◌-◌, ◌*◌, ◌/◌, ◌%◌, ◌^◌}

-- the k low bits and the 64 - k high ones change places; and back
abbrev pub rotated_right : ℕ → ℕ → ℕ
rotated_right x k = x % 2 ^ k * 2 ^ (64 - k) + x / 2 ^ k

abbrev pub rotated_left : ℕ → ℕ → ℕ
rotated_left x k = x % 2 ^ (64 - k) * 2 ^ k + x / 2 ^ (64 - k)

-- What a write of text does, where there is room for so many bytes in all. Assumes nothing.
use Rattle.std.specs.Prelude.{ℕ, ◌+◌, ◌≤◌, ◌≡◌, List, ◌∷◌, ◌++◌, length, take}
use Rattle.io.specs.Digits.{last_digits, IsDigitCount}

-- the text stands after what stood before, and what does not fit is left out
abbrev pub Wrote : ℕ → List ℕ → List ℕ → List ℕ → Type 0
Wrote room before text now = now ≡ take room (before ++ text)

-- t is n in decimal, in the fewest digits
abbrev pub Decimal : ℕ → List ℕ → Type 0
Decimal n t = (k : ℕ) × (IsDigitCount 10 1 n k) × (t ≡ last_digits 10 k n)

-- n in decimal was written
abbrev pub WroteNumber : ℕ → List ℕ → ℕ → List ℕ → Type 0
WroteNumber room before n now = (t : List ℕ) × Decimal n t × Wrote room before t now

-- a space and n in decimal were written
abbrev pub WroteField : ℕ → List ℕ → ℕ → List ℕ → Type 0
WroteField room before n now = (t : List ℕ) × Decimal n t × Wrote room before (0x20 ∷ t) now

-- where text fits in a buffer from the place at on: it stands there after what stood before, and the next place is r
abbrev pub Copied : List ℕ → ℕ → List ℕ → List ℕ → ℕ → Type 0
Copied before at text now r = at + length text ≤ length before → (r ≡ at + length text) × (take r now ≡ take at before ++ text)

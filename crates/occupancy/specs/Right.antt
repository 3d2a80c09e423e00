-- One span's occupancy: when it is right, what may be released of it, what a claim took of it, and the summary's first clear bit. Assumes nothing.
use Rattle.std.specs.Prelude.{◌≡◌, Bool, true, false, not, cond, List, ℕ, ◌+◌, ◌-◌, ◌*◌, ◌/◌, ◌%◌, ◌^◌, ◌<◌, ◌≤◌, min, length, get_or, eqb}
use Rattle.laws.specs.Choice.{sum}
use Rattle.laws.specs.First.{first}
use Rattle.laws.specs.Word.{all_ones, is_set, popcount}
use Rattle.occupancy.specs.declared.Occupancy.{Occupancy}
use Rattle.occupancy.specs.Occupied.{word_of}

-- slot q is taken
abbrev pub is_taken : Occupancy → ℕ → Bool
is_taken o q = is_set (word_of o (q / 64)) (q % 64)

-- how many of the first n slots are taken
abbrev pub taken_below : Occupancy → ℕ → ℕ
taken_below o n = sum n (λ q. cond (is_taken o q) 1 0)

-- the occupancy of a span with so many slots
pub record Right (slots : ℕ) (o : Occupancy) : Type 0 where
  -- 64 words of 64 slots
  pub within : slots ≤ 4096
  pub long : length o.words ≡ 64
  -- words and summary are numbers of 64 bits
  pub small : (i : ℕ) → i < 64 → word_of o i < 2 ^ 64
  pub top : o.summary < 2 ^ 64
  -- "A summary bit is set exactly when its word is all ones."
  pub full : (i : ℕ) → i < 64 → is_set o.summary i ≡ eqb (word_of o i) all_ones
  -- "Bits past the last slot are set"
  pub past : (q : ℕ) → q < 4096 → slots ≤ q → is_taken o q ≡ true
  -- "occupied equals the in-range set bits"
  pub counted : o.count ≡ taken_below o slots

-- the slots of a mask in word i are slots of the span, and taken
pub record Held (slots : ℕ) (o : Occupancy) (i mask : ℕ) : Type 0 where
  pub place : i < 64
  pub word : mask < 2 ^ 64
  pub held : (b : ℕ) → b < 64 → is_set mask b ≡ true → (i * 64 + b < slots) × (is_set (word_of o i) b ≡ true)

-- the slots of 64 pending words, from word `from` on, are slots of the span, and taken
pub record Pending (slots : ℕ) (o : Occupancy) (from : ℕ) (pending : List ℕ) : Type 0 where
  pub small : (i : ℕ) → i < 64 → get_or pending i 0 < 2 ^ 64
  pub held : (q : ℕ) → from * 64 ≤ q → q < 4096 → is_set (get_or pending (q / 64) 0) (q % 64) ≡ true → (q < slots) × (is_taken o q ≡ true)

-- what a claim of at most m slots took: the slots of a mask in word i
pub record Took (slots m : ℕ) (before : Occupancy) (i mask : ℕ) (after : Occupancy) : Type 0 where
  pub place : i < 64
  pub word : mask < 2 ^ 64
  -- all that the word has free, or m of them; at least one
  pub number : popcount mask ≡ min m (popcount (all_ones - word_of before i))
  pub some : 0 < popcount mask
  -- each a slot of the span, free before and taken after
  pub in_range : (b : ℕ) → b < 64 → is_set mask b ≡ true → i * 64 + b < slots
  pub free : (b : ℕ) → b < 64 → is_set mask b ≡ true → is_taken before (i * 64 + b) ≡ false
  pub taken : (b : ℕ) → b < 64 → is_set mask b ≡ true → is_taken after (i * 64 + b) ≡ true
  -- no other slot changed
  pub others : (q : ℕ) → (q / 64 ≡ i → is_set mask (q % 64) ≡ false) → is_taken after q ≡ is_taken before q
  pub count : after.count ≡ before.count + popcount mask

-- the first clear bit of a summary, cyclically from bit `from` on: counted on past 63, and 64 past the start where there is none
abbrev pub first_clear : ℕ → ℕ → ℕ
first_clear summary from = first (λ i. not (is_set summary (i % 64))) 64 from

-- What soundness asks of one word of a span: a local word x and a remote word p. Assumes nothing.
use Rattle.std.specs.Prelude.{◌≡◌, true, not, List, ℕ, ◌+◌, ◌-◌, ◌*◌, ◌^◌, ◌<◌, ◌≤◌, min, eqb, length, get_or}
use Rattle.laws.specs.Choice.{sum}
use Rattle.laws.specs.Word.{all_ones, is_set, popcount}
use Rattle.size_classes.specs.SlotSizes.{slot_size}
use Rattle.size_classes.specs.Slots.{slots_per_span}
use Rattle.tables.specs.Shape.{Shape, bitmap_cells, record_cells}
use Rattle.tables.specs.Cells.{Tables, bitmap_cell, bitmap_word, span_cell, class_field, local_summary, local_word, remote_summary, remote_word}
use Rattle.sound.specs.Sound.{home_of}

-- the bits of word i that are past the last slot
unfoldable pub pad_of : ℕ → ℕ → ℕ
pad_of slots i = 2 ^ 64 - 2 ^ min (slots - i * 64) 64

-- word i of a span with so many slots
pub record WordSound (slots summary pending_summary i x p : ℕ) : Type 0 where
  pub full : is_set summary i ≡ eqb x all_ones
  pub some : is_set pending_summary i ≡ not (eqb p 0)
  pub past : (b : ℕ) → b < 64 → slots ≤ i * 64 + b → is_set x b ≡ true
  pub pending : (b : ℕ) → b < 64 → is_set p b ≡ true → (i * 64 + b < slots) × (is_set x b ≡ true)

-- the cells of all used spans are there
pub record UsedCells (bits spans : List ℕ) (used : ℕ) : Type 0 where
  pub words : used * bitmap_cells ≤ length bits
  pub fields : used * record_cells ≤ length spans

-- word i of span s, in a table
abbrev pub WordFilled : Shape → Tables → ℕ → ℕ → Type 0
WordFilled g t s i =
    WordSound (home_of g t s).slots (bitmap_word t s local_summary) (bitmap_word t s remote_summary) i (bitmap_word t s (local_word i))
    (bitmap_word t s (remote_word i))

-- the set bits of the first n words of span s
abbrev pub word_bits : Tables → ℕ → ℕ → ℕ
word_bits t s n = sum n (λ i. popcount (bitmap_word t s (local_word i)))

-- what is read of span s before its words
pub record SpanRead (sizes bits spans : List ℕ) (s class slots summary pending : ℕ) : Type 0 where
  pub of_class : class ≡ get_or spans (span_cell s class_field) 0
  pub of_slots : slots ≡ slots_per_span (slot_size sizes class)
  pub of_summary : summary ≡ get_or bits (bitmap_cell s local_summary) 0
  pub of_pending : pending ≡ get_or bits (bitmap_cell s remote_summary) 0

-- the first n words of span s are right, and `total` bits of them are set
pub record WordsPassed (bits : List ℕ) (s slots summary pending n total : ℕ) : Type 0 where
  pub few : n ≤ 64
  pub most : total ≤ 64 * n
  pub counted : total ≡ sum n (λ i. popcount (get_or bits (bitmap_cell s (local_word i)) 0))
  pub each :
      (i : ℕ) → i < n →
      WordSound slots summary pending i (get_or bits (bitmap_cell s (local_word i)) 0) (get_or bits (bitmap_cell s (remote_word i)) 0)

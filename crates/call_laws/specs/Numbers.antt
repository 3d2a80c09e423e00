-- The numbers that the calls answer, each with its row of 01's table "What comes back": "Given exactly when". Assumes nothing.
use Rattle.std.specs.Prelude.{◌≡◌, true, false, List, ◌⊎◌, ℕ, ◌<◌, ◌≤◌, length}
use Rattle.size_classes.specs.SlotSizes.{last_size}
use Rattle.size_classes.specs.Class.{raised, smallest_class}
use Rattle.tables.specs.Shape.{Shape}
use Rattle.tables.specs.Cells.{Tables, as_stated}
use Rattle.sound.specs.Sound.{Sound}
use Rattle.calls.specs.Calls.{words_needed, names_slot}
use Rattle.calls.specs.Batch.{whole_records}
use Rattle.call_laws.specs.Exhausted.{Exhausted}
use Rattle.call_laws.specs.Answers.{NamesOut}

-- done, or why not
pub data Reason : Type 0 where
  done : Reason
  not_stated : Reason
  unsound : Reason
  no_heap : Reason
  few_words : Reason
  too_large : Reason
  exhausted : Reason
  no_slot : Reason
  not_out : Reason
  bad_record : Reason
  not_whole : Reason

-- the rows of the table, 0 to 10
abbrev pub number_of : Reason → ℕ
number_of done = 0
number_of not_stated = 1
number_of unsound = 2
number_of no_heap = 3
number_of few_words = 4
number_of too_large = 5
number_of exhausted = 6
number_of no_slot = 7
number_of not_out = 8
number_of bad_record = 9
number_of not_whole = 10

-- a table that is refused neither with 1 nor with 2
pub record Checked (g : Shape) (t : Tables) : Type 0 where
  pub stated : as_stated g t ≡ true
  pub sound : Sound g t

-- and a request that is refused with none of 3, 4 and 5
pub record InOrder (g : Shape) (t : Tables) (heap size alignment : ℕ) (words : List ℕ) : Type 0 where
  pub checked : Checked g t
  pub exists : heap < g.heaps
  pub lent : words_needed ≤ length words
  pub holds : size ≤ last_size g.sizes
  pub aligned : raised alignment ≤ last_size g.sizes

-- when an allocation is answered so; 7 to 10 are never its answers
abbrev pub AllocatedWhen : Shape → Tables → ℕ → ℕ → ℕ → List ℕ → Reason → Type 0
AllocatedWhen g t heap size alignment words done =
    InOrder g t heap size alignment words × (Exhausted g t heap (smallest_class g.sizes size alignment) → ⊥)
AllocatedWhen g t heap size alignment words not_stated = as_stated g t ≡ false
AllocatedWhen g t heap size alignment words unsound = (as_stated g t ≡ true) × (Sound g t → ⊥)
AllocatedWhen g t heap size alignment words no_heap = Checked g t × (g.heaps ≤ heap)
AllocatedWhen g t heap size alignment words few_words = Checked g t × (heap < g.heaps) × (length words < words_needed)
AllocatedWhen g t heap size alignment words too_large =
    Checked g t × (heap < g.heaps) × (words_needed ≤ length words) × ((last_size g.sizes < size) ⊎ (last_size g.sizes < raised alignment))
AllocatedWhen g t heap size alignment words exhausted =
    InOrder g t heap size alignment words × Exhausted g t heap (smallest_class g.sizes size alignment)
AllocatedWhen g t heap size alignment words no_slot = ⊥
AllocatedWhen g t heap size alignment words not_out = ⊥
AllocatedWhen g t heap size alignment words bad_record = ⊥
AllocatedWhen g t heap size alignment words not_whole = ⊥

-- when a free is; 4 to 6, 9 and 10 are never its answers
abbrev pub FreedWhen : Shape → Tables → ℕ → ℕ → ℕ → Reason → Type 0
FreedWhen g t heap s start done = Checked g t × (heap < g.heaps) × NamesOut g t s start
FreedWhen g t heap s start not_stated = as_stated g t ≡ false
FreedWhen g t heap s start unsound = (as_stated g t ≡ true) × (Sound g t → ⊥)
FreedWhen g t heap s start no_heap = Checked g t × (g.heaps ≤ heap)
FreedWhen g t heap s start few_words = ⊥
FreedWhen g t heap s start too_large = ⊥
FreedWhen g t heap s start exhausted = ⊥
FreedWhen g t heap s start no_slot = Checked g t × (heap < g.heaps) × (names_slot g t s start ≡ false)
FreedWhen g t heap s start not_out = Checked g t × (heap < g.heaps) × (names_slot g t s start ≡ true) × (NamesOut g t s start → ⊥)
FreedWhen g t heap s start bad_record = ⊥
FreedWhen g t heap s start not_whole = ⊥

-- when a whole batch is; 3 to 9 are never its answers
abbrev pub BatchedWhen : Shape → Tables → List ℕ → List ℕ → Reason → Type 0
BatchedWhen g t bytes answers done = Checked g t × (whole_records bytes answers ≡ true)
BatchedWhen g t bytes answers not_stated = as_stated g t ≡ false
BatchedWhen g t bytes answers unsound = (as_stated g t ≡ true) × (whole_records bytes answers ≡ true) × (Sound g t → ⊥)
BatchedWhen g t bytes answers no_heap = ⊥
BatchedWhen g t bytes answers few_words = ⊥
BatchedWhen g t bytes answers too_large = ⊥
BatchedWhen g t bytes answers exhausted = ⊥
BatchedWhen g t bytes answers no_slot = ⊥
BatchedWhen g t bytes answers not_out = ⊥
BatchedWhen g t bytes answers bad_record = ⊥
BatchedWhen g t bytes answers not_whole = (as_stated g t ≡ true) × (whole_records bytes answers ≡ false)

-- the number is that of a row, and each row's exactly when the row says so
pub record ByTheTable (number : ℕ) (When : Reason → Type 0) : Type 0 where
  pub reason : Reason
  pub is : number ≡ number_of reason
  pub given : (r : Reason) → number ≡ number_of r → When r
  pub when : (r : Reason) → When r → number ≡ number_of r

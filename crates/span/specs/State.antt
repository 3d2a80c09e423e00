-- The state of a block: free, cached, pending or out. Everything that asks whether a block is out asks this. Assumes nothing.
use Rattle.std.specs.Prelude.{Bool, cond, ℕ, ◌/◌, ◌%◌}
use Rattle.laws.specs.Word.{is_set}
use Rattle.span.specs.declared.BlockState.{BlockState}
use Rattle.span.specs.declared.BlockState.TheVariants.{Free, Cached, Pending, Out}
use Rattle.tables.specs.declared.ClassHeap.{ClassHeap}
use Rattle.tables.specs.Shape.{Shape, class_heap}
use Rattle.tables.specs.Cells.{Tables, bitmap_word, local_word, remote_word, class_at, owner_at, entry_of}
use Rattle.magazine.specs.Magazine.{is_cached}

-- slot q of span s is taken; it waits to be folded
abbrev pub is_occupied : Tables → ℕ → ℕ → Bool
is_occupied t s q = is_set (bitmap_word t s (local_word (q / 64))) (q % 64)

abbrev pub is_pending : Tables → ℕ → ℕ → Bool
is_pending t s q = is_set (bitmap_word t s (remote_word (q / 64))) (q % 64)

-- "A block is free (bit clear), cached (in its owner's magazine), pending, or out (occupied, neither cached nor pending)."; k is the span's class and owner
abbrev pub state_in : Tables → ClassHeap → ℕ → ℕ → BlockState
state_in t k s q = cond (is_occupied t s q) (cond (is_pending t s q) Pending (cond (is_cached t k (entry_of s q)) Cached Out)) Free

unfoldable pub state_of : Shape → Tables → ℕ → ℕ → BlockState
state_of g t s q = state_in t (class_heap g (owner_at t s) (class_at t s)) s q

abbrev pub out_state : BlockState → Bool
out_state Free = Bool.false
out_state Cached = Bool.false
out_state Pending = Bool.false
out_state Out = Bool.true

abbrev pub is_out : Shape → Tables → ℕ → ℕ → Bool
is_out g t s q = out_state (state_of g t s q)

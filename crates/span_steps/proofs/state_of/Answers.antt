-- `span_steps::state_of` meets its contract: the three tests in turn. Assumes nothing.
use Prim.Native.Nat.{ℕ, ◌/◌, ◌<◌}
use native.Mathlib.Omega.{arith}
use Rattle.size_classes.specs.Slots.{most_slots}
use Rattle.span.proofs.CellsThere.{local_word_there, remote_word_there}
use Rattle.span_steps.proofs.state_of.Goals as goal

word_below : (q : ℕ) → q < most_slots → q / 64 < 64
unfolding most_slots
word_below q h = omega arith

pub word-requires : goal.word-requires
word-requires c = local_word_there _ _ c.requires.word_cells _ (word_below _ c.requires.q_lt_most_slots.0)

pub word-requires-2 : goal.word-requires-2
word-requires-2 c = remote_word_there _ _ c.requires.word_cells _ (word_below _ c.requires.q_lt_most_slots.0)

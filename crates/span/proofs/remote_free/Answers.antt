-- `span::remote_free` meets its contract. Assumes nothing.
use Prim.Native.Nat.{ℕ, ◌/◌, ◌<◌}
use native.Mathlib.Omega.{arith}
use lib.ListN.{length-set}
use Rattle.size_classes.specs.Slots.{most_slots}
use Rattle.span.proofs.CellsThere.{summary_there, remote_word_there}
use Rattle.span.proofs.SpanSteps.{remote_is}
use Rattle.span.proofs.remote_free.Goals as goal

word_below : (q : ℕ) → q < most_slots → q / 64 < 64
unfolding most_slots
word_below q h = omega arith

pub word-word-requires : goal.word-word-requires
word-word-requires c = remote_word_there _ _ c.requires.1 _ (word_below _ c.requires.0)

pub word-summary-requires : goal.word-summary-requires
word-summary-requires c = summary_there _ _ c.requires.1 65 (omega arith)

pub put_word-requires : goal.put_word-requires
put_word-requires c = remote_word_there _ _ c.requires.1 _ (word_below _ c.requires.0)

pub set_bit-requires-2 : goal.set_bit-requires-2
set_bit-requires-2 c = word_below _ c.requires.0

pub put_word-requires-2 : goal.put_word-requires-2
put_word-requires-2 c = rw (c.put_word.ensures, length-set) (summary_there _ _ c.requires.1 65 (omega arith))

pub returns : goal.returns
returns c =
    λ p e h u.
    remote_is _ p e h u _ _ _ _ _ _ _ _ c.word-word.ensures c.word-summary.ensures c.set_bit.ensures c.put_word.ensures c.set_bit-2.ensures
    c.put_word-2.ensures

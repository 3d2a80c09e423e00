-- `sound_magazines::entry_sound` meets its contract: each test decides one clause of an entry. Assumes nothing.
use native.Mathlib.Omega.{arith}
use Rattle.span.proofs.CellsThere.{local_word_there, remote_word_there, field_there}
use Rattle.sound_spans.proofs.SpanWords.{words_there, fields_there}
use Rattle.sound_magazines.proofs.EntryTests.{slot_word_low}
use Rattle.sound_magazines.proofs.entry_sound.Goals as goal

pub field-requires : goal.field-requires
field-requires c = field_there _ _ (fields_there (rw (← c.view.view_is) at c.requires) c.if-s-view.false) _ (omega arith)

pub field-requires-then-field-k : goal.field-requires-then-field-k
field-requires-then-field-k c = field_there _ _ (fields_there (rw (← c.view.view_is) at c.requires) c.if-s-view.false) _ (omega arith)

pub word-requires : goal.word-requires
word-requires c = local_word_there _ _ (words_there (rw (← c.view.view_is) at c.requires) c.if-s-view.false) _ (slot_word_low c.args.e _ c.entry_slot-q.ensures)

pub word-requires-then-test_bit : goal.word-requires-then-test_bit
word-requires-then-test_bit c = remote_word_there _ _ (words_there (rw (← c.view.view_is) at c.requires) c.if-s-view.false) _ (slot_word_low c.args.e _ c.entry_slot-q.ensures)

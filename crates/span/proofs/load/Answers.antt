-- `span::load` meets its contract. Assumes nothing.
use native.Mathlib.Omega.{arith}
use Rattle.span.proofs.CellsThere.{summary_there, local_there, field_there}
use Rattle.span.proofs.load.Goals as goal

pub bitmap_cell-requires : goal.bitmap_cell-requires
bitmap_cell-requires c = omega (arith, local_there _ _ c.requires.words)

pub words_from-words-requires : goal.words_from-words-requires
words_from-words-requires c = omega (arith, local_there _ _ c.requires.words, c.bitmap_cell.ensures)

pub word-requires : goal.word-requires
word-requires c = summary_there _ _ c.requires.words 0 (omega arith)

pub field-requires : goal.field-requires
field-requires c = field_there _ _ c.requires.fields 2 (omega arith)

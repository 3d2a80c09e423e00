-- `trace_text::Text::put_text` meets its contract: the bytes passed were written. Assumes nothing.
use Rattle.std.proofs.Common.{◌≤◌, length, take}
use Rattle.trace_text.specs.Wrote.{Wrote}
use Rattle.trace_text.proofs.Text.put_text.Given as goal

abbrev pub invariant-loop-b : goal.invariant-loop-b
invariant-loop-b g l = (length l.self-inside.bytes.items ≤ g.row.N) × Wrote g.row.N l.initial.self-inside.bytes.items (take l.b-index l.text) l.self-inside.bytes.items

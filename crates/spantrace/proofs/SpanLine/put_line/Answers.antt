-- `spantrace::SpanLine::put_line` meets its contract: each part of the line, one after the other. Assumes nothing.
use Rattle.std.proofs.Common.{[], ◌∷◌}
use Rattle.spantrace.specs.Trace.{letter}
use Rattle.spantrace.proofs.TraceLaws.{Written, written_then}
use Rattle.spantrace.proofs.SpanLine.put_line.Goals as goal

pub returns : goal.returns
returns g c =
    let span = c.put_field.ensures in
    let slot = c.put_field-2.ensures in
    let owner = c.put_field-3.ensures in
    let occupied = c.put_field-4.ensures in
    let pending = c.put_field-5.ensures in
    let cached = c.put_field-6.ensures in
    let w0 : Written g.row.N c.args.text.now (0x53 ∷ []) _ = record { wrote = c.put.ensures } in
    let w1 = written_then (0x20 ∷ span.0) w0 span.2 in
    let w2 = written_then (0x20 ∷ slot.0) w1 slot.2 in
    let w3 = written_then (0x20 ∷ owner.0) w2 owner.2 in
    let w4 = written_then (0x20 ∷ []) w3 c.put-2.ensures in
    let w5 = written_then {n = c.put-3.new.self} (letter c.args.self.now.place ∷ []) w4 (rw (← c.from.ensures) c.put-3.ensures) in
    let w6 = written_then (0x20 ∷ occupied.0) w5 occupied.2 in
    let w7 = written_then (0x20 ∷ pending.0) w6 pending.2 in
    let w8 = written_then (0x20 ∷ cached.0) w7 cached.2 in
    (span.0, slot.0, owner.0, occupied.0, pending.0, cached.0, span.1, slot.1, owner.1, occupied.1, pending.1, cached.1, (written_then (0x0A ∷ []) w8 c.put-4.ensures).wrote)

-- `spantrace::Answer::put_line` meets its contract: letter, four numbers and the line's end, one after the other. Assumes nothing.
use Rattle.std.proofs.Common.{[], ◌∷◌}
use Rattle.spantrace.proofs.TraceLaws.{Written, written_then}
use Rattle.spantrace.proofs.Answer.put_line.Goals as goal

pub returns : goal.returns
returns g c =
    let i = c.put_field.ensures in
    let number = c.put_field-2.ensures in
    let span = c.put_field-3.ensures in
    let offset = c.put_field-4.ensures in
    let w0 : Written g.row.N c.args.text.now (0x41 ∷ []) _ = record { wrote = c.put.ensures } in
    let w1 = written_then (0x20 ∷ i.0) w0 i.2 in
    let w2 = written_then (0x20 ∷ number.0) w1 number.2 in
    let w3 = written_then (0x20 ∷ span.0) w2 span.2 in
    let w4 = written_then (0x20 ∷ offset.0) w3 offset.2 in
    (i.0, number.0, span.0, offset.0, i.1, number.1, span.1, offset.1, (written_then (0x0A ∷ []) w4 c.put-2.ensures).wrote)

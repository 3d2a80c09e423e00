-- `trace_text::Text::put_field` meets its contract: a space, then the digits. Assumes nothing.
use Rattle.std.proofs.Common.{[], ◌∷◌}
use Rattle.trace_text.proofs.Writing.{wrote_then}
use Rattle.trace_text.proofs.Text.put_field.Goals as goal

pub returns : goal.returns
returns g c =
    let number = c.put_number.ensures in
    (number.0, number.1, wrote_then _ _ _ _ (0x20 ∷ []) number.0 c.put.ensures number.2)

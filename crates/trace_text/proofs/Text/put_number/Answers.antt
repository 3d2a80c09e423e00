-- `trace_text::Text::put_number` meets its contract: std's decimal text is the digits. Assumes nothing.
use Rattle.std.proofs.Common.{ℕ, List, subst, ◌∙◌}
use Rattle.trace_text.specs.Wrote.{Wrote}
use Rattle.trace_text.proofs.Writing.{decimal_is}
use Rattle.trace_text.proofs.Text.put_number.Goals as goal

pub returns : goal.returns
returns g c = (_, decimal_is c.args.n c.ranges.n.fits, subst (λ (t : List ℕ). Wrote g.row.N c.args.self.now t c.put_text.new.self) (c.as_bytes.ensures.value ∙ c.format.ensures.text) c.put_text.ensures)

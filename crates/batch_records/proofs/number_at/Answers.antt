-- `batch_records::number_at` meets its contract. Assumes nothing.
use mathlib.Core.Path.{◌∙◌}
use native.Mathlib.Omega.{arith}
use Rattle.batch_records.proofs.RecordLaws.{eight_bytes}
use Rattle.batch_records.proofs.number_at.Goals as goal

pub returns : goal.returns
returns c = c.from_le_bytes.ensures ∙ eight_bytes c.args.bytes.now c.args.at _ (omega arith)

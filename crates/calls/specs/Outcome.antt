-- What a call comes to: its answer, and the tables after it. Assumes nothing.
use Rattle.std.specs.Prelude.{ℕ}
use Rattle.calls.specs.declared.Answer.{Answer}
use Rattle.tables.specs.Cells.{Tables}

pub record Outcome : Type 0 where
  pub answer : Answer
  pub table : Tables

abbrev pub ended : Answer → Tables → Outcome
ended answer t = record { answer = answer; table = t }

abbrev pub outcome : ℕ → ℕ → ℕ → ℕ → Tables → Outcome
outcome number span offset words t =
    ended (record { number = number; span = span; offset = offset; words = words }) t

-- "A refusal answers its number, span 0, offset 0, words used 0, and changes no cell."
abbrev pub refusal : ℕ → Answer
refusal number = record { number = number; span = 0; offset = 0; words = 0 }

abbrev pub refused : ℕ → Tables → Outcome
refused number t = ended (refusal number) t

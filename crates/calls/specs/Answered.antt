-- What a call answers in numbers. Assumes nothing.
use Rattle.std.specs.Prelude.{Result, Ok, Err}
use Rattle.refusals.specs.declared.Refusal.{Refusal}
use Rattle.refusals.specs.Numbers.{number}
use Rattle.calls.specs.declared.Accepted.{Accepted}
use Rattle.calls.specs.declared.Answer.{Answer}
use Rattle.calls.specs.Outcome.{refusal}

-- an accepted call answers 0 with its block, a refused one the refusal's number
abbrev pub answer_of : Result Accepted Refusal → Answer
answer_of (Ok block) = record { number = 0; span = block.span; offset = block.offset; words = block.words }
answer_of (Err reason) = refusal (number reason)

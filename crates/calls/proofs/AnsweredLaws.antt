-- An answer is known by its numbers: two that C and a batch cannot tell apart are one. Assumes nothing.
use Rattle.std.specs.Prelude.{Result, Ok, Err}
use mathlib.Core.Path.{◌≡◌, sym, ap}
use Rattle.refusals.specs.declared.Refusal.{Refusal}
use Rattle.refusals.specs.Numbers.{number}
use Rattle.refusals.proofs.NumberLaws.{number_some, number_known}
use Rattle.calls.specs.declared.Accepted.{Accepted}
use Rattle.calls.specs.declared.Answer.{Answer}
use Rattle.calls.specs.Answered.{answer_of}

-- the block that an answer's numbers name
block_of : Answer → Accepted
block_of a = record { span = a.span; offset = a.offset; words = a.words }

pub answer_of_known : (x y : Result Accepted Refusal) → answer_of x ≡ answer_of y → x ≡ y
unfolding block_of
answer_of_known (Ok b) (Ok c) q = ap (λ (a : Answer). Ok (block_of a)) q
answer_of_known (Ok b) (Err f) q = absurd (number_some f (sym (ap (λ (a : Answer). a.number) q)))
answer_of_known (Err e) (Ok c) q = absurd (number_some e (ap (λ (a : Answer). a.number) q))
answer_of_known (Err e) (Err f) q = ap Err (number_known e f (ap (λ (a : Answer). a.number) q))

-- The numbers of refusals, and of answers that are a refusal or nothing. Assumes nothing.
use Rattle.std.specs.Prelude.{ℕ, Result, Ok, Err}
use Rattle.refusals.specs.declared.Refusal.{Refusal}
use Rattle.refusals.specs.declared.Refusal.TheVariants.{NotAsStated, Unsound, NoSuchHeap, TooFewWords, TooLarge, Exhausted, NoSuchSlot, NotOut, Malformed, NotWhole}

abbrev pub number : Refusal → ℕ
number NotAsStated = 1
number Unsound = 2
number NoSuchHeap = 3
number TooFewWords = 4
number TooLarge = 5
number Exhausted = 6
number NoSuchSlot = 7
number NotOut = 8
number Malformed = 9
number NotWhole = 10

-- 0 where the call was done
abbrev pub number_of : Result (Unit {0}) Refusal → ℕ
number_of (Ok done) = 0
number_of (Err refusal) = number refusal

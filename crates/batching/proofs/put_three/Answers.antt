-- `batching::put_three` meets its contract: three stores. Assumes nothing.
use native.Mathlib.Omega.{arith}
use lib.ListN.{set}
use Prim.Native.Nat.{◌+◌}
use Rattle.batching.proofs.AnswerLaws.{three_stores, long_after}
use Rattle.batching.proofs.put_three.Goals as goal

pub bounds-answers-at-2 : goal.bounds-answers-at-2
bounds-answers-at-2 c = let a = c.args in long_after a.answers.now _ _ (omega (arith, c.requires))

pub bounds-answers-at-3 : goal.bounds-answers-at-3
bounds-answers-at-3 c = let a = c.args in long_after (set a.answers.now a.at a.a) (a.at + 1) a.b (long_after a.answers.now a.at a.a (omega (arith, c.requires)))

pub returns : goal.returns
returns c = let a = c.args in three_stores a.answers.now a.at a.a a.b a.c

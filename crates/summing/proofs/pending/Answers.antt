-- `summing::pending` meets its contract: the set bits of the remote words passed are counted. Assumes nothing.
use native.Mathlib.Omega.{arith}
use Rattle.laws.proofs.WordLaws.{ones_most}
use Rattle.span.proofs.CellsThere.{remote_word_there}
use Rattle.summing.proofs.TallyLaws.{pending_none, pending_more}
use Rattle.summing.proofs.pending.Goals as goal

pub loop-i-init : goal.loop-i-init
loop-i-init c = record { most = omega arith; is = pending_none _ _ }

pub word-requires : goal.word-requires
word-requires c = remote_word_there _ _ c.requires _ c.loop-i-test.true

pub overflow_add-total : goal.overflow_add-total
overflow_add-total c = omega (arith, c.count-total.ensures, ones_most 64 c.word.result, c.loop-i.invariant.most, c.loop-i-test.true)

pub loop-i-preserved : goal.loop-i-preserved
loop-i-preserved c =
    record {
      most = omega (arith, c.count-total.ensures, ones_most 64 c.word.result, c.loop-i.invariant.most);
      is = pending_more _ _ _ c.loop-i.invariant.is c.word.ensures c.count-total.ensures;
    }

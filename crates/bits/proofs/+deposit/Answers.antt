-- `deposit` meets its contract: the code takes the lowest set bit, and of the rest one less. Assumes nothing.
use mathlib.Core.Path.{sym, ap, ◌∙◌}
use Prim.Native.Nat.{ℕ}
use Rattle.bits.specs.Deposit.{lowest}
use Rattle.bits.proofs.DepositLaws.{low_step, low_none, low_zero}
use Rattle.bits.proofs.+deposit.Goals as goal

pub returns-then-n-eq0 : goal.returns-then-n-eq0
returns-then-n-eq0 t c = sym (ap (λ (z : ℕ). lowest 64 z c.args.word) c.if-n-eq0.true ∙ low_none 64 c.args.word)

pub returns-then-word-eq0 : goal.returns-then-word-eq0
returns-then-word-eq0 t c = sym (ap (lowest 64 c.args.n) c.if-word-eq0.true ∙ low_zero 64 c.args.n)

pub returns : goal.returns
returns t c = low_step c.args.n c.args.word c.deposit.result c.if-n-eq0.false c.if-word-eq0.false c.ranges.word.fits c.deposit.ensures

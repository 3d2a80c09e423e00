-- `replenishing::none_empty` meets its contract: its two tests. Assumes nothing.
use Rattle.tables.specs.Cells.{tables}
use Rattle.replenishing.proofs.ReplenishingLaws.{none_empty_not, none_empty_is}
use Rattle.replenishing.proofs.none_empty.Goals as goal

pub returns-then-front-ne0 : goal.returns-then-front-ne0
returns-then-front-ne0 c = λ b p e u. none_empty_not (tables b p e c.args.heads.now u) c.args.k _ c.front.ensures c.if-front-ne0.true

pub returns : goal.returns
returns c = λ b p e u. none_empty_is (tables b p e c.args.heads.now u) c.args.k _ c.front.ensures _ c.if-front-ne0.false c.front-2.ensures

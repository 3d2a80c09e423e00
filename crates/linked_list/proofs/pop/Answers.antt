-- `linked_list::pop` meets its contract: the front removed. Assumes nothing.
use Rattle.linked_list.proofs.NumberLaws.{number_place}
use Rattle.linked_list.proofs.StoreLaws.{pop_made}
use Rattle.linked_list.proofs.pop.Goals as goal

pub returns-clause-by_index_2 : goal.returns-clause-by_index_2
returns-clause-by_index_2 c = let front = rw (number_place c.args.list) at c.front-s.ensures in
    λ b e u. pop_made _ _ _ _ _ front (c.remove.ensures b e u)

-- `magazine::draw` meets its contract. Assumes nothing.
use Rattle.magazine.proofs.StepLaws.{draw_made}
use Rattle.magazine.proofs.draw.Goals as goal

pub returns-clause-by_index_2 : goal.returns-clause-by_index_2
returns-clause-by_index_2 c =
    λ b p u. draw_made b p _ _ _ _ u _ _ c.count-c.ensures _ _ c.entry-top.ensures c.put_entry.ensures c.put_head.ensures

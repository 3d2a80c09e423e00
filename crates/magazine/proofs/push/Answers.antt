-- `magazine::push` meets its contract. Assumes nothing.
use Rattle.magazine.proofs.StepLaws.{push_made}
use Rattle.magazine.proofs.push.Goals as goal

pub returns : goal.returns
returns c b p u =
    push_made b p _ _ _ _ u _ _ c.count-c.ensures _ c.put_entry.ensures c.put_head.ensures

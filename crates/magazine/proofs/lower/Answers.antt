-- `magazine::lower` meets its contract. Assumes nothing.
use Rattle.magazine.proofs.StepLaws.{pop_made}
use Rattle.magazine.proofs.lower.Goals as goal

pub returns : goal.returns
returns c = λ b p e u. pop_made b p e _ _ u _ _ c.count-top.ensures c.put_head.ensures

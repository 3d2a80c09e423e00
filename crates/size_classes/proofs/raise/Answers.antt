-- `size_classes::raise` meets its contract: the library's power of two is the raised alignment. Assumes nothing.
use Rattle.size_classes.proofs.RaisedLaws.{raised_by_half}
use Rattle.size_classes.proofs.raise.Goals as goal

pub returns : goal.returns
returns c =
    let p = c.next_power_of_two.ensures in
    raised_by_half _ _ c.requires p.power p.lower_bound p.upper_bound

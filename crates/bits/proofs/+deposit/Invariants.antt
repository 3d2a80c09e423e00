-- `deposit` goes down by how many bits are still wanted. Assumes nothing.
use Rattle.bits.proofs.+deposit.Given as goal

abbrev pub decreases-deposit : goal.decreases-deposit
decreases-deposit l = l.n

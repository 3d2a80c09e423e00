-- What a refill asks of its turns: the partial span that each turn finds at the front is of that class and heap. Assumes nothing.
use Rattle.std.specs.Prelude.{◌≡◌, List, ℕ, zero, suc, ◌+◌, ◌-◌, ◌<◌, get_or}
use Rattle.tables.specs.declared.ClassHeap.{ClassHeap}
use Rattle.tables.specs.Cells.{Tables, head_at, partial_list, count_at}
use Rattle.class_heap.specs.Steps.{replenish, claim_front}
use Rattle.sound.specs.Sound.{Belongs}

-- so it is after the replenish of each of n turns
unfoldable pub Fronts : ℕ → ℕ → Tables → ClassHeap → List ℕ → ℕ → Type 0
Fronts zero limit t k ws i = zero ≡ zero
Fronts (suc n) limit t k ws i =
    count_at t k < k.capacity →
    0 < head_at (replenish limit t k) k partial_list →
    Belongs (replenish limit t k) k (head_at (replenish limit t k) k partial_list - 1)
    × Fronts n limit (claim_front (replenish limit t k) k (get_or ws i 0)) k ws (i + 1)

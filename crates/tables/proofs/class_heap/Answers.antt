-- `tables::class_heap` meets its contract. Assumes nothing.
use Rattle.tables.proofs.class_heap.Goals as goal

pub returns : goal.returns
returns c most heaps spans =
    c.class_at.ensures.home most heaps spans (c.row_of-row.ensures most heaps spans) (c.base_of-base.ensures most heaps spans)

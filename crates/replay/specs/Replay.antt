-- A list of calls run through the definitions from a fresh table, and what is seen of it. Assumes nothing.
use Rattle.std.specs.Prelude.{cond, List, [], ◌∷◌, ℕ, suc, ◌*◌, length, replicate, eqb}
use Rattle.size_classes.specs.SlotSizes.{slot_sizes}
use Rattle.magazine_layout.specs.Layout.{entries_per_heap}
use Rattle.tables.specs.Shape.{base_shape, bitmap_cells, record_cells, head_cells}
use Rattle.tables.specs.Cells.{Tables, tables}
use Rattle.calls.specs.declared.Answer.{Answer}
use Rattle.calls.specs.Calls.{words_needed}
use Rattle.calls.specs.Run.{Call, allocation, release, Ran, run_sound}
use Rattle.calls.specs.Batch.{words_from}
use Rattle.calls.proofs.Computed.{computed}

-- an allocation whose words come from a seed, as a batch's do
abbrev pub al : ℕ → ℕ → ℕ → ℕ → Call
al heap size alignment seed = allocation heap size alignment (words_from words_needed seed)

abbrev pub fr : ℕ → ℕ → ℕ → Call
fr heap span offset = release heap span offset

-- the answers' four numbers, one call after the other
abbrev pub numbers : List Answer → List ℕ
numbers [] = []
numbers (a ∷ rest) = a.number ∷ a.span ∷ a.offset ∷ a.words ∷ numbers rest

-- the cells of a list that are not 0, each as its place and its value: with the length it is the whole list
abbrev pub nonzero : ℕ → List ℕ → List ℕ
nonzero i [] = []
nonzero i (x ∷ xs) = cond (eqb x 0) (nonzero (suc i) xs) (i ∷ x ∷ nonzero (suc i) xs)

-- a list whose cells are 0 but for the places named
pub record Sparse : Type 0 where
  pub cells : ℕ
  pub named : List ℕ

abbrev pub sparse : ℕ → List ℕ → Sparse
sparse n named = record { cells = n; named = named }

abbrev pub seen : List ℕ → Sparse
seen l = sparse (length l) (nonzero 0 l)

-- what a list of calls leaves: every answer and every cell
pub record Left : Type 0 where
  pub answers : List ℕ
  pub bits : Sparse
  pub spans : Sparse
  pub entries : Sparse
  pub heads : Sparse
  pub used : ℕ

abbrev pub left : Ran → Left
left r =
    record {
      answers = numbers r.answers;
      bits = seen r.table.bits;
      spans = seen r.table.spans;
      entries = seen r.table.entries;
      heads = seen r.table.heads;
      used = r.table.used;
    }

-- a fresh table of so many heaps and spans, over 01's list
abbrev pub fresh : ℕ → ℕ → Tables
fresh heaps spans =
    tables (replicate (spans * bitmap_cells) 0) (replicate (spans * record_cells) 0) (replicate (heaps * entries_per_heap slot_sizes) 0)
    (replicate (heaps * length slot_sizes * head_cells) 0) 0

unfoldable pub replay : ℕ → ℕ → List Call → Left
unfolding computed
replay heaps spans calls = left (run_sound (base_shape heaps spans) (fresh heaps spans) calls)

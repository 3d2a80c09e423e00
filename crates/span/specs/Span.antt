-- One span in the lent cells: load and store of its occupancy, pending frees, a new span. Assumes nothing.
use Rattle.std.specs.Prelude.{Bool, cond, List, [], ◌∷◌, ◌++◌, ℕ, ◌+◌, ◌*◌, ◌/◌, ◌%◌, take, drop, set, replicate, eqb, leb}
use Rattle.std.proofs.lemmas.List.Edits.{sets}
use Rattle.std.proofs.Math.Seq.{paste}
use Rattle.laws.specs.Word.{set_bit, bits_from}
use Rattle.occupancy.specs.declared.Occupancy.{Occupancy}
use Rattle.occupancy.specs.Occupied.{occupancy, fresh_of, release_slot, fold_in}
use Rattle.tables.specs.declared.ClassHeap.{ClassHeap}
use Rattle.tables.specs.Shape.{bitmap_cells}
use Rattle.tables.specs.Cells.{Tables, tables, set_bits, bitmap_cell, bitmap_word, local_summary, local_word, remote_summary, remote_word, span_cell, class_field, occupied_field, occupied_at, entry_of}

-- the 64 local, and the 64 pending, words of span s
abbrev pub local_words : Tables → ℕ → List ℕ
local_words t s = take 64 (drop (bitmap_cell s (local_word 0)) t.bits)

abbrev pub pending_words : Tables → ℕ → List ℕ
pending_words t s = take 64 (drop (bitmap_cell s (remote_word 0)) t.bits)

-- "loaded from the lent words and stored back"
abbrev pub loaded : Tables → ℕ → Occupancy
loaded t s = occupancy (bitmap_word t s local_summary) (local_words t s) (occupied_at t s)

unfoldable pub stored : Tables → ℕ → Occupancy → Tables
stored t s o =
    tables (paste t.bits (bitmap_cell s local_summary) (o.summary ∷ o.words) 65)
    (set t.spans (span_cell s occupied_field) o.count)
    t.entries t.heads t.used

-- every slot taken, and none
abbrev pub is_full : Tables → ClassHeap → ℕ → Bool
is_full t k s = eqb (occupied_at t s) k.slots

abbrev pub is_empty : Tables → ℕ → Bool
is_empty t s = eqb (occupied_at t s) 0

abbrev pub has_pending : Tables → ℕ → Bool
has_pending t s = leb 1 (bitmap_word t s remote_summary)

-- slot q of span s back to its span
unfoldable pub dealloc_slot : Tables → ℕ → ℕ → Tables
dealloc_slot t s q = stored t s (release_slot (loaded t s) q)

-- nothing pending
abbrev pub clear_pending : Tables → ℕ → Tables
clear_pending t s = set_bits t (paste t.bits (bitmap_cell s remote_summary) (replicate 65 0) 65)

-- "fold its pending frees in": the pending slots leave the occupancy, and none is pending any more
unfoldable pub reclaim_pending : Tables → ℕ → Tables
reclaim_pending t s = clear_pending (stored t s (fold_in (loaded t s) (pending_words t s))) s

-- the same, where there are any
unfoldable pub folded : Tables → ℕ → Tables
folded t s = cond (has_pending t s) (reclaim_pending t s) t

-- "Free by another heap: set the slot's pending bit only", and its word's summary bit
unfoldable pub remote_free : Tables → ℕ → ℕ → Tables
remote_free t s q =
    set_bits t
    (set (set t.bits (bitmap_cell s (remote_word (q / 64))) (set_bit (bitmap_word t s (remote_word (q / 64))) (q % 64)))
    (bitmap_cell s remote_summary) (set_bit (bitmap_word t s remote_summary) (q / 64)))

-- the entries of the slots that a claim took of word i, "in ascending number"
unfoldable pub claimed_entries : ℕ → ℕ → ℕ → List ℕ
claimed_entries s i mask = bits_from 64 (entry_of s (i * 64)) mask

-- "the next unused span, written new with nothing pending"
unfoldable pub new_span : Tables → ClassHeap → Tables
new_span t k =
    tables
    (paste t.bits (bitmap_cell t.used local_summary)
    (((fresh_of k.slots).summary ∷ (fresh_of k.slots).words) ++ replicate 65 0) bitmap_cells)
    (sets t.spans (span_cell t.used class_field) (k.class ∷ k.owner ∷ 0 ∷ 0 ∷ 0 ∷ []))
    t.entries t.heads (t.used + 1)

-- One name whose unfolding opens every definition of the steps and below, so that a worked example names no other. Assumes nothing.
use lib.Count.{ones_in}
use Rattle.laws.specs.Choice.{some}
use Rattle.laws.specs.First.{first}
use Rattle.laws.specs.Links.{walk}
use Rattle.laws.specs.Word.{bits_from}
use Rattle.size_classes.specs.Slots.{most_slots}
use Rattle.occupancy.specs.Occupied.{fresh_words, fresh_of, first_room, first_free, window_of, taking, claim_in, claim, release_slot, release_slots_by_word, fold_from, fold_in}
use Rattle.tables.specs.Shape.{bitmap_cells, record_cells, head_cells}
use Rattle.tables.specs.Cells.{bitmap_cell, span_cell, head_cell, entry_of, entry_span, entry_slot}
use Rattle.magazine.specs.Magazine.{push_entry, push_entries, pop_entry, draw_entry, is_cached}
use Rattle.linked_list.specs.Lists.{push, remove, pop}
use Rattle.span.specs.Span.{stored, dealloc_slot, reclaim_pending, folded, remote_free, claimed_entries, new_span}
use Rattle.class_heap.specs.Steps.{demote, release_empty, place, refile, reclaim_one, reclaim, reactivate, create, supply, replenish, if_full, taken, claim_from, claim_front, refill, give_back, flush_one, flush}

-- `stepwise x` is x
unfoldable pub stepwise : {A : Type 0} → A → A
unfolding ones_in some first walk bits_from most_slots fresh_words fresh_of first_room first_free window_of taking claim_in claim release_slot release_slots_by_word fold_from fold_in bitmap_cells record_cells head_cells bitmap_cell span_cell head_cell entry_of entry_span entry_slot push_entry push_entries pop_entry draw_entry is_cached push remove pop stored dealloc_slot reclaim_pending folded remote_free claimed_entries new_span demote release_empty place refile reclaim_one reclaim reactivate create supply replenish if_full taken claim_from claim_front refill give_back flush_one flush
stepwise x = x

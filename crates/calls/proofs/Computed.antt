-- One name whose unfolding opens every definition below the calls, so that a worked example names no other. Assumes nothing.
use native.Mathlib.Decide.{dec_le, dec_lt, ℕ_discrete}
use Rattle.laws.specs.Choice.{sum}
use Rattle.laws.specs.Decide.{chain}
use Rattle.laws.specs.Links.{times}
use Rattle.size_classes.specs.SlotSizes.{rising, groups, slot_sizes, least_alignment, largest_slot}
use Rattle.size_classes.specs.Class.{raised, fits, smallest_class, in_range}
use Rattle.size_classes.specs.Slots.{fewest_slots, slots_per_span, starts_slot}
use Rattle.magazine_layout.specs.Layout.{magazine_bytes, least_capacity, most_capacity, capacity_for, low_water_for, magazine_offset, entries_per_heap}
use Rattle.tables.specs.Shape.{most_heaps, most_spans, row_of, base_of, class_heap}
use Rattle.tables.specs.Cells.{right_shape, right_lengths, as_stated, fresh_tables}
use Rattle.tables.specs.Fresh.{fresh}
use Rattle.span.specs.State.{state_of}
use Rattle.sound.specs.Decided.{span_filled, span_sound, belongs, list_sound, entry_sound, magazine_sound, class_sound, sound, is_sound}
use Rattle.class_heap.proofs.Computed.{stepwise}
use Rattle.calls.specs.Heap.{granted, draw, refill_first, alloc_small, flush_first, dealloc_local}
use Rattle.calls.specs.Primary.{dealloc_small}
use Rattle.calls.specs.Calls.{guarded, words_needed, allocate_sound, allocate, names_slot, freed, free_sound, free}
use Rattle.calls.specs.Run.{run_by}
use Rattle.calls.specs.Batch.{word_step, words_from, little_endian, record_bytes, record_call, answer_cells, batch_from, whole_records, batch}
use Rattle.calls.specs.Summary.{over_spans, pending_slots, class_record, summary_cells, class_records, summary}

-- `computed x` is x
unfoldable pub computed : {A : Type 0} → A → A
unfolding stepwise dec_le dec_lt ℕ_discrete sum chain times rising groups slot_sizes least_alignment largest_slot raised fits smallest_class in_range fewest_slots slots_per_span starts_slot magazine_bytes least_capacity most_capacity capacity_for low_water_for magazine_offset entries_per_heap most_heaps most_spans row_of base_of class_heap right_shape right_lengths as_stated fresh_tables state_of span_filled span_sound belongs list_sound entry_sound magazine_sound class_sound sound is_sound granted draw refill_first alloc_small flush_first dealloc_local dealloc_small fresh guarded words_needed allocate_sound allocate names_slot freed free_sound free run_by word_step words_from little_endian record_bytes record_call answer_cells batch_from whole_records batch over_spans pending_slots class_record summary_cells class_records summary
computed x = x

-- `size_classes::slot_at` meets its contract. Assumes nothing.
use mathlib.Core.Path.{sym}
use native.Mathlib.Omega.{arith}
use Rattle.size_classes.proofs.SlotTheorems.{slot_found_lem, between_slots, past_slots}
use Rattle.size_classes.proofs.slot_at.Goals as goal

pub returns-then-offset-slot-ne0 : goal.returns-then-offset-slot-ne0
returns-then-offset-slot-ne0 c = sym (between_slots _ _ c.if-offset-slot-ne0.true)

pub returns-then-q-slots_per_span : goal.returns-then-q-slots_per_span
returns-then-q-slots_per_span c = sym (slot_found_lem _ _ c.if-offset-slot-ne0.false (omega arith))

pub returns-else-q-slots_per_span : goal.returns-else-q-slots_per_span
returns-else-q-slots_per_span c = sym (past_slots _ _ (omega arith))

-- `flushing::give_back` meets its contract: a slot released, and its two tests. Assumes nothing.
use mathlib.Core.Path.{refl, sym, ◌∙◌}
use Rattle.placing.proofs.PlacingKept.{working_as, working_links}
use Rattle.placing.proofs.PlacingMade.{cells_here}
use Rattle.reclaiming.proofs.ReclaimingLaws.{working_cells}
use Rattle.flushing.proofs.FlushingLaws.{slot_within, some_occupied, dealloc_working, back_full, back_empty, back_partial}
use Rattle.flushing.proofs.give_back.Goals as goal

pub is_full-full-requires : goal.is_full-full-requires
is_full-full-requires c = let p = c.requires in (working_cells p.3.working p.3.used).fields

pub dealloc_slot-requires : goal.dealloc_slot-requires
dealloc_slot-requires c = let p = c.requires in
    record {
      span_cells = working_cells p.3.working p.3.used;
      q_lt_most_slots = (slot_within p.3, some_occupied p.3);
    }

pub refile-requires : goal.refile-requires
refile-requires c =
    let p = c.requires in
    (_, working_links (working_as (c.dealloc_slot.ensures p.1 c.args.heads.now p.2) (dealloc_working p.3)), p.3.used)

pub returns-then-full : goal.returns-then-full
returns-then-full c =
    λ e u.
    back_full _ _ _ _ _ _ (c.dealloc_slot.ensures e c.args.heads.now u)
    (sym (c.is_full-full.ensures c.args.bits.now e c.args.heads.now u) ∙ c.if-full.true) (c.refile.ensures _ e u)

pub is_empty-requires : goal.is_empty-requires
is_empty-requires c =
    let p = c.requires in
    cells_here (working_links (working_as (c.dealloc_slot.ensures p.1 c.args.heads.now p.2) (dealloc_working p.3))) p.3.used

pub refile-requires-then-is_empty : goal.refile-requires-then-is_empty
refile-requires-then-is_empty c =
    let p = c.requires in
    (_, working_links (working_as (c.dealloc_slot.ensures p.1 c.args.heads.now p.2) (dealloc_working p.3)), p.3.used)

pub returns-then-is_empty : goal.returns-then-is_empty
returns-then-is_empty c =
    λ e u.
    back_empty _ _ _ _ _ _ (c.dealloc_slot.ensures e c.args.heads.now u)
    (sym (c.is_full-full.ensures c.args.bits.now e c.args.heads.now u) ∙ c.if-full.false)
    (sym (c.is_empty.ensures c.dealloc_slot.new.bits e c.args.heads.now u) ∙ c.if-is_empty.true) (c.refile-then-is_empty.ensures _ e u)

pub returns-else-is_empty : goal.returns-else-is_empty
returns-else-is_empty c =
    λ e u.
    back_partial _ _ _ _ _ _ (c.dealloc_slot.ensures e c.args.heads.now u)
    (sym (c.is_full-full.ensures c.args.bits.now e c.args.heads.now u) ∙ c.if-full.false)
    (sym (c.is_empty.ensures c.dealloc_slot.new.bits e c.args.heads.now u) ∙ c.if-is_empty.false) refl

-- `Occupancy::fold_in` meets its contract: the fold of the words still to come is the fold of all. Assumes nothing.
use mathlib.Core.Path.{◌≡◌, sym, ◌∙◌}
use Prim.Native.Nat.{◌<◌}
use lib.ListN.{get_or}
use native.Mathlib.Omega.{arith}
use Rattle.occupancy.specs.Occupied.{release_slots_by_word, fold_in}
use Rattle.occupancy.proofs.ReleaseLaws.{released_none, next_held, next_right, fold_start, fold_turn, fold_done}
use Rattle.occupancy.proofs.Occupancy.fold_in.Goals as goal
use Rattle.occupancy.proofs.Occupancy.fold_in.Goals.{then-freed-ne0, else-freed-ne0}

pub loop-i-init : goal.loop-i-init
loop-i-init c = (c.requires.by_index, fold_start c.args.self c.args.pending.now)

pub release_slots_by_word-o-requires : goal.release_slots_by_word-o-requires
release_slots_by_word-o-requires c =
    let at = c.loop-i in
    let p = at.invariant.0 in
    (p.0, (p.1.0, next_held p.0 c.args.pending.now at.o at.i (omega arith) p.1.1))

pub loop-i-preserved : goal.loop-i-preserved
loop-i-preserved c =
    let at = c.loop-i in
    let pending = c.args.pending.now in
    let p = at.invariant.0 in
    let h : at.i < 64 = omega arith in
    let e : c.if-freed-ne0.o ≡ release_slots_by_word at.o at.i (get_or pending at.i 0) =
    elim c.if-freed-ne0.branch [
      | then-freed-ne0 w ↦ w.o-is ∙ w.release_slots_by_word-o.ensures
      | else-freed-ne0 w ↦ w.o-is ∙ released_none at.o at.i (get_or pending at.i 0) w.if-freed-ne0.false
    ] in
    (next_right p.0 pending at.o c.if-freed-ne0.o at.i h p.1 e, fold_turn at.i pending at.o c.if-freed-ne0.o (fold_in c.args.self pending) h at.invariant.1 e)

pub returns : goal.returns
returns c =
    let at = c.loop-i in
    sym (fold_done at.i c.args.pending.now at.o (omega arith)) ∙ at.invariant.1

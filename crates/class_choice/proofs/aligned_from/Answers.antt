-- `class_choice::aligned_from` meets its contract: the class where it stops is aligned, and so is the last. Assumes nothing.
use mathlib.Core.Path.{sym}
use native.Mathlib.Omega.{arith}
use Rattle.class_choice.proofs.ChoiceLaws.{found_at}
use Rattle.class_choice.proofs.aligned_from.Goals as goal

pub returns-then-slot-alignment-eq0 : goal.returns-then-slot-alignment-eq0
returns-then-slot-alignment-eq0 c =
    let size = c.slot.ensures.size in
    let count = c.classes-last.ensures.count in
    sym (found_at _ _ _ _ (omega arith) (omega (arith, count)) (rw size at c.if-slot-alignment-eq0.true) c.loop-k.invariant)

pub returns : goal.returns
returns c =
    let ok = c.classes-last.ensures in
    rw ok.count
    (sym
    (found_at _ _ _ _ (omega (arith, ok.count, c.requires.class)) (omega (arith, c.requires.class)) c.requires.last
    (λ j f l. c.loop-k.invariant j f (omega (arith, ok.count)))))

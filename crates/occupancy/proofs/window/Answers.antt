-- `window` meets its contract: rotation, deposit and rotation back are the scan for the first free bits. Assumes nothing.
use borrow.Author.Tests.{le-leb, lt-leb}
use mathlib.Core.Bool.{Bool, cond}
use mathlib.Core.Path.{sym, ap, ◌∙◌}
use Prim.Native.Nat.{ℕ, ◌-◌, ◌^◌}
use lib.Dec.{leb}
use Rattle.bits.specs.Deposit.{lowest}
use Rattle.bits.specs.Rotated.{rotated_left}
use Rattle.occupancy.specs.Occupied.{first_free, window_of}
use Rattle.occupancy.proofs.WindowLaws.{window_is}
use Rattle.occupancy.proofs.window.Goals as goal

pub returns-then-count-max : goal.returns-then-count-max
unfolding window_of
returns-then-count-max c =
    let a = c.args in
    let x = 2 ^ 64 - 1 - a.word in
    let n = c.count in
    sym (ap (λ (b : Bool). cond b x (first_free 64 a.max a.rotation a.word))
    (ap (λ (z : ℕ). leb z a.max) (sym n.ensures) ∙ le-leb n.result a.max c.if-count-max.true))

pub returns : goal.returns
unfolding window_of
returns c =
    let a = c.args in
    let x = 2 ^ 64 - 1 - a.word in
    let n = c.count in
    c.rotate_left.ensures
    ∙ ap (λ (z : ℕ). rotated_left z a.rotation)
    (c.deposit.ensures ∙ ap (lowest 64 a.max) c.rotate_right-rotated.ensures)
    ∙ window_is a.word a.max a.rotation c.ranges.word.fits c.requires
    ∙ sym (ap (λ (b : Bool). cond b x (first_free 64 a.max a.rotation a.word))
    (ap (λ (z : ℕ). leb z a.max) (sym n.ensures) ∙ lt-leb n.result a.max c.if-count-max.false))

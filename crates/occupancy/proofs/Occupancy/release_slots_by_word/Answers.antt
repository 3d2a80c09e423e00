-- `Occupancy::release_slots_by_word` meets its contract: the slots freed are taken, so `& !` is a difference. Assumes nothing.
use mathlib.Core.Path.{◌≡◌}
use Prim.Native.Nat.{◌-◌, ◌^◌}
use native.Mathlib.Omega.{arith}
use lib.Bits.{bit_and}
use Rattle.laws.proofs.MaskLaws.{within_not}
use Rattle.occupancy.specs.Occupied.{word_of}
use Rattle.occupancy.proofs.ReleaseLaws.{held_within, held_most, released_none, released}
use Rattle.occupancy.proofs.Occupancy.release_slots_by_word.Goals as goal

pub returns-then-freed-eq0 : goal.returns-then-freed-eq0
returns-then-freed-eq0 c =
    let a = c.args in
    released_none a.self a.word a.freed c.if-freed-eq0.true

pub overflow_sub-result : goal.overflow_sub-result
overflow_sub-result c =
    let p = c.requires in
    omega (arith, c.count.ensures, held_most p.0 c.args.self p.1.0 c.args.word c.args.freed p.1.1)

pub returns : goal.returns
returns c =
    let a = c.args in
    let p = c.requires in
    let held = p.1.1 in
    let less : bit_and (word_of a.self a.word) (2 ^ 64 - 1 - a.freed) ≡ word_of a.self a.word - a.freed =
    within_not 64 a.freed (word_of a.self a.word) held.word (p.1.0.small a.word held.place)
    (held_within p.0 a.self p.1.0 a.word a.freed held) in
    released a.self a.word a.freed c.if-freed-eq0.false c.clear_bit.ensures less
    c.count.ensures

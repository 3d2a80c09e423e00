-- `sound_spans::word_sound` meets its contract: each test decides one clause of a word. Assumes nothing.
use mathlib.Core.Path.{◌≡◌}
use mathlib.Core.Bool.{beq, not}
use lib.Bits.{bit_and}
use lib.Dec.{eqb}
use Rattle.laws.specs.Choice.{Says}
use Rattle.laws.specs.Word.{all_ones, is_set}
use Rattle.sound_spans.specs.WordSound.{pad_of}
use Rattle.sound_spans.proofs.TestLaws.{says_eqb, says_beq, and_then, and_not}
use Rattle.sound_spans.proofs.WordTests.{pad_set, set_pad, held, none_past, all_set}
use Rattle.sound_spans.proofs.word_sound.Goals as goal
use Rattle.sound_spans.proofs.word_sound.Goals.{Joined-x-pad, then-test_bit-x, else-test_bit-x, then-test_bit-p, else-test_bit-p, then-x-pad, else-x-pad}

-- What the tests before the last one say.
tests :
    (c : Joined-x-pad) →
    Says c.if-x-pad.value
    ((((is_set c.args.summary c.args.i ≡ eqb c.args.x all_ones) × (is_set c.args.pending c.args.i ≡ not (eqb c.args.p 0)))
    × (bit_and c.args.x (pad_of c.args.slots c.args.i) ≡ pad_of c.args.slots c.args.i)) × (bit_and c.args.p (pad_of c.args.slots c.args.i) ≡ 0))
tests c =
    let a = c.args in
    let e = c.pad_of-pad.ensures in
    let full : Says (beq c.test_bit.result (eqb a.x all_ones)) (is_set a.summary a.i ≡ eqb a.x all_ones) =
    says_beq _ _ _ c.test_bit.ensures in
    let whole : Says (eqb (bit_and a.x c.pad_of-pad.result) c.pad_of-pad.result) (bit_and a.x (pad_of a.slots a.i) ≡ pad_of a.slots a.i) =
    rw e (says_eqb _ _ (λ q. q) (λ q. q)) in
    let none : Says (eqb (bit_and a.p c.pad_of-pad.result) 0) (bit_and a.p (pad_of a.slots a.i) ≡ 0) = rw e (says_eqb _ _ (λ q. q) (λ q. q)) in
    let some : Says c.if-test_bit-x.value ((is_set a.summary a.i ≡ eqb a.x all_ones) × (is_set a.pending a.i ≡ not (eqb a.p 0))) =
    elim c.if-test_bit-x.branch [
      | then-test_bit-x w ↦ and_then _ _ _ _ _ w.if-test_bit-x.true w.value-is full (says_beq _ _ _ w.test_bit-then-test_bit-x.ensures)
      | else-test_bit-x w ↦ and_not _ _ _ _ w.if-test_bit-x.false w.value-is full
    ] in
    let past : Says c.if-test_bit-p.value (((is_set a.summary a.i ≡ eqb a.x all_ones) × (is_set a.pending a.i ≡ not (eqb a.p 0))) × (bit_and a.x (pad_of a.slots a.i) ≡ pad_of a.slots a.i)) =
    elim c.if-test_bit-p.branch [
      | then-test_bit-p w ↦ and_then _ _ _ _ _ w.if-test_bit-p.true w.value-is some whole
      | else-test_bit-p w ↦ and_not _ _ _ _ w.if-test_bit-p.false w.value-is some
    ] in
    elim c.if-x-pad.branch [
      | then-x-pad w ↦ and_then _ _ _ _ _ w.if-x-pad.true w.value-is past none
      | else-x-pad w ↦ and_not _ _ _ _ w.if-x-pad.false w.value-is past
    ]

pub returns-then-p-pad-eq0 : goal.returns-then-p-pad-eq0
returns-then-p-pad-eq0 c =
    let a = c.args in
    let t = rw c.if-p-pad-eq0.true at (tests c.before) in
    says_eqb (bit_and a.p a.x) a.p
    (λ k.
    record {
      full = t.0.0.0;
      some = t.0.0.1;
      past = pad_set a.slots a.i a.x t.0.1;
      pending = held a.slots a.i a.x a.p c.ranges.p.fits t.1 k;
    })
    (λ w. all_set a.slots a.i a.x a.p c.ranges.p.fits w.pending)

pub returns-else-p-pad-eq0 : goal.returns-else-p-pad-eq0
returns-else-p-pad-eq0 c =
    let a = c.args in
    let n = rw c.if-p-pad-eq0.false at (tests c.before) in
    rw c.if-p-pad-eq0.false
    (λ w. n (((w.full, w.some), set_pad a.slots a.i a.x w.past), none_past a.slots a.i a.x a.p c.ranges.p.fits w.pending))

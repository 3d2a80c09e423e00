-- `Occupancy::claim_up_to` meets its contract: the first clear bit of the summary is the first word with room. Assumes nothing.
use mathlib.Core.Bool.{Bool, cond}
use mathlib.Core.Path.{sym, ap, ◌∙◌}
use Prim.Native.Nat.{ℕ, ◌+◌}
use native.Mathlib.Omega.{arith}
use lib.Bits.{bit_or}
use borrow.Author.Tests.{eq-eqb, ne_eqb}
use Rattle.laws.specs.Word.{all_ones, set_bit}
use Rattle.laws.proofs.WordLaws.{ones_most}
use Rattle.occupancy.specs.Occupied.{word_of}
use Rattle.occupancy.proofs.RightLaws.{count_most}
use Rattle.occupancy.proofs.ClaimLaws.{claim_none, claim_full, claim_made}
use Rattle.occupancy.proofs.Occupancy.claim_up_to.Goals as goal
use Rattle.occupancy.proofs.Occupancy.claim_up_to.Goals.{then-max-eq0-via-then-max-eq0, then-max-eq0-via-else-max-eq0+then-summary}

pub returns-then-max-eq0 : goal.returns-then-max-eq0
returns-then-max-eq0 c =
    let a = c.args in
    elim c.then-max-eq0.branch [
      | then-max-eq0-via-then-max-eq0 w ↦ sym (claim_none a.self a.max a.random w.if-max-eq0.true)
      | then-max-eq0-via-else-max-eq0+then-summary w ↦
          sym (claim_full c.requires.0 a.self c.requires.1 a.max a.random w.if-summary.true)
    ]

pub overflow_add-count : goal.overflow_add-count
overflow_add-count c =
    let r = c.requires.1 in
    omega (arith, count_most c.requires.0 c.args.self r, r.within, c.count.ensures, ones_most 64 c.window-mask.result)

pub returns-then-next : goal.returns-then-next
returns-then-next c =
    let o = c.args.self in
    let word = c.free_word-i in
    let mask = c.window-mask in
    let count = c.count in
    claim_made c.requires.0 o c.requires.1 c.args.max c.args.random word.result mask.result c.set_bit-summary.result
    (o.count + count.result)
    c.if-max-eq0.false
    (omega (arith, c.requires.1.top))
    word.ensures mask.ensures
    (c.set_bit-summary.ensures ∙ sym (ap (λ (b : Bool). cond b (set_bit o.summary word.result) o.summary) (eq-eqb (bit_or (word_of o word.result) mask.result) all_ones c.if-next.true)))
    (ap (λ (z : ℕ). o.count + z) count.ensures)

pub returns-else-next : goal.returns-else-next
returns-else-next c =
    let o = c.args.self in
    let word = c.free_word-i in
    let mask = c.window-mask in
    let count = c.count in
    claim_made c.requires.0 o c.requires.1 c.args.max c.args.random word.result mask.result o.summary (o.count + count.result)
    c.if-max-eq0.false
    (omega (arith, c.requires.1.top)) word.ensures
    mask.ensures
    (sym (ap (λ (b : Bool). cond b (set_bit o.summary word.result) o.summary) (ne_eqb (bit_or (word_of o word.result) mask.result) all_ones c.if-next.false)))
    (ap (λ (z : ℕ). o.count + z) count.ensures)

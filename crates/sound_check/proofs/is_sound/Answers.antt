-- `sound_check::is_sound` meets its contract: the spans, and then the rows. Assumes nothing.
use borrow.Author.Tests.{leb-true}
use mathlib.Core.Path.{sym, ◌∙◌}
use mathlib.Core.Bool.{false}
use Prim.Native.Nat.{◌≤◌}
use native.Mathlib.Omega.{arith}
use Rattle.sound_spans.proofs.TestLaws.{granted, refuted}
use Rattle.sound_check.proofs.SoundParts.{says_sound, says_rows}
use Rattle.sound_check.proofs.is_sound.Goals as goal
use Rattle.sound_check.proofs.is_sound.Goals.{then-view-shape, else-view-shape}

pub returns-then-spans_filled : goal.returns-then-spans_filled
returns-then-spans_filled c =
    let g = c.args.shape.now in
    let t = c.args.view.now in
    elim c.if-view-shape.branch [
      | then-view-shape w ↦
          let within : t.used ≤ g.spans = rw (← c.shape.view_is, ← c.view.view_is) w.if-view-shape.true in
          says_rows g t c.rows_sound.result c.rows_sound.ensures.some_class within
          (granted w.spans_filled.result w.spans_filled.ensures (sym w.value-is ∙ c.if-spans_filled.true)) c.rows_sound.ensures.rows
      | else-view-shape w ↦
          absurd (let z : ⊥ = omega (arith, leb-true c.view.inside.used c.shape.inside.spans (sym w.value-is ∙ c.if-spans_filled.true), w.if-view-shape.false) in z)
    ]

pub returns-else-spans_filled : goal.returns-else-spans_filled
returns-else-spans_filled c =
    let g = c.args.shape.now in
    let t = c.args.view.now in
    rw c.if-spans_filled.false
    (says_sound g t false
    (λ o.
    elim c.if-view-shape.branch [
      | then-view-shape w ↦
          refuted w.spans_filled.result w.spans_filled.ensures (sym w.value-is ∙ c.if-spans_filled.false) (λ s l. (o.spans s l).cells)
      | else-view-shape w ↦
          let within : c.view.inside.used ≤ c.shape.inside.spans = rw (← c.shape.view_is, ← c.view.view_is) at o.within in
          let z : ⊥ = omega (arith, within, w.if-view-shape.false) in z
    ]))

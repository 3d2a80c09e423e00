-- `sound_spans::pad_of` meets its contract. Assumes nothing.
use mathlib.Core.Path.{ap, ◌∙◌}
use Prim.Native.Nat.{ℕ, ◌-◌, ◌^◌, min}
use Rattle.sound_spans.specs.WordSound.{pad_of}
use Rattle.sound_spans.proofs.pad_of.Goals as goal

pub returns : goal.returns
unfolding pad_of
returns c = c.ones_from.ensures ∙ ap (λ (z : ℕ). 2 ^ 64 - 2 ^ z) (c.min.ensures ∙ ap (λ (z : ℕ). min z 64) c.saturating_sub.ensures)

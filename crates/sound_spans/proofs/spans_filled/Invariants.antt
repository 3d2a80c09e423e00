-- `sound_spans::spans_filled` meets its contract: the spans passed are right, and so are the words passed of the span at hand. Assumes nothing.
use mathlib.Core.Path.{◌≡◌}
use mathlib.Core.Bool.{Bool, true}
use mathlib.Core.List.{List}
use Prim.Native.Nat.{ℕ, ◌<◌}
use Rattle.tables.specs.Shape.{shape}
use Rattle.tables.specs.Cells.{tables}
use Rattle.sound.specs.Sound.{SpanFilled}
use Rattle.sound_spans.specs.WordSound.{SpanRead, WordsPassed}
use Rattle.sound_spans.proofs.spans_filled.Given as goal

-- span k is right, whatever the tables that were not lent hold
abbrev pub Filled : List ℕ → List ℕ → List ℕ → ℕ → ℕ → ℕ → Type 0
Filled sizes bits spans heaps used k =
    (e h : List ℕ) (most n : ℕ) → SpanFilled (shape sizes most heaps n) (tables bits spans e h used) k

-- the check has come to span s, and to word i of it
pub record Passed (sizes bits spans : List ℕ) (heaps used s : ℕ) (ok : Bool) : Type 0 where
  pub fine : ok ≡ true
  pub each : (k : ℕ) → k < s → Filled sizes bits spans heaps used k

pub record Inside (sizes bits spans : List ℕ) (s class slots summary pending i total : ℕ) (ok : Bool) : Type 0 where
  pub fine : ok ≡ true
  pub read : SpanRead sizes bits spans s class slots summary pending
  pub words : WordsPassed bits s slots summary pending i total

abbrev pub invariant-loop-i : goal.invariant-loop-i
invariant-loop-i l = Inside l.sizes l.bits l.spans l.s l.class l.slots l.summary l.pending l.i l.sum l.ok

abbrev pub invariant-spans : goal.invariant-spans
invariant-spans l = Passed l.sizes l.bits l.spans l.shape-inside.heaps l.s-end l.s l.ok

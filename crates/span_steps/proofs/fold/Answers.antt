-- `span_steps::fold` meets its contract. Assumes nothing.
use mathlib.Core.Path.{sym, ◌∙◌}
use Rattle.span.specs.Span.{folded}
use Rattle.span_steps.proofs.fold.Goals as goal

pub returns-then-has_pending : goal.returns-then-has_pending
unfolding folded
returns-then-has_pending c = λ e h u. rw (sym (c.has_pending.ensures c.args.spans.now e h u) ∙ c.if-has_pending.true) (c.reclaim_pending.ensures e h u)

pub returns-else-has_pending : goal.returns-else-has_pending
unfolding folded
returns-else-has_pending c = λ e h u. rw (sym (c.has_pending.ensures c.args.spans.now e h u) ∙ c.if-has_pending.false)

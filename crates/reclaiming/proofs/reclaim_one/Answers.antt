-- `reclaiming::reclaim_one` meets its contract: a fold and a refile, or nothing. Assumes nothing.
use mathlib.Core.Path.{sym, ◌∙◌}
use Rattle.placing.proofs.PlacingKept.{working_as, working_links}
use Rattle.reclaiming.proofs.ReclaimingLaws.{working_cells, working_foldable, pending_working, reclaim_one_made, reclaim_one_kept}
use Rattle.reclaiming.proofs.reclaim_one.Goals as goal

pub has_pending-requires : goal.has_pending-requires
has_pending-requires c = (working_cells c.requires.3 c.requires.4).words

pub reclaim_pending-requires : goal.reclaim_pending-requires
reclaim_pending-requires c =
    record {
      span_cells = working_cells c.requires.3 c.requires.4;
      by_index = working_foldable c.requires.3 c.requires.4;
    }

pub refile-requires : goal.refile-requires
refile-requires c =
    let p = c.requires in
    (p.2, working_links (working_as (c.reclaim_pending.ensures p.1 c.args.heads.now p.2) (pending_working p.3 p.4)), p.4)

pub returns-then-has_pending : goal.returns-then-has_pending
returns-then-has_pending c =
    λ e u.
    reclaim_one_made _ _ _ _ _ (sym (c.has_pending.ensures c.args.spans.now e c.args.heads.now u) ∙ c.if-has_pending.true)
    (c.reclaim_pending.ensures e c.args.heads.now u) (c.refile.ensures _ e u)

pub returns-else-has_pending : goal.returns-else-has_pending
returns-else-has_pending c = λ e u. reclaim_one_kept _ _ _ (sym (c.has_pending.ensures c.args.spans.now e c.args.heads.now u) ∙ c.if-has_pending.false)

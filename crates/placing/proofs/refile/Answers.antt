-- `placing::refile` meets its contract: a remove and a place. Assumes nothing.
use mathlib.Core.List.{[]}
use Rattle.placing.proofs.PlacingMade.{removed_links, refile_made}
use Rattle.placing.proofs.refile.Goals as goal

pub place-requires : goal.place-requires
place-requires c = let p = c.requires in (p.0, removed_links _ _ _ _ _ (c.remove.ensures [] [] 0) p.1 p.2, p.2)

pub returns : goal.returns
returns c = λ b e u. refile_made _ _ _ _ _ _ (c.remove.ensures b e u) (c.place.ensures b e u)

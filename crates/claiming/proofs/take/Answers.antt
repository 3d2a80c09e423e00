-- `claiming::take` meets its contract: the two answers of a claim. Assumes nothing.
use mathlib.Core.Path.{refl}
use Rattle.placing.proofs.PlacingKept.{working_as, working_links, working_room}
use Rattle.claiming.proofs.ClaimingLaws.{claimable_is, entries_few, taken_fits, pushed_working, taken_none, taken_some}
use Rattle.claiming.proofs.take.Goals as goal

pub push_claimed-requires : goal.push_claimed-requires
push_claimed-requires c =
    let p = c.requires in
    let x = claimable_is c.in-Taken.is p.3 in
    let i = x.place _ _ refl in
    record {
      room = working_room x.working;
      mask_bound = taken_fits x;
      i_bound = (i, entries_few x.working x.used i);
    }

pub if_full-requires : goal.if_full-requires
if_full-requires c =
    let p = c.requires in
    let x = claimable_is c.in-Taken.is p.3 in
    (p.2, working_links (working_as (c.push_claimed.ensures p.1 c.args.spans.now p.2) (pushed_working x)), x.used)

pub returns-in-Nothing : goal.returns-in-Nothing
returns-in-Nothing c = λ b u. taken_none _ _ _ _ c.in-Nothing.is

pub returns-in-Taken : goal.returns-in-Taken
returns-in-Taken c =
    λ b u. taken_some _ _ _ _ _ _ _ _ c.in-Taken.is (c.push_claimed.ensures b c.args.spans.now u) (c.if_full.ensures b _ u)

-- `sound_lists::list_met` meets its contract: the list is right exactly where what the walk has not yet met of it is. Assumes nothing.
use Rattle.tables.specs.ListPlace.{place}
use mathlib.Core.Path.{◌≡◌, sym, ap, subst}
use Prim.Native.Nat.{◌+◌, ◌-◌}
use native.Mathlib.Omega.{arith}
use Rattle.tables.specs.Cells.{Tables, next_at, head_at}
use Rattle.linked_list.proofs.NumberLaws.{number_place}
use Rattle.span.proofs.CellsThere.{field_there}
use Rattle.sound_spans.proofs.TestLaws.{granted, refuted}
use Rattle.sound_lists.proofs.WalkLaws.{record_there, Reach, start, end, step, fits, endless}
use Rattle.sound_lists.proofs.list_met.Goals as goal

pub loop-x-init : goal.loop-x-init
loop-x-init c =
    let a = c.args in
    let front : c.front-x.result ≡ head_at a.view.now a.k (place a.list) = rw (← c.view.view_is) (rw (number_place a.list) at c.front-x.ensures) in
    subst (Reach a.view.now a.k (place a.list) a.low a.high 0 0) (sym front) (start a.view.now a.k (place a.list) a.low a.high)

pub returns-then-met-view : goal.returns-then-met-view
returns-then-met-view c = endless _ _ _ _ _ c.loop-x.invariant c.loop-x-test.true (rw (← c.view.view_is) c.if-met-view.true)

pub returns-then-not-link_fits : goal.returns-then-not-link_fits
returns-then-not-link_fits c w =
    refuted c.link_fits.result c.link_fits.ensures c.if-not-link_fits.true
    (fits _ _ _ _ _ c.loop-x.invariant c.loop-x-test.true (omega (arith, c.loop-x.invariant.within, c.if-met-view.false, ap (λ (t : Tables). t.used) c.view.view_is)) w)

pub field-x-requires : goal.field-x-requires
field-x-requires c =
    let fit = granted c.link_fits.result c.link_fits.ensures c.if-not-link_fits.false in
    field_there _ _ (rw (← c.view.view_is) at (record_there c.requires.used_fields fit.belongs.used)) _ (omega arith)

pub loop-x-preserved : goal.loop-x-preserved
loop-x-preserved c =
    let a = c.args in
    let here : c.field-x.result ≡ next_at a.view.now (c.loop-x.x - 1) = rw (← c.view.view_is) c.field-x.ensures in
    subst (Reach a.view.now a.k (place a.list) a.low a.high (c.loop-x.met + 1) c.loop-x.x) (sym here)
    (step a.view.now a.k (place a.list) a.low a.high c.loop-x.invariant c.loop-x-test.true
    (granted c.link_fits.result c.link_fits.ensures c.if-not-link_fits.false)
    (omega (arith, c.loop-x.invariant.within, c.if-met-view.false, ap (λ (t : Tables). t.used) c.view.view_is)))

pub returns : goal.returns
returns c = end _ _ _ _ _ c.loop-x.invariant c.loop-x-test.false

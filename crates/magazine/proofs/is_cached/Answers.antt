-- `magazine::is_cached` meets its contract. Assumes nothing.
use mathlib.Core.Path.{◌≡◌, ap, ◌∙◌}
use Prim.Native.Nat.{ℕ, ◌+◌, ◌-◌, ◌≤◌}
use native.Mathlib.Omega.{arith}
use lib.Dec.{eqb}
use lib.ListN.{length, take, drop}
use Rattle.std.specs.List.{list_any}
use Rattle.magazine.specs.Magazine.{is_cached}
use Rattle.magazine.proofs.CachedLaws.{scanned}
use Rattle.magazine.proofs.is_cached.Goals as goal

pub returns : goal.returns
unfolding is_cached
returns c b p u =
    let a = c.args in
    let n : a.k.base + c.count.result - a.k.base ≡ c.count.result = omega arith in
    let r = c.requires in
    let f : a.k.base + c.count.result ≤ length a.entries.now = omega (arith, c.count.ensures, r.held, r.fits) in
    c.contains.ensures.value
    ∙ ap (λ (z : ℕ). list_any (λ y. eqb y a.e) (take z (drop a.k.base a.entries.now))) n
    ∙ scanned a.entries.now a.k.base c.count.result a.e f
    ∙ rw c.count.ensures

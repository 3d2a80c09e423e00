-- An entry is cached exactly when it stands below the count. Assumes nothing.
use mathlib.Core.Path.{◌≡◌, refl, sym, ap, ◌∙◌}
use mathlib.Core.Bool.{true, false, true≢false}
use mathlib.Core.Logic.{⊎_elim}
use mathlib.Core.List.{List}
use Prim.Native.Nat.{ℕ, zero, suc, ◌+◌, ◌≤◌, ◌<◌}
use native.Mathlib.Numerals.{add-one}
use native.Mathlib.Omega.{arith}
use lib.Dec.{eqb}
use lib.ListN.{length, get_or, take, drop, length-drop}
use Rattle.std.proofs.lemmas.List.{get_or-drop}
use Rattle.std.specs.List.{list_any}
use Rattle.std.proofs.lemmas.List.Folds.{list_any_more}
use Rattle.laws.specs.Choice.{some}
use borrow.Author.Tests.{eqb-true, eq-eqb}
use Rattle.laws.proofs.FirstLaws.{tested}
use Rattle.laws.proofs.SomeLaws.{some_here, some_at}
use Rattle.tables.specs.declared.ClassHeap.{ClassHeap}
use Rattle.tables.specs.Cells.{Tables, count_at, entry_at}
use Rattle.magazine.specs.Magazine.{is_cached}
use Rattle.magazine.specs.Held.{Among}

module _ (t : Tables) (k : ClassHeap) (e : ℕ) where
  pub cached_among : is_cached t k e ≡ true → Among t k e
  unfolding is_cached
  cached_among c =
      let s = some_at (λ i. eqb (entry_at t k i) e) (count_at t k) c in
      record { place = s.0; below = s.1; is = eqb-true (entry_at t k s.0) e s.2 }

  pub among_cached : Among t k e → is_cached t k e ≡ true
  unfolding is_cached
  among_cached a =
      some_here (λ i. eqb (entry_at t k i) e) (count_at t k) a.place a.below (eq-eqb (entry_at t k a.place) e a.is)

  pub uncached_not : is_cached t k e ≡ false → Among t k e → ⊥
  uncached_not c a = true≢false (sym (among_cached a) ∙ c)

  pub not_uncached : (Among t k e → ⊥) → is_cached t k e ≡ false
  not_uncached n = ⊎_elim (λ c. absurd (n (cached_among c))) (λ c. c) (tested (is_cached t k e))

-- The entries below the count, looked through one by one.
pub scanned :
    (entries : List ℕ) (base c e : ℕ) →
    base + c ≤ length entries →
    list_any (λ y. eqb y e) (take c (drop base entries)) ≡ some c (λ j. eqb (get_or entries (base + j) 0) e)
unfolding some
scanned entries base zero e h = refl
scanned entries base (suc c) e h =
    let l : c < length (drop base entries) = omega (arith, length-drop base entries) in
    ap (λ (n : ℕ). list_any (λ y. eqb y e) (take n (drop base entries))) (sym (add-one c)) ∙ list_any_more (λ y. eqb y e) (drop base entries) c 0 l
    ∙ rw (scanned entries base c e (omega arith), get_or-drop) refl

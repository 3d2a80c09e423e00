-- The refill, a turn at a time. Assumes nothing.
use mathlib.Core.Path.{◌≡◌, refl, sym, ap, ◌∙◌}
use mathlib.Core.Bool.{cond}
use mathlib.Core.List.{List}
use Prim.Native.Nat.{ℕ, zero, suc, ◌+◌, ◌-◌, ◌<◌, ◌≤◌}
use native.Mathlib.Numerals.{sub-one}
use native.Mathlib.Omega.{arith}
use borrow.Author.Tests.{eq-eqb, ne_eqb, eqb-false, lt-ltb, le-ltb, ltb-true}
use lib.ListN.{length, get_or}
use lib.Dec.{ltb}
use Rattle.laws.proofs.CondLaws.{cond_both}
use Rattle.magazine_layout.specs.Layout.{most_capacity}
use Rattle.tables.specs.declared.ClassHeap.{ClassHeap}
use Rattle.tables.specs.Cells.{Tables, head_at, partial_list, count_at}
use Rattle.class_heap.specs.Steps.{no_partial, replenish, claim_front, refill, refilled, Refilled}
use Rattle.sound.specs.Sound.{Belongs}
use Rattle.sound.specs.Filled.{Filled}
use Rattle.filled_magazines.proofs.FilledFacts.{capacity_within}
use Rattle.placing.specs.Working.{Working}
use Rattle.placing.proofs.PlacingKept.{working_on, working_as}
use Rattle.replenishing.proofs.ReplenishingLaws.{replenish_working}
use Rattle.claiming.specs.Claimable.{Fronted}
use Rattle.claiming.proofs.ClaimingLaws.{claim_front_working}
use Rattle.refilling.specs.Fronts.{Fronts}

-- ---- the refill, by its two tests and what is left

pub refill_out : (n limit : ℕ) (t : Tables) (k : ClassHeap) (ws : List ℕ) (i : ℕ) → n ≤ 0 → refill n limit t k ws i ≡ refilled t i
unfolding refill
refill_out zero limit t k ws i h = refl
refill_out (suc n) limit t k ws i h = absurd (omega arith)

pub refill_full :
    (n limit : ℕ) (t : Tables) (k : ClassHeap) (ws : List ℕ) (i : ℕ) → k.capacity ≤ count_at t k → refill n limit t k ws i ≡ refilled t i
unfolding refill
refill_full zero limit t k ws i h = refl
refill_full (suc n) limit t k ws i h = rw (le-ltb (count_at t k) k.capacity h)

pub refill_dry :
    (n limit : ℕ) (t : Tables) (k : ClassHeap) (ws : List ℕ) (i : ℕ) → count_at t k < k.capacity → 0 < n →
    head_at (replenish limit t k) k partial_list ≡ 0 → refill n limit t k ws i ≡ refilled (replenish limit t k) i
unfolding refill
refill_dry zero limit t k ws i room h e = absurd (omega arith)
refill_dry (suc n) limit t k ws i room h e =
    rw (lt-ltb (count_at t k) k.capacity room, eq-eqb (head_at (replenish limit t k) k partial_list) 0 e)

pub refill_turn :
    (n limit : ℕ) (t : Tables) (k : ClassHeap) (ws : List ℕ) (i : ℕ) → count_at t k < k.capacity → 0 < n →
    (head_at (replenish limit t k) k partial_list ≡ 0 → ⊥) →
    refill n limit t k ws i ≡ refill (n - 1) limit (claim_front (replenish limit t k) k (get_or ws i 0)) k ws (i + 1)
unfolding refill
refill_turn zero limit t k ws i room h e = absurd (omega arith)
refill_turn (suc n) limit t k ws i room h e =
    simp (lt-ltb (count_at t k) k.capacity room, ne_eqb (head_at (replenish limit t k) k partial_list) 0 e, sub-one)

-- ---- the fronts that the turns find

pub fronts_here :
    (n limit : ℕ) (t : Tables) (k : ClassHeap) (ws : List ℕ) (i : ℕ) → 0 < n → Fronts n limit t k ws i → count_at t k < k.capacity →
    0 < head_at (replenish limit t k) k partial_list → Belongs (replenish limit t k) k (head_at (replenish limit t k) k partial_list - 1)
unfolding Fronts
fronts_here zero limit t k ws i h f l m = absurd (omega arith)
fronts_here (suc n) limit t k ws i h f l m = (f l m).0

pub fronts_next :
    (n limit : ℕ) (t : Tables) (k : ClassHeap) (ws : List ℕ) (i : ℕ) → 0 < n → Fronts n limit t k ws i → count_at t k < k.capacity →
    0 < head_at (replenish limit t k) k partial_list → Fronts (n - 1) limit (claim_front (replenish limit t k) k (get_or ws i 0)) k ws (i + 1)
unfolding Fronts
fronts_next zero limit t k ws i h f l m = absurd (omega arith)
fronts_next (suc n) limit t k ws i h f l m = simp sub-one (f l m).1

-- The refill keeps a working table working, if its turns find fronts of that class and heap.
pub refill_filled :
    (n : ℕ) {limit : ℕ} {k : ClassHeap} {t : Tables} (w : Working limit k t) (ws : List ℕ) (i : ℕ) →
    Fronts n limit t k ws i →
    Filled w.shape (refill n limit t k ws i).table
unfolding refill Fronts
refill_filled zero w ws i f = w.filled
refill_filled (suc n) {limit} {k} {t} w ws i f =
    let P : Refilled → Type 0 = λ r. Filled w.shape r.table in
    let u = replenish limit t k in
    let last = refill n limit (claim_front u k (get_or ws i 0)) k ws (i + 1) in
    cond_both P (ltb (count_at t k) k.capacity) (cond (no_partial u k) (refilled u i) last) (refilled t i)
    (λ e.
    cond_both P (no_partial u k) (refilled u i) last (λ d. (replenish_working w).filled)
    (λ d.
    let some : 0 < head_at u k partial_list = omega (arith, eqb-false (head_at u k partial_list) 0 d) in
    let r = f (ltb-true (count_at t k) k.capacity e) some in
    let front : Fronted limit k u = record { some = some; own = record { working = replenish_working w; belongs = r.0 } } in
    refill_filled n (claim_front_working front (get_or ws i 0)) ws (i + 1) r.1))
    (λ e. w.filled)

abbrev pub refill_working :
    (n : ℕ) {limit : ℕ} {k : ClassHeap} {t : Tables} (w : Working limit k t) (ws : List ℕ) (i : ℕ) →
    Fronts n limit t k ws i →
    Working limit k (refill n limit t k ws i).table
refill_working n w ws i f = working_on w (refill_filled n w ws i f)

-- A magazine's capacity is small.
pub capacity_few : {limit : ℕ} {k : ClassHeap} {t : Tables} → Working limit k t → k.capacity ≤ 64
unfolding most_capacity
capacity_few w = rw w.named (capacity_within w.shape w.heap w.class)

-- ---- the loop

pub record Refilling (limit : ℕ) (k : ClassHeap) (ws : List ℕ) (t₀ t : Tables) (i left : ℕ) : Type 0 where
  pub working : Working limit k t
  pub fronts : Fronts left limit t k ws i
  pub taken : i + left ≡ k.capacity
  pub long : k.capacity ≤ length ws
  pub same : refill left limit t k ws i ≡ refill k.capacity limit t₀ k ws 0

pub refill_start :
    (limit : ℕ) (k : ClassHeap) (ws : List ℕ) (t : Tables) (left : ℕ) → Working limit k t → Fronts k.capacity limit t k ws 0 → k.capacity ≤ length ws →
    left ≡ k.capacity → Refilling limit k ws t t 0 left
refill_start limit k ws t left w f l e =
    record {
      working = w;
      fronts = rw e f;
      taken = omega (arith, e);
      long = l;
      same = rw e;
    }

module _ (limit : ℕ) (k : ClassHeap) (ws : List ℕ) (t₀ t : Tables) (i left : ℕ) (r : Refilling limit k ws t₀ t i left) (more : 0 < left) where
  module _ (room : count_at t k < k.capacity) (t₁ : Tables) (p : t₁ ≡ replenish limit t k) where
    pub replenished_working : Working limit k t₁
    replenished_working = working_as p (replenish_working r.working)

    -- No span could be had.
    pub refill_ends : head_at t₁ k partial_list ≡ 0 → refilled t₁ i ≡ refill k.capacity limit t₀ k ws 0
    refill_ends e =
        let z : head_at (replenish limit t k) k partial_list ≡ 0 = rw (← p) e in
        ap (λ (u : Tables). refilled u i) p ∙ sym (refill_dry left limit t k ws i room more z) ∙ r.same

    module _ (n : head_at t₁ k partial_list ≡ 0 → ⊥) where
      then : head_at (replenish limit t k) k partial_list ≡ 0 → ⊥
      then = rw (← p) n

      some : 0 < head_at (replenish limit t k) k partial_list
      some = omega (arith, then)

      front : Fronted limit k (replenish limit t k)
      front =
          record {
            some = some;
            own = record { working = replenish_working r.working; belongs = fronts_here left limit t k ws i more r.fronts room some };
          }

      pub refill_fronted : Fronted limit k t₁
      refill_fronted = rw p front

      pub refill_again :
          (t₂ : Tables) (w : ℕ) → w ≡ get_or ws i 0 → t₂ ≡ claim_front t₁ k w →
          (rest : ℕ) → left ≡ rest + 1 → Refilling limit k ws t₀ t₂ (i + 1) rest
      refill_again t₂ w x q rest h =
          let one : rest ≡ left - 1 = omega (arith, h) in
          let c : t₂ ≡ claim_front (replenish limit t k) k (get_or ws i 0) = rw (← p, ← x) q in
          record {
            working = working_as c (claim_front_working front (get_or ws i 0));
            fronts = rw (c, one) (fronts_next left limit t k ws i more r.fronts room some);
            taken = omega (arith, r.taken, h);
            long = r.long;
            same = rw (c, one) (sym (refill_turn left limit t k ws i room more then) ∙ r.same);
          }

-- After the last turn the magazine's whole capacity was claimed.
pub refill_done :
    (limit : ℕ) (k : ClassHeap) (ws : List ℕ) (t₀ t : Tables) (i left : ℕ) → Refilling limit k ws t₀ t i left → left ≤ 0 →
    refilled t k.capacity ≡ refill k.capacity limit t₀ k ws 0
refill_done limit k ws t₀ t i left r h =
    let all : k.capacity ≡ i = omega (arith, r.taken, h) in
    ap (λ (n : ℕ). refilled t n) all ∙ sym (refill_out left limit t k ws i h) ∙ r.same

-- A refill uses a word a turn, at most.
pub refill_words : (n limit : ℕ) (t : Tables) (k : ClassHeap) (ws : List ℕ) (i : ℕ) → (refill n limit t k ws i).words ≤ i + n
unfolding refill
refill_words zero limit t k ws i = omega arith
refill_words (suc n) limit t k ws i =
    cond_both (λ (r : Refilled). r.words ≤ i + suc n) (ltb (count_at t k) k.capacity) _ _
    (λ e.
    cond_both (λ (r : Refilled). r.words ≤ i + suc n) (no_partial (replenish limit t k) k) _ _ (λ d. omega arith)
    (λ d. omega (arith, refill_words n limit (claim_front (replenish limit t k) k (get_or ws i 0)) k ws (i + 1))))
    (λ e. omega arith)

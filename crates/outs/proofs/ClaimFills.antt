-- A claim and a refill take no block out and bring none back, and what is cached stays cached: the slots of a claim were free and become cached.
-- Assumes nothing.
use mathlib.Core.Path.{◌≡◌, refl, sym, ap, subst, ◌∙◌}
use mathlib.Core.Bool.{true≢false, cond}
use mathlib.Core.List.{List}
use mathlib.Core.Logic.{⊎_elim}
use Prim.Native.Nat.{ℕ, zero, suc, ◌+◌, ◌-◌, ◌/◌, ◌%◌, ◌<◌}
use native.Mathlib.Nat.{lt_of_lt_of_le}
use native.Mathlib.Decide.{ℕ_discrete}
use native.Mathlib.Omega.{arith}
use borrow.Author.Tests.{eqb-false, ltb-true}
use lib.ListN.{get_or}
use lib.Dec.{ltb}
use Rattle.laws.specs.Word.{is_set}
use Rattle.laws.proofs.CondLaws.{cond_both}
use Rattle.laws.proofs.FirstLaws.{tested}
use Rattle.size_classes.specs.Slots.{most_slots}
use Rattle.occupancy.specs.declared.Claimed.{Claimed}
use Rattle.occupancy.specs.declared.Claimed.TheVariants.{Nothing, Taken}
use Rattle.tables.specs.declared.ClassHeap.{ClassHeap}
use Rattle.tables.specs.Shape.{Shape}
use Rattle.tables.specs.Cells.{Tables, count_at, head_at, partial_list}
use Rattle.magazine.specs.Magazine.{push_entries}
use Rattle.magazine.specs.Held.{OnlyMagazine}
use Rattle.magazine.proofs.OtherMagazines.{pushes_only}
use Rattle.span.specs.Span.{stored, claimed_entries}
use Rattle.span.specs.declared.BlockState.TheVariants.{Free, Cached, Out}
use Rattle.span.specs.State.{state_of}
use Rattle.class_heap.specs.Steps.{taken, claim_of, claim_from, claim_front, no_partial, replenish, Refilled, refill, refilled}
use Rattle.sound.specs.States.{Becomes, SlotsOf, EntriesOf}
use Rattle.filled_magazines.proofs.FilledFacts.{entry_same}
use Rattle.filled_magazines.specs.Pushable.{Pushable}
use Rattle.filled_magazines.proofs.PushesSteps.{push_entries_become}
use Rattle.filled_spans.proofs.SpanValues.{home_most}
use Rattle.filled_spans.proofs.FilledKept.{OnlyOccupancy}
use Rattle.filled_spans.proofs.ClaimKept.{InMask, claim_only, claim_inside, claim_were_free, claim_none_states, claim_states}
use Rattle.placing.specs.Working.{Working}
use Rattle.placing.proofs.PlacingQuiet.{if_full_quiet}
use Rattle.placing.proofs.PlacingKept.{working_room}
use Rattle.replenishing.proofs.ReplenishingLaws.{replenish_working}
use Rattle.claiming.specs.Claimable.{Own, Fronted}
use Rattle.claiming.proofs.ClaimedEntries.{claimed_entry, claimed_has}
use Rattle.claiming.proofs.ClaimingLaws.{pushable_named, claim_claimable, fold_own, claim_front_working}
use Rattle.refilling.specs.Fronts.{Fronts}
use Rattle.outs.specs.Outs.{SameOuts}
use Rattle.outs.proofs.OutsLaws.{spans_then, magazine_spans, occupancy_spans}
use Rattle.outs.proofs.FillsLaws.{Settled, settled_same, settled_cached, Fills, fills_outs, fills_same, fills_then, fills_by, quiet_fills, folded_fills, replenish_fills}

-- ---- the slots of a mask and their entries

-- A slot is one of a mask, or not.
in_mask_or : (i mask q : ℕ) → Dec (InMask i mask q)
in_mask_or i mask q =
    elim (ℕ_discrete (q / 64) i) [
      | no n ↦ no (λ m. n m.word)
      | yes e ↦
          ⊎_elim (λ b. yes (record { word = e; bit = b })) (λ b. no (λ m. true≢false (sym m.bit ∙ b))) (tested (is_set mask (q % 64)))
    ]

-- ---- what enters the magazine

module _ {n : ℕ} {k : ClassHeap} {t : Tables} (w : Working n k t) {es : List ℕ} (p : Pushable w.shape t k es) where
  -- The blocks of the entries become cached.
  entries_cached : Becomes w.shape t (push_entries es t k) (EntriesOf es) Cached
  entries_cached = rw w.named (push_entries_become w.filled w.in_heaps w.in_classes (pushable_named (sym w.named) p))

  -- Nothing but the magazine changes.
  entries_only : OnlyMagazine t (push_entries es t k) k
  entries_only = pushes_only es t k (working_room w) p.fits

-- ---- a claim of a span

module _ {n : ℕ} {k : ClassHeap} {t : Tables} {s : ℕ} (x : Own n k t s) (word : ℕ) where
  abbrev room : ℕ
  room = k.capacity - count_at t k

  abbrev after : Tables
  after = stored t s (claim_of t k s word).occupancy

  abbrev g : Shape
  g = x.working.shape

  only : OnlyOccupancy t after s
  only = claim_only g t x.working.filled s x.belongs.used room word

  -- Where it finds nothing, no block changes.
  none_fills : (claim_of t k s word).answer ≡ Nothing → Fills g t after
  none_fills e =
      fills_by (occupancy_spans only) only.used
      (λ y q l m. settled_same (claim_none_states g t x.working.filled s x.belongs.used room word e y q m))

  -- Else the slots of its mask were free and become cached.
  module _ (i mask : ℕ) (e : (claim_of t k s word).answer ≡ Taken i mask) where
    abbrev entries : List ℕ
    entries = claimed_entries s i mask

    can : Pushable g after k entries
    can = (claim_claimable x word).pushable i mask e

    inside : (q : ℕ) → InMask i mask q → q < most_slots
    inside q m =
        lt_of_lt_of_le (claim_inside g t x.working.filled s x.belongs.used room word i mask e q m) (home_most g t s)

    -- The entries of the claim are those of the slots in the mask.
    names_slot_lem : (y q : ℕ) → q < most_slots → EntriesOf entries y q → SlotsOf s (InMask i mask) y q
    names_slot_lem y q l h =
        let r = claimed_entry s i mask h.place h.below in
        let d = entry_same y s l (inside r.slot r.in_mask) (sym h.is ∙ r.is) in
        record { span = d.0; slot = subst (InMask i mask) (sym d.1) r.in_mask }

    has_entry : (y q : ℕ) → SlotsOf s (InMask i mask) y q → EntriesOf entries y q
    has_entry y q n = subst (λ (z : ℕ). EntriesOf entries z q) (sym n.span) (claimed_has s i mask q n.slot)

    some_settled : (y q : ℕ) → y < t.used → q < most_slots → Settled (state_of g t y q) (state_of g (push_entries entries after k) y q)
    some_settled y q l m = go (ℕ_discrete y s) (in_mask_or i mask q)
      where
        put : Becomes g after (push_entries entries after k) (EntriesOf entries) Cached
        put = entries_cached (claim_claimable x word).working can

        took : Becomes g t after (SlotsOf s (InMask i mask)) Out
        took = claim_states g t x.working.filled s x.belongs.used room word i mask e

        still : y < after.used
        still = rw only.used l

        free : SlotsOf s (InMask i mask) y q → state_of g t y q ≡ Free
        free n =
            ap (λ (z : ℕ). state_of g t z q) n.span
            ∙ claim_were_free g t x.working.filled s x.belongs.used room word i mask e q m n.slot

        other : (SlotsOf s (InMask i mask) y q → ⊥) → Settled (state_of g t y q) (state_of g (push_entries entries after k) y q)
        other n = settled_same (put.others y q still m (λ h. n (names_slot_lem y q m h)) ∙ took.others y q l m n)

        go : Dec (y ≡ s) → Dec (InMask i mask q) → Settled (state_of g t y q) (state_of g (push_entries entries after k) y q)
        go (yes d) (yes n) =
            let this : SlotsOf s (InMask i mask) y q = record { span = d; slot = n } in
            settled_cached (free this) (put.named y q still m (has_entry y q this))
        go (yes d) (no n) = other (λ a. n a.slot)
        go (no d) n = other (λ a. d a.span)

    some_fills : Fills g t (push_entries entries after k)
    some_fills =
        let p = entries_only (claim_claimable x word).working can in
        fills_by (spans_then (occupancy_spans only) (magazine_spans p)) (p.used ∙ only.used) some_settled

  taken_fills : (a : Claimed) → (claim_of t k s word).answer ≡ a → Fills g t (taken after k s a)
  unfolding taken
  taken_fills Nothing e = none_fills e
  taken_fills (Taken i mask) e =
      fills_then (some_fills i mask e) (quiet_fills (if_full_quiet (push_entries (claimed_entries s i mask) after k) k s) g)

  -- A claim of a span of the class and heap.
  pub claim_from_fills : Fills x.working.shape t (claim_from t k s word)
  unfolding claim_from
  claim_from_fills = taken_fills (claim_of t k s word).answer refl

-- ---- a claim of the front, and a refill

-- A claim of the front partial span, its pending frees folded in first.
pub claim_front_fills : {n : ℕ} {k : ClassHeap} {t : Tables} (x : Fronted n k t) (word : ℕ) → Fills x.own.working.shape t (claim_front t k word)
unfolding claim_front
claim_front_fills {n} {k} {t} x word =
    let w = x.own.working in
    fills_then (folded_fills w.shape t w.filled (head_at t k partial_list - 1) x.own.belongs.used) (claim_from_fills (fold_own x.own) word)

-- Every turn, and so the refill.
pub refill_fills :
    (n : ℕ) {limit : ℕ} {k : ClassHeap} {t : Tables} (w : Working limit k t) (ws : List ℕ) (i : ℕ) →
    Fronts n limit t k ws i →
    Fills w.shape t (refill n limit t k ws i).table
unfolding refill Fronts
refill_fills zero {t = t} w ws i f = fills_same w.shape t
refill_fills (suc n) {limit} {k} {t} w ws i f =
    let P : Refilled → Type 0 = λ r. Fills w.shape t r.table in
    let u = replenish limit t k in
    let last = refill n limit (claim_front u k (get_or ws i 0)) k ws (i + 1) in
    cond_both P (ltb (count_at t k) k.capacity) (cond (no_partial u k) (refilled u i) last) (refilled t i)
    (λ e.
    cond_both P (no_partial u k) (refilled u i) last (λ d. replenish_fills w)
    (λ d.
    let r = f (ltb-true (count_at t k) k.capacity e) (omega (arith, eqb-false (head_at u k partial_list) 0 d)) in
    let front : Fronted limit k u =
    record {
      some = omega (arith, eqb-false (head_at u k partial_list) 0 d);
      own = record { working = replenish_working w; belongs = r.0 };
    } in
    fills_then (fills_then (replenish_fills w) (claim_front_fills front (get_or ws i 0)))
    (refill_fills n (claim_front_working front (get_or ws i 0)) ws (i + 1) r.1)))
    (λ e. fills_same w.shape t)

module _
    (n : ℕ) {limit : ℕ} {k : ClassHeap} {t : Tables} (w : Working limit k t) (ws : List ℕ) (i : ℕ) (f : Fronts n limit t k ws i) where
  -- A refill leaves the same blocks out,
  pub refill_outs : SameOuts w.shape t (refill n limit t k ws i).table
  refill_outs = fills_outs (refill_fills n w ws i f)

  -- and what is cached stays cached.
  pub refill_cached :
      (s q : ℕ) →
      s < t.used →
      q < most_slots →
      state_of w.shape t s q ≡ Cached →
      state_of w.shape (refill n limit t k ws i).table s q ≡ Cached
  refill_cached s q l m = ((refill_fills n w ws i f).old s q l m).cached

-- A claim of a span: the table stays filled, the slots of the mask were free and are out, and every other block is as before. Assumes nothing.
use mathlib.Core.Path.{◌≡◌, refl, sym, ap, subst, ◌∙◌}
use mathlib.Core.Bool.{Bool, true, false, true≢false}
use mathlib.Core.Logic.{⊎_elim}
use Prim.Native.Nat.{ℕ, ◌+◌, ◌*◌, ◌/◌, ◌%◌, ◌<◌}
use native.Mathlib.Nat.{mod-lt, div-add-mod'}
use native.Mathlib.Decide.{ℕ_discrete}
use lib.Dec.{lit<}
use Rattle.laws.specs.Word.{is_set, popcount}
use Rattle.laws.proofs.FirstLaws.{tested}
use Rattle.size_classes.specs.Slots.{most_slots}
use Rattle.occupancy.specs.declared.Occupancy.{Occupancy}
use Rattle.occupancy.specs.declared.Claimed.{Claimed}
use Rattle.occupancy.specs.declared.Claimed.TheVariants.{Nothing, Taken}
use Rattle.occupancy.specs.Occupied.{claim}
use Rattle.occupancy.specs.Right.{is_taken, Right, Took}
use Rattle.occupancy.proofs.ClaimLaws.{claim_right, claim_took, claim_nothing, claim_finds_nothing}
use Rattle.tables.specs.Shape.{Shape}
use Rattle.tables.specs.Cells.{Tables, occupied_at}
use Rattle.span.specs.Span.{loaded, stored}
use Rattle.span.specs.declared.BlockState.TheVariants.{Free, Out}
use Rattle.span.specs.State.{is_occupied, is_pending, state_of}
use Rattle.sound.specs.Sound.{home_of}
use Rattle.sound.specs.Filled.{Filled}
use Rattle.sound.specs.States.{Becomes, SlotsOf}
use Rattle.sound.proofs.StateTests.{is_kept, out_so, free_so}
use Rattle.filled_spans.proofs.SpanValues.{taken_occupied, filled_cells, filled_right}
use Rattle.filled_spans.proofs.FilledKept.{OnlyOccupancy, other_state}
use Rattle.filled_spans.proofs.OwnSpan.{kept_means, own_kept}
use Rattle.filled_spans.proofs.StoredKept.{stored_occupied, stored_pending, stored_only, stored_count, stored_kept, stored_same, stored_becomes}

-- slot q is one of a mask in word i
pub record InMask (i mask q : ℕ) : Type 0 where
  pub word : q / 64 ≡ i
  pub bit : is_set mask (q % 64) ≡ true

-- A claim's answer is nothing, or slots of a mask.
by_answer : (P : Type 0) (a : Claimed) → (a ≡ Nothing → P) → ((i mask : ℕ) → a ≡ Taken i mask → P) → P
by_answer P Nothing none some = none refl
by_answer P (Taken i mask) none some = some i mask refl

module _ (slots : ℕ) (o : Occupancy) (r : Right slots o) (m w : ℕ) where
  -- Where a claim finds nothing, each slot is taken as before.
  none_same : (claim o m w).answer ≡ Nothing → (q : ℕ) → is_taken (claim o m w).occupancy q ≡ is_taken o q
  none_same e q =
      ap (λ c. is_taken c.occupancy q) (claim_finds_nothing slots o r m w (claim_nothing slots o r m w e))

  module _ (i mask : ℕ) (e : (claim o m w).answer ≡ Taken i mask) where
    -- what the claim took
    took : Took slots m o i mask (claim o m w).occupancy
    took = claim_took slots o r m w i mask e

    -- A slot of the mask is one of the span, was free and is taken; another is taken as before.
    mask_slot : (q : ℕ) → InMask i mask q → i * 64 + q % 64 ≡ q
    mask_slot q n = ap (λ (z : ℕ). z * 64 + q % 64) (sym n.word) ∙ div-add-mod' q 64

    mask_inside : (q : ℕ) → InMask i mask q → q < slots
    mask_inside q n = subst (λ (z : ℕ). z < slots) (mask_slot q n) (took.in_range (q % 64) (mod-lt q (lit< tt)) n.bit)

    mask_free : (q : ℕ) → InMask i mask q → is_taken o q ≡ false
    mask_free q n = ap (is_taken o) (sym (mask_slot q n)) ∙ took.free (q % 64) (mod-lt q (lit< tt)) n.bit

    mask_taken : (q : ℕ) → InMask i mask q → is_taken (claim o m w).occupancy q ≡ true
    mask_taken q n =
        ap (is_taken (claim o m w).occupancy) (sym (mask_slot q n)) ∙ took.taken (q % 64) (mod-lt q (lit< tt)) n.bit

    mask_others : (q : ℕ) → (InMask i mask q → ⊥) → is_taken (claim o m w).occupancy q ≡ is_taken o q
    mask_others q n =
        took.others q
        (λ z. ⊎_elim (λ b. absurd (n (record { word = z; bit = b }))) (λ b. b) (tested (is_set mask (q % 64))))

  -- A taken slot stays taken.
  claim_stays : (q : ℕ) → is_taken o q ≡ true → is_taken (claim o m w).occupancy q ≡ true
  claim_stays q t =
      by_answer (is_taken (claim o m w).occupancy q ≡ true) (claim o m w).answer (λ e. none_same e q ∙ t)
      (λ i mask e. mask_others i mask e q (λ n. true≢false (sym t ∙ mask_free i mask e q n)) ∙ t)

-- the occupancy of span s after a claim of at most m slots with word w
abbrev pub claimed_of : Tables → ℕ → ℕ → ℕ → Occupancy
claimed_of t s m w = (claim (loaded t s) m w).occupancy

module _ (g : Shape) (t : Tables) (f : Filled g t) (s : ℕ) (h : s < t.used) (m w : ℕ) where
  -- It is right.
  right : Right (home_of g t s).slots (claimed_of t s m w)
  right = claim_right (home_of g t s).slots (loaded t s) (filled_right g t f s h) m w

  -- An occupied slot is taken in it.
  stays : (q : ℕ) → q < most_slots → is_occupied t s q ≡ true → is_taken (claimed_of t s m w) q ≡ true
  stays q l e = claim_stays (home_of g t s).slots (loaded t s) (filled_right g t f s h) m w q (taken_occupied t s q l ∙ e)

  -- Nothing but the span's words and its count changed.
  pub claim_only : OnlyOccupancy t (stored t s (claimed_of t s m w)) s
  claim_only = stored_only t s (filled_cells g t f s h) (claimed_of t s m w) right.long

  -- The table stays filled.
  pub claim_kept : Filled g (stored t s (claimed_of t s m w))
  claim_kept =
      stored_kept g t f s h (claimed_of t s m w) right (λ q l e. stays q l ((f.spans s h).pending q l e).1)
      (λ q l e. stays q l (kept_means g t f s h q l e).0)

  -- A claim that finds nothing leaves every block as it was.
  pub claim_none_states :
      (claim (loaded t s) m w).answer ≡ Nothing →
      (r q : ℕ) →
      q < most_slots →
      state_of g (stored t s (claimed_of t s m w)) r q ≡ state_of g t r q
  claim_none_states e r q l =
      elim (ℕ_discrete r s) [
        | yes z ↦
            subst (λ (x : ℕ). state_of g (stored t s (claimed_of t s m w)) x q ≡ state_of g t x q) (sym z)
            (stored_same g t f s h (claimed_of t s m w) right q l
            (none_same (home_of g t s).slots (loaded t s) (filled_right g t f s h) m w e q))
        | no n ↦ other_state g t (stored t s (claimed_of t s m w)) s claim_only.span r n q l
      ]

  module _ (i mask : ℕ) (e : (claim (loaded t s) m w).answer ≡ Taken i mask) where
    -- The slots of the mask are slots of the span,
    pub claim_inside : (q : ℕ) → InMask i mask q → q < (home_of g t s).slots
    claim_inside q n = mask_inside (home_of g t s).slots (loaded t s) (filled_right g t f s h) m w i mask e q n

    -- were free,
    clear : (q : ℕ) → q < most_slots → InMask i mask q → is_occupied t s q ≡ false
    clear q l n =
        sym (taken_occupied t s q l)
        ∙ mask_free (home_of g t s).slots (loaded t s) (filled_right g t f s h) m w i mask e q n

    pub claim_were_free : (q : ℕ) → q < most_slots → InMask i mask q → state_of g t s q ≡ Free
    claim_were_free q l n = free_so g t s q (clear q l n)

    -- and are out, and every other block is as before.
    pub claim_states : Becomes g t (stored t s (claimed_of t s m w)) (SlotsOf s (InMask i mask)) Out
    claim_states =
        let slots = (home_of g t s).slots in
        let o = filled_right g t f s h in
        let cells = filled_cells g t f s h in
        let u = stored t s (claimed_of t s m w) in
        stored_becomes g t f s h (claimed_of t s m w) right (SlotsOf s (InMask i mask)) (λ r q n. n.span)
        (λ q l n.
        out_so g u s q
        (record {
          occupied = stored_occupied t s cells (claimed_of t s m w) right.long q l ∙ mask_taken slots (loaded t s) o m w i mask e q n.slot;
          not_pending =
              stored_pending t s cells (claimed_of t s m w) right.long q l
              ∙ not_so (is_pending t s q) (λ p. true≢false (sym ((f.spans s h).pending q l p).1 ∙ clear q l n.slot));
          not_kept =
              own_kept g t u s claim_only q
              ∙ not_so (is_kept g t s q) (λ p. true≢false (sym (kept_means g t f s h q l p).0 ∙ clear q l n.slot));
        }))
        (λ q l n. mask_others slots (loaded t s) o m w i mask e q (λ k. n (record { span = refl; slot = k })))
      where
        not_so : (b : Bool) → (b ≡ true → ⊥) → b ≡ false
        not_so b n = ⊎_elim (λ p. absurd (n p)) (λ p. p) (tested b)

    -- As many more slots are occupied as the mask has.
    pub claim_occupied : occupied_at (stored t s (claimed_of t s m w)) s ≡ occupied_at t s + popcount mask
    claim_occupied =
        stored_count t s (filled_cells g t f s h) (claimed_of t s m w) right.long
        ∙ (took (home_of g t s).slots (loaded t s) (filled_right g t f s h) m w i mask e).count

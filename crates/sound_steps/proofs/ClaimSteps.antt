-- A claim from the front partial span: it takes a slot at least, and leaves every span at home. Assumes nothing.
use mathlib.Core.Path.{◌≡◌, refl, ap, ◌∙◌}
use mathlib.Core.List.{List}
use mathlib.Core.Logic.{⊎_elim}
use Prim.Native.Nat.{ℕ, ◌+◌, ◌-◌, ◌*◌, ◌<◌, ◌≤◌}
use native.Mathlib.Omega.{arith}
use borrow.Author.Tests.{eqb-true, eqb-false}
use lib.ListN.{length, get_or}
use Rattle.laws.specs.Word.{popcount}
use Rattle.laws.proofs.CondLaws.{cond_both}
use Rattle.occupancy.specs.declared.Claimed.{Claimed}
use Rattle.occupancy.specs.declared.Claimed.TheVariants.{Nothing, Taken}
use Rattle.occupancy.specs.Occupied.{claim}
use Rattle.occupancy.proofs.ClaimLaws.{claim_nothing, claim_took}
use Rattle.tables.specs.declared.ClassHeap.{ClassHeap}
use Rattle.tables.specs.Shape.{Shape, classes, class_heap}
use Rattle.tables.specs.Cells.{Tables, occupied_at, head_cell, head_at, partial_list, full_list, counter, count_at, entry_of}
use Rattle.magazine.specs.Magazine.{push_entries}
use Rattle.magazine.proofs.OtherMagazines.{pushes_only, other_list}
use Rattle.linked_list.specs.Lists.{push, remove}
use Rattle.linked_list.proofs.QuietLaws.{push_quiet, remove_quiet, quiet_occupied, quiet_count}
use Rattle.span.specs.Span.{loaded, stored, is_full, folded, claimed_entries}
use Rattle.class_heap.specs.Steps.{if_full, taken, claim_from, claim_front}
use Rattle.sound.specs.Sound.{home_of}
use Rattle.filled_magazines.proofs.FilledFacts.{belongs_home, filled_room}
use Rattle.filled_magazines.specs.Pushable.{Pushable}
use Rattle.filled_magazines.proofs.PushesSteps.{push_entries_count, push_entries_filled}
use Rattle.filled_spans.proofs.SpanValues.{filled_right}
use Rattle.filled_spans.proofs.FilledKept.{OnlyOccupancy}
use Rattle.filled_spans.proofs.ClaimKept.{claimed_of, claim_only, claim_kept, claim_occupied}
use Rattle.filled_spans.proofs.ReclaimKept.{folded_only, folded_kept, folded_occupied}
use Rattle.placing.proofs.PlacingQuiet.{if_full_quiet}
use Rattle.claiming.proofs.BitsListed.{bits_length_lem}
use Rattle.claiming.proofs.ClaimingLaws.{claimed_pushable}
use Rattle.homes.specs.Homes.{Whole, Loose, Ready}
use Rattle.homes.proofs.FitsLaws.{fits_partial, fits_full}
use Rattle.homes.proofs.HomesFrame.{loose_recounted, loose_counted}
use Rattle.homes.proofs.HomesMoved.{count_within_slots, settle, push_kept, remove_kept}

-- a step of one span's occupancy leaves every head and count
only_head : {t u : Tables} {s : ℕ} → OnlyOccupancy t u s → (k : ClassHeap) (f : ℕ) → head_at u k f ≡ head_at t k f
only_head o k f = ap (λ (l : List ℕ). get_or l (head_cell k.row f) 0) o.span.heads

-- a span that is not full stays where it is
not_full_same : (t : Tables) (k : ClassHeap) (s : ℕ) → occupied_at t s < k.slots → if_full t k s ≡ t
unfolding if_full
not_full_same t k s l =
    cond_both (λ u. u ≡ t) (is_full t k s) (push (remove t k partial_list s) k full_list s) t
    (λ e. absurd (let z : ⊥ = omega (arith, eqb-true (occupied_at t s) k.slots e) in z)) (λ e. refl)

-- what a claim of span s does: it takes some slots, which enter the magazine, and only where the span is full then does it leave the front
pub record Claims (g : Shape) (t u : Tables) (k : ClassHeap) (s : ℕ) : Type 0 where
  pub taken : ℕ
  pub some : 0 < taken
  pub counted : count_at u k ≡ count_at t k + taken
  pub occupied : occupied_at u s ≤ occupied_at t s + taken
  pub front : occupied_at u s < k.slots → head_at u k partial_list ≡ head_at t k partial_list
  pub used : u.used ≡ t.used
  pub whole : Whole g u

module _ {g : Shape} {h c : ℕ} (hh : h < g.heaps) (hc : c < classes g) where
  -- to the front of the full list if it became full
  pub if_full_whole : {t : Tables} {s : ℕ} → Loose g t (class_heap g h c) partial_list s → 0 < occupied_at t s → Whole g (if_full t (class_heap g h c) s)
  unfolding if_full
  if_full_whole {t} {s} o some =
      let k = class_heap g h c in
      let v = remove t k partial_list s in
      cond_both (Whole g) (is_full t k s) (push v k full_list s) t
      (λ e.
      settle hh hc (push_kept hh hc (omega arith) (remove_kept hh hc (omega arith) o))
      (fits_full
      (quiet_occupied (push_quiet v k full_list (omega arith) s) s
      ∙ quiet_occupied (remove_quiet t k partial_list (omega arith) s) s
      ∙ eqb-true (occupied_at t s) k.slots e)))
      (λ e.
      settle hh hc o
      (fits_partial some (omega (arith, eqb-false (occupied_at t s) k.slots e, count_within_slots hh hc o.near.filled o.belongs))))

  module _ {t : Tables} {s : ℕ} (o : Loose g t (class_heap g h c) partial_list s) (room : occupied_at t s < (class_heap g h c).slots)
      (free : count_at t (class_heap g h c) < (class_heap g h c).capacity) (w : ℕ) where
    -- how many slots may be claimed
    abbrev m : ℕ
    m = (class_heap g h c).capacity - count_at t (class_heap g h c)

    -- the table with the claim's occupancy
    abbrev u : Tables
    u = stored t s (claimed_of t s m w)

    -- a span with room gives something
    never_nothing : (claim (loaded t s) m w).answer ≡ Nothing → ⊥
    never_nothing e =
        let r = filled_right g t o.near.filled s o.belongs.used in
        let z : (home_of g t s).slots ≡ (class_heap g h c).slots = ap (λ (k : ClassHeap). k.slots) (belongs_home g t h c s o.belongs) in
        ⊎_elim (λ q. omega (arith, free)) (λ q. omega (arith, room, z)) (claim_nothing (home_of g t s).slots (loaded t s) r m w e)

    -- the slots taken enter the magazine
    taken_claims :
        (i mask : ℕ) → (claim (loaded t s) m w).answer ≡ Taken i mask →
        Claims g t (if_full (push_entries (claimed_entries s i mask) u (class_heap g h c)) (class_heap g h c) s) (class_heap g h c) s
    taken_claims i mask e =
        let k = class_heap g h c in
        let f = o.near.filled in
        let b = o.belongs.used in
        let only = claim_only g t f s b m w in
        let kept = claim_kept g t f s b m w in
        let es = claimed_entries s i mask in
        let p : Pushable g u k es = claimed_pushable g t f h c s o.belongs m w i mask e (omega arith) in
        let v = push_entries es u k in
        let more = pushes_only es u k (filled_room kept hh hc) p.fits in
        let l : Loose g v k partial_list s = loose_counted (loose_recounted o only kept) more (push_entries_filled kept hh hc p) in
        let q = if_full_quiet v k s in
        let n : occupied_at v s ≡ occupied_at t s + popcount mask = rw more.spans (claim_occupied g t f s b m w i mask e) in
        let long : length es ≡ popcount mask = unfold claimed_entries in bits_length_lem 64 (entry_of s (i * 64)) mask in
        let some : 0 < popcount mask = (claim_took (home_of g t s).slots (loaded t s) (filled_right g t f s b) m w i mask e).some in
        record {
          taken = popcount mask;
          some = some;
          counted =
              quiet_count q k ∙ push_entries_count kept hh hc p ∙ ap (λ (x : ℕ). count_at u k + x) long
              ∙ ap (λ (x : ℕ). x + popcount mask) (only_head only k counter);
          occupied = omega (arith, quiet_occupied q s, n);
          front =
              λ r.
              ap (λ (x : Tables). head_at x k partial_list) (not_full_same v k s (rw (quiet_occupied q s) at r)) ∙ other_list u v k k more partial_list (omega arith) ∙ only_head only k partial_list;
          used = q.used ∙ more.used ∙ only.used;
          whole = if_full_whole l (omega (arith, n, some));
        }

    -- so a claim of a span with room takes one slot at least, and leaves the table whole
    pub claim_from_claims : Claims g t (claim_from t (class_heap g h c) s w) (class_heap g h c) s
    unfolding claim_from taken
    claim_from_claims = go (claim (loaded t s) m w).answer refl
      where
        go : (a : Claimed) → (claim (loaded t s) m w).answer ≡ a → Claims g t (taken u (class_heap g h c) s a) (class_heap g h c) s
        go Nothing e = absurd (never_nothing e)
        go (Taken i mask) e = taken_claims i mask e

  -- the same of the front partial span, its pending frees folded in first
  pub claim_front_claims :
      {t : Tables} (r : Ready g t (class_heap g h c)) → count_at t (class_heap g h c) < (class_heap g h c).capacity → (w : ℕ) →
      Claims g t (claim_front t (class_heap g h c) w) (class_heap g h c) r.span
  unfolding claim_front
  claim_front_claims {t} r free w =
      let k = class_heap g h c in
      let s = r.span in
      let f = r.loose.near.filled in
      let b = r.loose.belongs.used in
      let only = folded_only g t f s b in
      let less = folded_occupied g t f s b in
      let same : head_at t k partial_list - 1 ≡ s = omega (arith, r.front) in
      let v = folded t s in
      let x : Claims g v (claim_from v k s w) k s =
      claim_from_claims (loose_recounted r.loose only (folded_kept g t f s b)) (omega (arith, less, r.room)) (rw (only_head only k counter) free) w in
      let y : Claims g t (claim_from v k s w) k s =
      record {
        taken = x.taken;
        some = x.some;
        counted = x.counted ∙ ap (λ (z : ℕ). z + x.taken) (only_head only k counter);
        occupied = omega (arith, x.occupied, less);
        front = λ l. x.front l ∙ only_head only k partial_list;
        used = x.used ∙ only.used;
        whole = x.whole;
      } in
      rw same y

-- One claim, a call at a time; its slots may enter the magazine; and what it keeps. Assumes nothing.
use mathlib.Core.Path.{◌≡◌, refl, sym, ◌∙◌}
use mathlib.Core.Bool.{true, false}
use mathlib.Core.List.{List, [], ◌∷◌}
use Prim.Native.Nat.{ℕ, suc, ◌+◌, ◌-◌, ◌*◌, ◌^◌, ◌<◌, ◌≤◌}
use native.Mathlib.Nat.{mul-le-mul_right}
use native.Mathlib.Omega.{arith}
use lib.ListN.{length}
use Rattle.laws.proofs.CondLaws.{cond_both}
use Rattle.size_classes.specs.Slots.{most_slots}
use Rattle.occupancy.specs.declared.Claimed.{Claimed}
use Rattle.occupancy.specs.declared.Claimed.TheVariants.{Nothing, Taken}
use Rattle.occupancy.specs.Occupied.{claim}
use Rattle.occupancy.specs.Right.{Right, Took}
use Rattle.occupancy.proofs.ClaimLaws.{claim_took}
use Rattle.tables.specs.declared.ClassHeap.{ClassHeap}
use Rattle.tables.specs.Shape.{Shape, class_heap}
use Rattle.tables.specs.Cells.{Tables, head_at, partial_list, full_list, count_at, entry_of}
use Rattle.magazine.specs.Magazine.{push_entry, push_entries}
use Rattle.linked_list.specs.Lists.{push, remove}
use Rattle.span.specs.Room.{SpanCells, Foldable}
use Rattle.span.specs.Span.{loaded, stored, is_full, folded, claimed_entries}
use Rattle.class_heap.specs.Steps.{if_full, taken, claim_of, claim_from, claim_front}
use Rattle.sound.specs.Sound.{home_of, Belongs}
use Rattle.sound.specs.Filled.{Filled}
use Rattle.filled_magazines.proofs.FilledFacts.{belongs_home}
use Rattle.filled_magazines.specs.Pushable.{OutEntry, Pushable}
use Rattle.filled_magazines.proofs.MagazineSteps.{block_out_entry}
use Rattle.filled_magazines.proofs.PushesSteps.{push_entries_filled}
use Rattle.filled_spans.proofs.SpanValues.{home_most, filled_right}
use Rattle.filled_spans.proofs.FilledKept.{only_belongs}
use Rattle.filled_spans.proofs.ClaimKept.{claimed_of, claim_only, claim_kept, claim_inside, claim_states}
use Rattle.filled_spans.proofs.ReclaimKept.{folded_only, folded_kept}
use Rattle.placing.specs.Working.{Working}
use Rattle.placing.proofs.PlacingKept.{working_on, working_room, push_working, remove_working}
use Rattle.reclaiming.proofs.ReclaimingLaws.{working_cells, working_foldable}
use Rattle.claiming.specs.Claimable.{Claimable, Own, Fronted}
use Rattle.claiming.proofs.BitsListed.{bits_apart, bits_length_lem}
use Rattle.claiming.proofs.ClaimedEntries.{MaskEntry, claimed_entry}

-- ---- the slots of a claim are out, of the class and heap, and fit in

module _ (g : Shape) (t : Tables) (o : Filled g t) (h c : ℕ) (s : ℕ) (own : Belongs t (class_heap g h c) s) (m w i mask : ℕ)
    (e : (claim (loaded t s) m w).answer ≡ Taken i mask) where
  took : Took (home_of g t s).slots m (loaded t s) i mask (claimed_of t s m w)
  took = claim_took (home_of g t s).slots (loaded t s) (filled_right g t o s own.used) m w i mask e

  pub claim_place : i < 64
  claim_place = took.place

  claim_few : length (claimed_entries s i mask) ≤ m
  unfolding claimed_entries
  claim_few = rw (bits_length_lem 64 (entry_of s (i * 64)) mask, took.number) (omega arith)

  entry_out : (y : ℕ) → MaskEntry s i mask y → OutEntry g (stored t s (claimed_of t s m w)) (class_heap g h c) y
  entry_out y n =
      let inside = claim_inside g t o s own.used m w i mask e n.slot n.in_mask in
      rw n.is
      (block_out_entry g (stored t s (claimed_of t s m w)) h c s (only_belongs (claim_only g t o s own.used m w) (class_heap g h c) s own)
      (rw (sym (belongs_home g t h c s own)) inside)
      ((claim_states g t o s own.used m w i mask e).named s n.slot own.used (omega (arith, inside, home_most g t s))
      (record { span = refl; slot = n.in_mask })))

  pub claimed_pushable :
      count_at t (class_heap g h c) + m ≤ (class_heap g h c).capacity →
      Pushable g (stored t s (claimed_of t s m w)) (class_heap g h c) (claimed_entries s i mask)
  unfolding claimed_entries stored
  claimed_pushable l =
      record {
        each = λ j d. entry_out _ (claimed_entry s i mask j d);
        distinct = λ j d a f. bits_apart 64 (entry_of s (i * 64)) mask j d a f;
        fits = omega (arith, l, claim_few);
      }

-- ---- a claim of a span of a working table

pub named_room : {k l : ClassHeap} (t : Tables) → k ≡ l → count_at t k ≤ k.capacity → count_at t l + (k.capacity - count_at t k) ≤ l.capacity
named_room {k} {l} t e h = rw (← e) (omega (arith, h))

pub pushable_named : {g : Shape} {t : Tables} {k l : ClassHeap} {es : List ℕ} → k ≡ l → Pushable g t l es → Pushable g t k es
pushable_named e p = rw e p

module _ {n : ℕ} {k : ClassHeap} {t : Tables} {s : ℕ} (x : Own n k t s) where
  pub own_count : count_at t k ≤ k.capacity
  own_count = (working_room x.working).held

  pub own_right : ((slots : ℕ) × Right slots (loaded t s))
  own_right = ((home_of x.working.shape t s).slots, filled_right x.working.shape t x.working.filled s x.belongs.used)

  -- Its answer may enter the magazine.
  abbrev pub claim_claimable : (w : ℕ) → Claimable n k (stored t s (claim_of t k s w).occupancy) s (claim_of t k s w).answer
  claim_claimable w =
      let v = x.working in
      let m = k.capacity - count_at t k in
      let own : Belongs t (class_heap v.shape v.heap v.class) s = (rw v.named at x).belongs in
      record {
        working = working_on v (claim_kept v.shape t v.filled s x.belongs.used m w);
        used = rw (claim_only v.shape t v.filled s x.belongs.used m w).used x.belongs.used;
        place = λ i mask e. claim_place v.shape t v.filled v.heap v.class s own m w i mask e;
        pushable =
            λ i mask e.
            pushable_named v.named (claimed_pushable v.shape t v.filled v.heap v.class s own m w i mask e (named_room t v.named own_count));
      }

  -- The span with its pending frees folded in is one still.
  abbrev pub fold_own : Own n k (folded t s) s
  fold_own =
      let v = x.working in
      record {
        working = working_on v (folded_kept v.shape t v.filled s x.belongs.used);
        belongs = only_belongs (folded_only v.shape t v.filled s x.belongs.used) k s x.belongs;
      }

-- ---- what enters, and what that keeps

pub pushes_used : (es : List ℕ) (t : Tables) (k : ClassHeap) → (push_entries es t k).used ≡ t.used
unfolding push_entries push_entry
pushes_used [] t k = refl
pushes_used (e ∷ es) t k = pushes_used es (push_entry t k e) k

pub if_full_filled : {n : ℕ} {k : ClassHeap} {t : Tables} {s : ℕ} (w : Working n k t) → s < t.used → Filled w.shape (if_full t k s)
unfolding if_full remove
if_full_filled {n} {k} {t} {s} w l =
    cond_both (Filled w.shape) (is_full t k s) (push (remove t k partial_list s) k full_list s) t
    (λ e. (push_working (remove_working w (omega arith) l) (omega arith) l).filled) (λ e. w.filled)

abbrev pub if_full_working : {n : ℕ} {k : ClassHeap} {t : Tables} {s : ℕ} → Working n k t → s < t.used → Working n k (if_full t k s)
if_full_working w l = working_on w (if_full_filled w l)

-- The entries of a used span are numbers of 64 bits.
pub entries_few : {n : ℕ} {k : ClassHeap} {t : Tables} {s i : ℕ} → Working n k t → s < t.used → i < 64 → entry_of s (i * 64) + 64 ≤ 2 ^ 64
unfolding entry_of most_slots
entries_few {n} {k} {t} {s} {i} w l h =
    omega (arith, w.few, w.filled.within, mul-le-mul_right {m = suc s} {n = w.shape.spans} 4096 (omega (arith, w.filled.within)))

module _ {n : ℕ} {k : ClassHeap} {t : Tables} {s i mask : ℕ} (x : Claimable n k t s (Taken i mask)) where
  pub taken_fits : count_at t k + length (claimed_entries s i mask) ≤ k.capacity
  taken_fits = (x.pushable i mask refl).fits

  abbrev pub pushed_working : Working n k (push_entries (claimed_entries s i mask) t k)
  pushed_working =
      let v = x.working in
      working_on v (rw v.named (push_entries_filled v.filled v.in_heaps v.in_classes (pushable_named (sym v.named) (x.pushable i mask refl))))

  pub pushed_used : s < (push_entries (claimed_entries s i mask) t k).used
  pushed_used = rw (pushes_used (claimed_entries s i mask) t k) x.used

pub taken_filled :
    {n : ℕ} {k : ClassHeap} {t : Tables} {s : ℕ} (a : Claimed) (x : Claimable n k t s a) → Filled x.working.shape (taken t k s a)
unfolding taken
taken_filled Nothing x = x.working.filled
taken_filled (Taken i mask) x = (if_full_working (pushed_working x) (pushed_used x)).filled

pub claim_from_filled :
    {n : ℕ} {k : ClassHeap} {t : Tables} {s : ℕ} (x : Own n k t s) (w : ℕ) → Filled x.working.shape (claim_from t k s w)
unfolding claim_from
claim_from_filled {n} {k} {t} {s} x w = taken_filled (claim_of t k s w).answer (claim_claimable x w)

pub claim_front_filled :
    {n : ℕ} {k : ClassHeap} {t : Tables} (x : Fronted n k t) (w : ℕ) → Filled x.own.working.shape (claim_front t k w)
unfolding claim_front
claim_front_filled x w = claim_from_filled (fold_own x.own) w

abbrev pub claim_front_working : {n : ℕ} {k : ClassHeap} {t : Tables} → Fronted n k t → (w : ℕ) → Working n k (claim_front t k w)
claim_front_working x w = working_on x.own.working (claim_front_filled x w)

-- ---- the steps by their tests

module _ (t : Tables) (k : ClassHeap) (s : ℕ) where
  pub if_full_made :
      (t₁ t' : Tables) → is_full t k s ≡ true → t₁ ≡ remove t k partial_list s → t' ≡ push t₁ k full_list s → t' ≡ if_full t k s
  unfolding if_full
  if_full_made t₁ t' h p q = rw (h, ← p) q

  pub if_full_not : is_full t k s ≡ false → t ≡ if_full t k s
  unfolding if_full
  if_full_not h = rw h

  pub taken_none : (a : Claimed) → a ≡ Nothing → t ≡ taken t k s a
  unfolding taken
  taken_none a e = rw e

  pub taken_some :
      (a : Claimed) (i mask : ℕ) (t₁ t' : Tables) → a ≡ Taken i mask → t₁ ≡ push_entries (claimed_entries s i mask) t k → t' ≡ if_full t₁ k s →
      t' ≡ taken t k s a
  unfolding taken
  taken_some a i mask t₁ t' e p q = rw (e, ← p) q

  pub claim_made :
      (w c : ℕ) (a : Claimed) (t₁ t' : Tables) → c ≡ count_at t k →
      a ≡ (claim (loaded t s) (k.capacity - c) w).answer →
      t₁ ≡ stored t s (claim (loaded t s) (k.capacity - c) w).occupancy →
      t' ≡ taken t₁ k s a → t' ≡ claim_from t k s w
  unfolding claim_from
  claim_made w c a t₁ t' o z p q = q ∙ rw (z, p, o)

pub claimable_as :
    {n : ℕ} {k : ClassHeap} {t : Tables} {s : ℕ} (x : Own n k t s) (w c : ℕ) (a : Claimed) (t₁ : Tables) → c ≡ count_at t k →
    a ≡ (claim (loaded t s) (k.capacity - c) w).answer →
    t₁ ≡ stored t s (claim (loaded t s) (k.capacity - c) w).occupancy → Claimable n k t₁ s a
claimable_as x w c a t₁ o z p = rw (z, p, o) (claim_claimable x w)

pub front_made :
    (t t₁ t' : Tables) (k : ClassHeap) (x w : ℕ) → x ≡ head_at t k partial_list → t₁ ≡ folded t (x - 1) → t' ≡ claim_from t₁ k (x - 1) w →
    t' ≡ claim_front t k w
unfolding claim_front
front_made t t₁ t' k x w o p q = rw (← o, ← p) q

pub fronted_fold :
    {n : ℕ} {k : ClassHeap} {t : Tables} (y : Fronted n k t) (t₁ : Tables) (x : ℕ) → x ≡ head_at t k partial_list → t₁ ≡ folded t (x - 1) →
    Own n k t₁ (x - 1)
fronted_fold y t₁ x o p = rw (p, o) (fold_own y.own)

-- The front's cells are there, and its pending slots are taken.
module _ {n : ℕ} {k : ClassHeap} {t : Tables} (y : Fronted n k t) (x : ℕ) (o : x ≡ head_at t k partial_list) where
  pub front_cells : SpanCells t.bits t.spans (x - 1)
  front_cells = rw o (working_cells y.own.working y.own.belongs.used)

  pub front_foldable : ((slots : ℕ) × Foldable slots t.bits t.spans (x - 1))
  front_foldable = rw o (working_foldable y.own.working y.own.belongs.used)

-- The same of an answer that is known.
pub claimable_is : {n : ℕ} {k : ClassHeap} {t : Tables} {s : ℕ} {a b : Claimed} → a ≡ b → Claimable n k t s a → Claimable n k t s b
claimable_is e x = rw (← e) x

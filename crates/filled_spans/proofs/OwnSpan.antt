-- A step that changes the words and the count of one used span alone: what keeps the table filled, and the state of the span's own blocks. Assumes
-- nothing.
use mathlib.Core.Path.{◌≡◌, sym, ap, ap₂, subst, ◌∙◌}
use mathlib.Core.Bool.{true, false}
use Prim.Native.Nat.{ℕ, ◌<◌}
use native.Mathlib.Nat.{lt_of_lt_of_le}
use native.Mathlib.Omega.{arith}
use Rattle.size_classes.specs.Slots.{most_slots}
use Rattle.occupancy.specs.Right.{Right}
use Rattle.tables.specs.declared.ClassHeap.{ClassHeap}
use Rattle.tables.specs.Shape.{Shape, classes, class_heap}
use Rattle.tables.specs.Cells.{Tables, class_field, owner_field, previous_field, next_field, class_at, owner_at, previous_at, next_at, count_at, entry_at, entry_of, entry_span, entry_slot}
use Rattle.tables.proofs.CellLaws.{entry_span_lem, entry_slot_lem}
use Rattle.magazine.specs.Magazine.{is_cached}
use Rattle.magazine.proofs.CachedLaws.{cached_among, among_cached}
use Rattle.span.specs.Span.{loaded}
use Rattle.span.specs.State.{is_occupied, is_pending, state_of}
use Rattle.sound.specs.Sound.{home_of, Belongs, EntrySound}
use Rattle.sound.specs.Filled.{Filled}
use Rattle.sound.proofs.StateTests.{is_kept, same_tests}
use Rattle.filled_spans.proofs.SpanValues.{class_most, RemoteRight, span_filled_lem}
use Rattle.filled_spans.proofs.FilledKept.{OnlyOccupancy, entry_whole, same_cached, filled_after}

module _ (g : Shape) (t : Tables) (f : Filled g t) (s : ℕ) where
  -- A span that belongs to a class of a heap has it for its home.
  home_is : (h c : ℕ) → Belongs t (class_heap g h c) s → class_heap g h c ≡ home_of g t s
  unfolding class_heap
  home_is h c b = ap₂ (class_heap g) (sym b.owner) (sym b.class)

  -- An entry below a count stands in the magazine of its span's class and owner.
  entry_kept :
      (h : ℕ) → h < g.heaps → (c : ℕ) → c < classes g → (i : ℕ) → i < count_at t (class_heap g h c)
      → entry_span (entry_at t (class_heap g h c) i) ≡ s
      → is_kept g t s (entry_slot (entry_at t (class_heap g h c) i)) ≡ true
  entry_kept h hh c hc i l e =
      let k = class_heap g h c in
      let x = entry_at t k i in
      let b : Belongs t k s = subst (Belongs t k) e ((f.magazines h hh c hc).entries i l).belongs in
      let is : x ≡ entry_of s (entry_slot x) = sym (ap (λ (z : ℕ). entry_of z (entry_slot x)) (sym e) ∙ entry_whole x) in
      subst (λ (z : ClassHeap). is_cached t z (entry_of s (entry_slot x)) ≡ true) (home_is h c b)
      (among_cached t k (entry_of s (entry_slot x)) (record { place = i; below = l; is = is }))

  -- A slot of a used span that stands in its magazine is occupied and not pending.
  pub kept_means : s < t.used → (q : ℕ) → q < most_slots → is_kept g t s q ≡ true → (is_occupied t s q ≡ true) × (is_pending t s q ≡ false)
  kept_means h q l e =
      let k = home_of g t s in
      let c = f.spans s h in
      let a = cached_among t k (entry_of s q) e in
      let x : EntrySound t k (entry_of s q) =
      subst (EntrySound t k) a.is ((f.magazines (owner_at t s) c.owner (class_at t s) c.class).entries a.place a.below) in (
        ap₂ (is_occupied t) (sym (entry_span_lem s l)) (sym (entry_slot_lem s l)) ∙ x.occupied,
        ap₂ (is_pending t) (sym (entry_span_lem s l)) (sym (entry_slot_lem s l)) ∙ x.not_pending,
      )

module _ (g : Shape) (t u : Tables) (s : ℕ) (only : OnlyOccupancy t u s) where
  -- The span keeps its class and owner, and what of it stands in a magazine.
  pub own_home : home_of g u s ≡ home_of g t s
  own_home = ap₂ (class_heap g) (only.own owner_field (omega arith) (λ e. omega arith)) (only.own class_field (omega arith) (λ e. omega arith))

  pub own_kept : (q : ℕ) → is_kept g u s q ≡ is_kept g t s q
  own_kept q =
      ap (λ (k : ClassHeap). is_cached u k (entry_of s q)) own_home ∙ same_cached g t u s only.span (home_of g t s) (entry_of s q)

  -- A block of it keeps its state where both its bits do.
  pub own_state :
      (q : ℕ) → is_occupied u s q ≡ is_occupied t s q → is_pending u s q ≡ is_pending t s q → state_of g u s q ≡ state_of g t s q
  own_state q a b = same_tests g t u s q a b (own_kept q)

  -- The table stays filled where the span's occupancy is right, its remote words are, and its cached slots are occupied and not pending.
  pub filled_own :
      Filled g t →
      s < t.used →
      Right (home_of g t s).slots (loaded u s) →
      RemoteRight u s (home_of g t s).slots →
      ((q : ℕ) → q < most_slots → is_kept g t s q ≡ true → (is_occupied u s q ≡ true) × (is_pending u s q ≡ false)) →
      Filled g u
  filled_own f h r m kept =
      let used = only.used in
      let c = f.spans s h in
      let class : class_at u s ≡ class_at t s = only.own class_field (omega arith) (λ e. omega arith) in
      let owner : owner_at u s ≡ owner_at t s = only.own owner_field (omega arith) (λ e. omega arith) in
      let previous : previous_at u s ≡ previous_at t s = only.own previous_field (omega arith) (λ e. omega arith) in
      let next : next_at u s ≡ next_at t s = only.own next_field (omega arith) (λ e. omega arith) in
      filled_after g t u s only.span f
      (record {
        within = omega (arith, used, f.within);
        more = omega (arith, used);
        old = λ i l n. omega (arith, used, l);
        span =
            span_filled_lem g u s (rw class c.class) (rw owner c.owner)
            (subst (λ (k : ClassHeap). Right k.slots (loaded u s)) (sym own_home) r)
            (subst (λ (k : ClassHeap). RemoteRight u s k.slots) (sym own_home) m);
        previous = omega (arith, used, previous, f.previous s h);
        next = omega (arith, used, next, f.next s h);
        entries = entry;
      })
    where
      entry : (x : ℕ) → x < g.heaps → (c : ℕ) → c < classes g → (i : ℕ) → i < count_at t (class_heap g x c)
          → entry_span (entry_at t (class_heap g x c) i) ≡ s
          → EntrySound u (class_heap g x c) (entry_at t (class_heap g x c) i)
      entry x hx c hc i l e =
          let k = class_heap g x c in
          let q = entry_slot (entry_at t k i) in
          let old = (f.magazines x hx c hc).entries i l in
          let b = subst (Belongs t k) e old.belongs in
          let z = kept q (lt_of_lt_of_le old.in_range (class_most g x c)) (entry_kept g t f s x hx c hc i l e) in
          record {
            belongs =
                subst (Belongs u k) (sym e)
                (record {
                  used = omega (arith, only.used, b.used);
                  class = only.own class_field (omega arith) (λ z. omega arith) ∙ b.class;
                  owner = only.own owner_field (omega arith) (λ z. omega arith) ∙ b.owner;
                });
            in_range = old.in_range;
            occupied = ap (λ (y : ℕ). is_occupied u y q) e ∙ z.0;
            not_pending = ap (λ (y : ℕ). is_pending u y q) e ∙ z.1;
          }

-- Allocations by any caller: each is a refusal, which changes nothing, or gives a block that was not out; 6 is given exactly where the class of the
-- heap is exhausted; and a sound table stays sound. Assumes nothing.
use mathlib.Core.Path.{◌≡◌, refl, sym, ap, subst, ◌∙◌}
use mathlib.Core.Bool.{true}
use mathlib.Core.List.{List}
use mathlib.Core.Logic.{◌⊎◌, inl, inr, ⊎_elim}
use Prim.Native.Nat.{ℕ, ◌+◌, ◌*◌, ◌/◌, ◌<◌, ◌≤◌}
use native.Mathlib.Omega.{arith}
use borrow.Author.Tests.{lt-ltb, ltb-true, le-leb}
use lib.ListN.{length, get_or}
use lib.Dec.{eqb, leb, ltb}
use Rattle.laws.proofs.CondLaws.{cond_both}
use Rattle.magazine_layout.specs.Layout.{most_capacity}
use Rattle.size_classes.specs.SlotSizes.{slot_size}
use Rattle.size_classes.specs.Class.{in_range, smallest_class}
use Rattle.size_classes.specs.Slots.{slots_per_span}
use Rattle.size_classes.proofs.ClassTheorems.{Smallest, range_smallest}
use Rattle.size_classes.proofs.SlotTheorems.{Starts}
use Rattle.tables.specs.declared.ClassHeap.{ClassHeap}
use Rattle.tables.specs.Shape.{Shape, class_heap}
use Rattle.tables.specs.Cells.{Tables, count_at}
use Rattle.filled_magazines.proofs.FilledFacts.{belongs_home, capacity_within}
use Rattle.heap.proofs.HeapLaws.{first_words}
use Rattle.calls.specs.Outcome.{Outcome, refused}
use Rattle.calls.specs.Heap.{granted, draw, refill_first, alloc_small}
use Rattle.calls.specs.Calls.{words_needed, allocate_sound, slot_size_at}
use Rattle.outs.specs.Allocated.{Allocated}
use Rattle.sound_calls.specs.Lent.{Lent}
use Rattle.call_laws.specs.Exhausted.{Exhausted}
use Rattle.call_laws.specs.Answers.{Refusal, Given, NamesOut}
use Rattle.call_laws.proofs.ClassCalls.{alloc_small_lent, alloc_small_cases, six_exhausted, exhausted_six}
use Rattle.call_laws.proofs.NamedLaws.{named_out, out_named, named_slot, named_kept}

-- A refusal, by its number.
pub refusal_is : (n : ℕ) (t : Tables) → 0 < n → Refusal t (refused n t)
refusal_is n t l = record { some = l; is = refl }

-- The words of an allocation in a class: one for each claim, and one for the draw.
small_words :
    (limit : ℕ) (t : Tables) (k : ClassHeap) (ws : List ℕ) → (alloc_small limit t k ws).answer.number ≡ 0 →
    (alloc_small limit t k ws).answer.words ≡ (refill_first limit t k ws).words + 1
unfolding alloc_small draw granted
small_words limit t k ws =
    let r = refill_first limit t k ws in
    cond_both (λ (o : Outcome). o.answer.number ≡ 0 → o.answer.words ≡ r.words + 1) (eqb (count_at r.table k) 0) (refused 6 r.table)
    (granted r.table k (get_or ws r.words 0) (r.words + 1)) (λ e z. absurd (let y : ⊥ = omega (arith, z) in y)) (λ e z. refl)

-- They are no more than must be lent.
words_few : (g : Shape) (limit : ℕ) (t : Tables) (h c : ℕ) (ws : List ℕ) → (refill_first limit t (class_heap g h c) ws).words + 1 ≤ words_needed
unfolding words_needed most_capacity
words_few g limit t h c ws = omega (arith, first_words limit t (class_heap g h c) ws, capacity_within g h c)

-- A class's slots and slot size.
class_slots : (g : Shape) (h c : ℕ) → ((class_heap g h c).slot ≡ slot_size g.sizes c) × ((class_heap g h c).slots ≡ slots_per_span (slot_size g.sizes c))
unfolding class_heap
class_slots g h c = (refl, refl)

module _ {g : Shape} {t : Tables} (x : Lent g t) (heap size alignment : ℕ) (words : List ℕ) where
  abbrev class : ℕ
  class = smallest_class g.sizes size alignment

  abbrev in_class : Outcome
  in_class = alloc_small g.spans t (class_heap g heap class) words

  -- What holds of an allocation in the request's class and of every refusal holds of every allocation.
  by_request :
      (P : Outcome → Type 0) → (heap < g.heaps → Smallest g.sizes size alignment class → P in_class) → ((n : ℕ) → 0 < n → P (refused n t)) →
      P (allocate_sound g t heap size alignment words)
  unfolding allocate_sound
  by_request P done not =
      cond_both P (ltb heap g.heaps) _ _
      (λ a.
      cond_both P (leb words_needed (length words)) _ _
      (λ b.
      cond_both P (in_range g.sizes size alignment) _ _
      (λ c. done (ltb-true heap g.heaps a) (range_smallest g.sizes x.sizes size alignment c)) (λ c. not 5 (omega arith)))
      (λ b. not 4 (omega arith)))
      (λ a. not 3 (omega arith))

  -- The table after an allocation is lent again.
  pub allocate_sound_lent : Lent g (allocate_sound g t heap size alignment words).table
  allocate_sound_lent = by_request (λ (o : Outcome). Lent g o.table) (λ hh m. alloc_small_lent x hh m.class words) (λ n l. x)

  given_in :
      (hh : heap < g.heaps) → Smallest g.sizes size alignment class → Allocated g t (class_heap g heap class) in_class →
      Given g t heap size alignment words in_class
  given_in hh m a =
      let k = class_heap g heap class in
      let w = small_words g.spans t k words a.number in
      let e = class_slots g heap class in
      let l : a.slot < k.slots =
      subst (λ (k : ClassHeap). a.slot < k.slots) (belongs_home g in_class.table heap class in_class.answer.span a.belongs) a.comes.now.slot in
      record {
        number = a.number;
        slot = a.slot;
        smallest = m;
        belongs = a.belongs;
        starts = record { at = a.offset ∙ ap (λ (z : ℕ). a.slot * z) e.0; inside = subst (λ (z : ℕ). a.slot < z) e.1 l };
        comes = a.comes;
        used = w;
        few = subst (λ (z : ℕ). z ≤ words_needed) (sym w) (words_few g g.spans t heap class words);
      }

  -- An allocation on a sound table gives a block, or is a refusal.
  pub allocate_sound_cases : Given g t heap size alignment words (allocate_sound g t heap size alignment words) ⊎ Refusal t (allocate_sound g t heap size alignment words)
  allocate_sound_cases =
      by_request (λ (o : Outcome). Given g t heap size alignment words o ⊎ Refusal t o)
      (λ hh m.
      ⊎_elim
      (λ d.
      let e = (six_exhausted x hh m.class words d.number).0 in
      inr (subst (Refusal t) (sym e) (refusal_is 6 t (omega arith))))
      (λ a. inl (given_in hh m a)) (alloc_small_cases x hh m.class words))
      (λ n l. inr (refusal_is n t l))

  -- ---- 6

  module _ (hh : heap < g.heaps) (lent : words_needed ≤ length words) (range : in_range g.sizes size alignment ≡ true) where
    in_class_lem : allocate_sound g t heap size alignment words ≡ in_class
    unfolding allocate_sound
    in_class_lem = rw (lt-ltb heap g.heaps hh, le-leb words_needed (length words) lent, range)

    small : Smallest g.sizes size alignment class
    small = range_smallest g.sizes x.sizes size alignment range

    -- "every slot of this heap's spans in the class is out, and no span is unused": 6 exactly then.
    pub six_exactly_sound :
        ((allocate_sound g t heap size alignment words).answer.number ≡ 6 → Exhausted g t heap (smallest_class g.sizes size alignment)) ×
        (Exhausted g t heap (smallest_class g.sizes size alignment) → (allocate_sound g t heap size alignment words).answer.number ≡ 6)
    six_exactly_sound = (
      λ e. (six_exhausted x hh small.class words (sym (ap (λ (o : Outcome). o.answer.number) in_class_lem) ∙ e)).1,
      λ e. ap (λ (o : Outcome). o.answer.number) in_class_lem ∙ exhausted_six x hh small.class words e,
    )

-- ---- the block that is given, by its span and its offset

module _ {g : Shape} {t : Tables} {heap size alignment : ℕ} {words : List ℕ} {o : Outcome} (a : Given g t heap size alignment words o) where
  given_size : slot_size_at g o.table o.answer.span ≡ slot_size g.sizes (smallest_class g.sizes size alignment)
  unfolding class_heap
  given_size = ap (slot_size g.sizes) a.belongs.class

  given_starts : Starts (slot_size_at g o.table o.answer.span) o.answer.offset a.slot
  given_starts = subst (λ (z : ℕ). Starts z o.answer.offset a.slot) (sym given_size) a.starts

  -- It is out after the allocation,
  pub given_out : Lent g o.table → NamesOut g o.table o.answer.span o.answer.offset
  given_out y = out_named y given_starts a.comes.now

  -- and was not before it.
  pub given_was : Lent g t → NamesOut g t o.answer.span o.answer.offset → ⊥
  unfolding class_heap
  given_was x n =
      let s = o.answer.span in
      let e : slot_size_at g t s ≡ slot_size_at g o.table s = ap (slot_size g.sizes) (sym (a.comes.spans.class s (named_out n).used)) in
      a.comes.was (named_slot x n (subst (λ (z : ℕ). Starts z o.answer.offset a.slot) (sym e) given_starts))

  -- Every block that was out stays out.
  pub given_kept : Lent g o.table → {s offset : ℕ} → NamesOut g t s offset → NamesOut g o.table s offset
  given_kept y {s} {offset} n = named_kept y a.comes.spans n (a.comes.kept s (offset / slot_size_at g t s) (named_out n))

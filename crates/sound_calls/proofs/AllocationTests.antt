-- An allocation on a sound table, by its tests. Assumes nothing.
use Rattle.std.specs.Prelude.{Option, Some, None}
use mathlib.Core.Path.{◌≡◌, refl, sym, ap, ◌∙◌}
use mathlib.Core.Bool.{Bool, true, false, cond}
use mathlib.Core.List.{List}
use Prim.Native.Nat.{ℕ, ◌<◌, ◌≤◌}
use borrow.Author.Tests.{lt-ltb, le-ltb, le-leb, lt-leb}
use lib.ListN.{length}
use Rattle.size_classes.specs.Class.{in_range, smallest_class, class_of}
use Rattle.size_classes.proofs.ClassTheorems.{is_answer}
use Rattle.size_classes.specs.SlotSizes.{Admissible}
use Rattle.tables.specs.declared.ClassHeap.{ClassHeap}
use Rattle.tables.specs.Shape.{Shape, class_heap}
use Rattle.tables.specs.Cells.{Tables}
use Rattle.calls.specs.Outcome.{Outcome, refused}
use Rattle.calls.specs.Heap.{alloc_small}
use Rattle.calls.specs.Calls.{words_needed, allocate_sound}

-- What is no `Some` is `None`.
pub none_is : (o : Option ℕ) → ((x : ℕ) → o ≡ Some x → ⊥) → o ≡ None
none_is (Some x) h = absurd (h x refl)
none_is None h = refl

-- The class that was found is one of the list.
pub found_class : (sizes : List ℕ) → Admissible sizes → (size alignment c : ℕ) → class_of sizes size alignment ≡ Some c → c < length sizes
found_class sizes ok size alignment c e = (is_answer sizes ok size alignment (Some c) e).2.class

-- A class was found where size and alignment are in range, and it is the smallest that fits; else none.
abbrev is_class : Option ℕ → Bool
is_class (Some c) = true
is_class None = false

abbrev class_in : ℕ → Option ℕ → ℕ
class_in d (Some c) = c
class_in d None = d

module _ (sizes : List ℕ) (size alignment : ℕ) where
  found_in : is_class (class_of sizes size alignment) ≡ in_range sizes size alignment
  unfolding class_of
  found_in = by_range (smallest_class sizes size alignment) (in_range sizes size alignment)
    where
      by_range : (c : ℕ) (b : Bool) → is_class (cond b (Some c) None) ≡ b
      by_range c true = refl
      by_range c false = refl

  out_of_range : class_of sizes size alignment ≡ None → in_range sizes size alignment ≡ false
  out_of_range e = sym found_in ∙ ap is_class e

  within_range : (c : ℕ) → class_of sizes size alignment ≡ Some c → (in_range sizes size alignment ≡ true) × (smallest_class sizes size alignment ≡ c)
  unfolding class_of
  within_range c e = let r : in_range sizes size alignment ≡ true = sym found_in ∙ ap is_class e in (r, ap (class_in 0) (rw r at e))

module _ (g : Shape) (t : Tables) (heap size alignment : ℕ) (ws : List ℕ) where
  pub no_heap_lem : g.heaps ≤ heap → refused 3 t ≡ allocate_sound g t heap size alignment ws
  unfolding allocate_sound
  no_heap_lem l = rw (le-ltb heap g.heaps l)

  module _ (hh : heap < g.heaps) where
    pub few_words_lem : length ws < words_needed → refused 4 t ≡ allocate_sound g t heap size alignment ws
    unfolding allocate_sound
    few_words_lem l = rw (lt-ltb heap g.heaps hh, lt-leb words_needed (length ws) l)

    module _ (hw : words_needed ≤ length ws) where
      pub too_large_lem : class_of g.sizes size alignment ≡ None → refused 5 t ≡ allocate_sound g t heap size alignment ws
      unfolding allocate_sound
      too_large_lem e = rw (lt-ltb heap g.heaps hh, le-leb words_needed (length ws) hw, out_of_range g.sizes size alignment e)

      pub in_class_lem :
          (c : ℕ) (k : ClassHeap) (o : Outcome) → class_of g.sizes size alignment ≡ Some c → k ≡ class_heap g heap c →
          o ≡ alloc_small g.spans t k ws → o ≡ allocate_sound g t heap size alignment ws
      unfolding allocate_sound
      in_class_lem c k o e n q =
          let r = within_range g.sizes size alignment c e in
          rw (lt-ltb heap g.heaps hh, le-leb words_needed (length ws) hw, r.0) (q ∙ rw (n, r.1))

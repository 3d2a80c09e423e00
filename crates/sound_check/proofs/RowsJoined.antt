-- All rows joined: the lists hold as many spans as are used exactly where each used span stands once in the lists of its class and heap. Assumes nothing.
use mathlib.Core.Path.{◌≡◌, sym, ap, ap₂, subst, ◌∙◌}
use mathlib.Core.Logic.{⊎_elim}
use Prim.Native.Nat.{ℕ, zero, suc, ◌+◌, ◌*◌, ◌/◌, ◌%◌, ◌<◌, ◌≤◌}
use native.Mathlib.Nat.{le_antisymm, eq-or-lt_of_le, le_of_suc-le-suc, div-add-mod'}
use native.Mathlib.Numerals.{add-one}
use native.Mathlib.Omega.{arith}
use lib.Arith.{digits_div, digits_mod}
use lib.ListN.{length, length-append}
use Rattle.laws.specs.Members.{Mem, NoDup}
use Rattle.laws.proofs.Pigeonhole.{few, many, all_there}
use Rattle.size_classes.specs.SlotSizes.{slot_size}
use Rattle.size_classes.specs.Slots.{fewest_slots}
use Rattle.size_classes.proofs.SlotTheorems.{slots_fewest}
use Rattle.tables.specs.declared.ClassHeap.{ClassHeap}
use Rattle.tables.specs.Shape.{Shape, classes, row_of, class_heap}
use Rattle.tables.specs.Cells.{Tables, class_at, owner_at}
use Rattle.tables.proofs.CellLaws.{row_in}
use Rattle.sound.specs.Sound.{home_of, places_in, Belongs}
use Rattle.sound_lists.specs.Walked.{ClassLists, spans_in}
use Rattle.sound_check.specs.Joined.{class_list, class_at_row, joined}
use Rattle.sound_check.proofs.AppendLaws.{mem_split, mem_left, mem_right, nodup_append}
use Rattle.sound_check.proofs.ClassJoined.{class_length, class_own, class_once, class_places, placed_mem}

-- A class has slots.
pub some_slots : (g : Shape) (h c : ℕ) → 0 < (class_heap g h c).slots
unfolding class_heap fewest_slots
some_slots g h c = omega (arith, slots_fewest (slot_size g.sizes c))

-- A span of a class of a heap has it as its home.
pub belongs_home : (g : Shape) (t : Tables) (h c s : ℕ) → Belongs t (class_heap g h c) s → home_of g t s ≡ class_heap g h c
unfolding class_heap
belongs_home g t h c s b = ap₂ (λ (x y : ℕ). class_heap g x y) b.owner b.class

module _ (g : Shape) (t : Tables) where
  -- the row of span s
  abbrev row_at : ℕ → ℕ
  row_at s = owner_at t s * classes g + class_at t s

  -- The row of a span of row r is r.
  row_is : (r s : ℕ) → Belongs t (class_at_row g r) s → row_at s ≡ r
  unfolding class_heap
  row_is r s b = ap₂ (λ (x y : ℕ). x * classes g + y) b.owner b.class ∙ div-add-mod' r (classes g)

  -- One row more.
  pub joined_more : (r : ℕ) → length (joined g t (r + 1)) ≡ spans_in t (class_at_row g r) + length (joined g t r)
  unfolding joined
  joined_more r =
      rw add-one (length-append (class_list t (class_at_row g r)) (joined g t r) ∙ ap (λ (z : ℕ). z + length (joined g t r)) (class_length t (class_at_row g r)))

  -- Each row's lists are right.
  abbrev pub Each : ℕ → Type 0
  Each n = (r : ℕ) → r < n → ClassLists t (class_at_row g r)

  -- what is known of a span of the first n rows
  record Member (n s : ℕ) : Type 0 where
    used : s < t.used
    row : row_at s < n
    placed : places_in t (home_of g t s) s ≡ 1

  member : (n s : ℕ) → Each n → Mem s (joined g t n) → Member n s
  unfolding joined
  member zero s each m = absurd m
  member (suc n) s each m =
      ⊎_elim
      (λ a.
      let o = each n (omega arith) in
      let b = class_own t (class_at_row g n) o s a in
      record {
        used = b.used;
        row = omega (arith, row_is n s b);
        placed =
            subst (λ (k : ClassHeap). places_in t k s ≡ 1) (sym (belongs_home g t (n / classes g) (n % classes g) s b))
            (class_places t (class_at_row g n) o (some_slots g (n / classes g) (n % classes g)) s a);
      })
      (λ a.
      let o = member n s (λ r l. each r (omega arith)) a in
      record { used = o.used; row = omega (arith, o.row); placed = o.placed })
      (mem_split s (class_list t (class_at_row g n)) (joined g t n) m)

  joined_once : (n : ℕ) → Each n → NoDup (joined g t n)
  unfolding joined
  joined_once zero each = tt
  joined_once (suc n) each =
      let o = each n (omega arith) in
      nodup_append (class_list t (class_at_row g n)) (joined g t n)
      (class_once t (class_at_row g n) o (some_slots g (n / classes g) (n % classes g)))
      (joined_once n (λ r l. each r (omega arith)))
      (λ s a b.
      let z : ⊥ = omega (arith, row_is n s (class_own t (class_at_row g n) o s a), (member n s (λ r l. each r (omega arith)) b).row) in z)

  joined_mem : (n r s : ℕ) → r < n → Mem s (class_list t (class_at_row g r)) → Mem s (joined g t n)
  unfolding joined
  joined_mem zero r s l m = absurd (let z : ⊥ = omega arith in z)
  joined_mem (suc n) r s l m =
      ⊎_elim
      (λ e. mem_left s (class_list t (class_at_row g n)) (joined g t n) (subst (λ (k : ℕ). Mem s (class_list t (class_at_row g k))) e m))
      (λ h. mem_right s (class_list t (class_at_row g n)) (joined g t n) (joined_mem n r s h m))
      (eq-or-lt_of_le (le_of_suc-le-suc l))

  -- No more spans are met than are used.
  pub joined_few : (n : ℕ) → Each n → length (joined g t n) ≤ t.used
  joined_few n each = few t.used (joined g t n) (joined_once n each) (λ s m. (member n s each m).used)

  -- Where as many are met, each used span stands once in the lists of its class and heap.
  pub adds_up : (n : ℕ) → Each n → length (joined g t n) ≡ t.used → (s : ℕ) → s < t.used → places_in t (home_of g t s) s ≡ 1
  adds_up n each e s h =
      (member n s each (all_there t.used (joined g t n) (joined_once n each) (λ x m. (member n x each m).used) e s h)).placed

  -- The row of a span names its home.
  home_row : (s : ℕ) → class_at t s < classes g → class_at_row g (row_at s) ≡ home_of g t s
  home_row s h = ap₂ (λ (x y : ℕ). class_heap g x y) (digits_div (owner_at t s) h) (digits_mod (owner_at t s) h)

  -- And back.
  pub added :
      Each (g.heaps * classes g) → ((s : ℕ) → s < t.used → class_at t s < classes g) → ((s : ℕ) → s < t.used → owner_at t s < g.heaps) →
      ((s : ℕ) → s < t.used → places_in t (home_of g t s) s ≡ 1) → length (joined g t (g.heaps * classes g)) ≡ t.used
  unfolding row_of
  added each class_in owner_in listed =
      le_antisymm (joined_few (g.heaps * classes g) each)
      (many t.used (joined g t (g.heaps * classes g))
      (λ s h.
      joined_mem (g.heaps * classes g) (row_at s) s (row_in g (owner_in s h) (class_in s h))
      (subst (λ (k : ClassHeap). Mem s (class_list t k)) (sym (home_row s (class_in s h))) (placed_mem t (home_of g t s) s (listed s h)))))

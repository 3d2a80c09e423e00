-- A table is sound exactly where its used spans and its rows are right; and an answer that says so is the decision. Assumes nothing.
use mathlib.Core.Path.{◌≡◌, refl, ap₂, subst, ◌∙◌}
use mathlib.Core.Bool.{Bool, true, false}
use Prim.Native.Nat.{ℕ, zero, suc, ◌+◌, ◌*◌, ◌/◌, ◌%◌, ◌<◌, ◌≤◌}
use native.Mathlib.Nat.{mod-lt}
use native.Mathlib.Omega.{arith}
use lib.Arith.{digits_div, digits_mod}
use Rattle.laws.specs.Choice.{Says, is_yes}
use Rattle.laws.specs.Members.{Mem}
use Rattle.laws.proofs.ChainLaws.{chain_first}
use Rattle.laws.proofs.MemberLaws.{all_mem, times_some}
use Rattle.tables.specs.declared.ClassHeap.{ClassHeap}
use Rattle.tables.specs.Shape.{Shape, classes, row_of, class_heap}
use Rattle.tables.specs.Cells.{Tables, previous_at, next_at, head_at, empty_list, reserve}
use Rattle.tables.proofs.CellLaws.{row_in}
use Rattle.linked_list.specs.Lists.{list_of}
use Rattle.sound.specs.Sound.{places_in, SpanFilled, Belongs, MagazineSound, ClassSound, Sound}
use Rattle.sound.specs.Decided.{sound, is_sound}
use Rattle.sound_lists.specs.Walked.{ClassLists}
use Rattle.sound_check.specs.Joined.{class_at_row, RowSound, RowsSound}
use Rattle.sound_check.proofs.RowsJoined.{belongs_home, adds_up, added}
use Rattle.sound_check.proofs.RowTurns.{row_heap}

-- An answer that says what a decision decides is the decision's.
says_yes : {P : Type 0} (d : Dec P) (r : Bool) → Says r P → r ≡ is_yes d
says_yes (yes p) true w = refl
says_yes (yes p) false w = absurd (w p)
says_yes (no n) true w = absurd (n w)
says_yes (no n) false w = refl

pub says_sound : (g : Shape) (t : Tables) (r : Bool) → Says r (Sound g t) → r ≡ is_sound g t
unfolding is_sound
says_sound g t r w = says_yes (sound g t) r w

module _ (g : Shape) (t : Tables) where
  -- ---- a sound table's rows
  module _ (o : Sound g t) where
    -- No span of a sound table is a reserve and the first of the empty list at once.
    apart :
        (h c : ℕ) → h < g.heaps → c < classes g → head_at t (class_heap g h c) empty_list ≡ head_at t (class_heap g h c) reserve →
        head_at t (class_heap g h c) reserve ≡ 0
    apart h c hh hc e = go (head_at t (class_heap g h c) reserve) refl
      where
        k : ClassHeap
        k = class_heap g h c

        w : ClassSound t k
        w = o.class_heaps h hh c hc

        twice : (s : ℕ) → head_at t k reserve ≡ s + 1 → ⊥
        twice s q =
            let m : Mem s (list_of t k reserve) =
            chain_first (previous_at t) (next_at t) (list_of t k reserve) 0 (head_at t k reserve) s w.kept.linked q in
            let n : Mem s (list_of t k empty_list) =
            chain_first (previous_at t) (next_at t) (list_of t k empty_list) 0 (head_at t k empty_list) s w.empty.linked (e ∙ q) in
            let b : Belongs t k s = all_mem (Belongs t k) (list_of t k reserve) w.kept.own s m in
            let one : places_in t k s ≡ 1 =
            subst (λ (j : ClassHeap). places_in t j s ≡ 1) (belongs_home g t h c s b) (o.spans s b.used).listed in
            let z : ⊥ = omega (arith, times_some s (list_of t k reserve) m, times_some s (list_of t k empty_list) n) in z

        go : (x : ℕ) → head_at t k reserve ≡ x → head_at t k reserve ≡ 0
        go zero q = q
        go (suc s) q = absurd (twice s (omega arith))

    class_lists : (h c : ℕ) → h < g.heaps → c < classes g → ClassLists t (class_heap g h c)
    class_lists h c hh hc =
        let w = o.class_heaps h hh c hc in
        record {
          partial = w.partial;
          full = w.full;
          empty = w.empty;
          kept = w.kept;
          alone = w.alone;
          apart = apart h c hh hc;
        }

    pub sound_rows : 0 < classes g → RowsSound g t
    sound_rows some =
        record {
          each =
              λ r l.
              let hh = row_heap some l in
              let hc = mod-lt r some in
              record {
                lists = class_lists (r / classes g) (r % classes g) hh hc;
                magazine = (o.class_heaps (r / classes g) hh (r % classes g) hc).magazine;
              };
          counted =
              added g t (λ r l. class_lists (r / classes g) (r % classes g) (row_heap some l) (mod-lt r some))
              (λ s l. (o.spans s l).cells.class) (λ s l. (o.spans s l).cells.owner) (λ s l. (o.spans s l).listed);
        }

  -- ---- and back
  module _ (within : t.used ≤ g.spans) (filled : (s : ℕ) → s < t.used → SpanFilled g t s) (w : RowsSound g t) where
    row : (h c : ℕ) → h < g.heaps → c < classes g → RowSound g t (row_of g h c)
    row h c hh hc = w.each (row_of g h c) (row_in g hh hc)

    row_class : (h c : ℕ) → c < classes g → class_at_row g (row_of g h c) ≡ class_heap g h c
    unfolding row_of
    row_class h c hc = ap₂ (λ (x y : ℕ). class_heap g x y) (digits_div h hc) (digits_mod h hc)

    pub rows_sound : Sound g t
    rows_sound =
        record {
          within = within;
          spans =
              λ s l.
              record { cells = filled s l; listed = adds_up g t (g.heaps * classes g) (λ r h. (w.each r h).lists) w.counted s l };
          class_heaps =
              λ h hh c hc.
              let e = row_class h c hc in
              let l = subst (ClassLists t) e (row h c hh hc).lists in
              record {
                partial = l.partial;
                full = l.full;
                empty = l.empty;
                kept = l.kept;
                alone = l.alone;
                magazine = subst (MagazineSound t) e (row h c hh hc).magazine;
              };
        }

-- The answer of the rows is that of the table, where the spans are right.
pub says_rows :
    (g : Shape) (t : Tables) (r : Bool) → 0 < classes g → t.used ≤ g.spans → ((s : ℕ) → s < t.used → SpanFilled g t s) →
    Says r (RowsSound g t) → r ≡ is_sound g t
says_rows g t true some within filled w = says_sound g t true (rows_sound g t within filled w)
says_rows g t false some within filled w = says_sound g t false (λ o. w (sound_rows g t o some))

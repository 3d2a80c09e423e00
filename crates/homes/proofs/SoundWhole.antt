-- A sound table is whole, and a whole one is sound: homes say what the lists spelled out say. Assumes nothing.
use mathlib.Core.Path.{◌≡◌, refl, sym, ap, subst, ◌∙◌}
use mathlib.Core.Bool.{true}
use Prim.Native.Nat.{ℕ, ◌-◌, ◌<◌, ◌≤◌}
use native.Mathlib.Omega.{arith}
use borrow.Author.Tests.{lt-ltb}
use Rattle.laws.specs.Members.{Mem}
use Rattle.laws.proofs.MemberLaws.{all_mem}
use Rattle.laws.proofs.ListedChains.{home_in, rank_in}
use Rattle.size_classes.specs.SlotSizes.{Admissible}
use Rattle.tables.specs.declared.ClassHeap.{ClassHeap}
use Rattle.tables.specs.Shape.{Shape, classes, class_heap}
use Rattle.tables.specs.Cells.{Tables, as_stated, class_at, owner_at, occupied_at, next_at, head_cell, partial_list, full_list, empty_list, reserve}
use Rattle.linked_list.specs.Lists.{list_of}
use Rattle.linked_list.specs.Named.{no_list}
use Rattle.linked_list.proofs.PlacedLaws.{by_four, kind_at, kind_low, home_at}
use Rattle.sound.specs.Sound.{home_of, Belongs, Partial, Full, Empty, ClassSound, Sound}
use Rattle.sound.proofs.SoundLists.{row_at, sound_placed, sound_lists, sound_listed, places_one, list_sound_lem, reserve_alone}
use Rattle.sound_laws.proofs.SoundFilled.{sound_filled}
use Rattle.filled_magazines.proofs.FilledFacts.{belongs_home}
use Rattle.homes.specs.Homes.{Fits, AtHome, Whole}
use Rattle.homes.proofs.FitsLaws.{fits_partial, fits_full, fits_empty}

-- ---- from the lists spelled out to homes

-- a span of a list of a sound class of a heap may be in that list
class_fits : {t : Tables} {k : ClassHeap} → ClassSound t k → (f : ℕ) → f ≤ reserve → (s : ℕ) → Mem s (list_of t k f) → Fits f (occupied_at t s) k.slots
class_fits {t} {k} o f h s =
    by_four (λ f. Mem s (list_of t k f) → Fits f (occupied_at t s) k.slots) f h
    (λ m.
    let n : Partial k (occupied_at t s) = all_mem (λ s. Partial k (occupied_at t s)) (list_of t k partial_list) o.partial.named s m in
    fits_partial n.0 n.1)
    (λ m. fits_full (all_mem (λ s. Full k (occupied_at t s)) (list_of t k full_list) o.full.named s m))
    (λ m. fits_empty (omega arith) (omega arith) (all_mem (λ s. Empty (occupied_at t s)) (list_of t k empty_list) o.empty.named s m))
    (λ m. fits_empty (omega arith) (omega arith) (all_mem (λ s. Empty (occupied_at t s)) (list_of t k reserve) o.kept.named s m))

-- a sound table is whole
pub sound_whole : (g : Shape) (t : Tables) → Admissible g.sizes → as_stated g t ≡ true → Sound g t → Whole g t
sound_whole g t sizes stated o =
    record {
      home = home_in no_list t.used (home_at t (row_at g t));
      rank = rank_in t.used (next_at t);
      near =
          record {
            filled = sound_filled g t sizes stated o;
            listed = sound_listed g t o;
            homes =
                λ s h n.
                let low = kind_low t (sound_placed g t o) s h in
                record {
                  kind = kind_at t (row_at g t) s;
                  cell = simp (lt-ltb s t.used h);
                  fits =
                      class_fits (o.class_heaps _ (o.spans s h).cells.owner _ (o.spans s h).cells.class) (kind_at t (row_at g t) s) low s
                      (unfold class_heap in ((sound_lists g t o).all s h).1);
                };
          };
    }

-- ---- and back

-- a list's place in its row
kind_of : (r f : ℕ) → head_cell r f - head_cell r 0 ≡ f
unfolding head_cell
kind_of r f = omega arith

module _ {g : Shape} {t : Tables} (o : Whole g t) where
  -- the list of its row that span s is at home in
  abbrev kind : ℕ → ℕ
  kind s = o.home s - head_cell (row_at g t s) 0

  -- used spans are at home
  here : (s : ℕ) → s < t.used → AtHome g t s (o.home s)
  here s h = o.near.homes s h (λ e. omega arith)

  same : (s : ℕ) (h : s < t.used) → kind s ≡ (here s h).kind
  same s h = ap (λ (c : ℕ). c - head_cell (row_at g t s) 0) (here s h).cell ∙ kind_of (row_at g t s) (here s h).kind

  low : (s : ℕ) → s < t.used → kind s ≤ reserve
  low s h = rw (same s h) (here s h).fits.low

  mine : (s : ℕ) → s < t.used → o.home s ≡ head_cell (row_at g t s) (kind s)
  mine s h = (here s h).cell ∙ ap (head_cell (row_at g t s)) (sym (same s h))

  -- their classes and owners are valid
  class_in : (s : ℕ) → s < t.used → class_at t s < classes g
  class_in s h = (o.near.filled.spans s h).class

  owner_in : (s : ℕ) → s < t.used → owner_at t s < g.heaps
  owner_in s h = (o.near.filled.spans s h).owner

  module _ (h c : ℕ) where
    -- so a span of the class and heap has a count that its list's name says
    fits_kind : (f s : ℕ) → Belongs t (class_heap g h c) s → kind s ≡ f → Fits f (occupied_at t s) (class_heap g h c).slots
    fits_kind f s b e =
        subst (λ (k : ClassHeap). Fits f (occupied_at t s) k.slots) (belongs_home g t h c s b)
        (subst (λ (f : ℕ). Fits f (occupied_at t s) (home_of g t s).slots) (sym (same s b.used) ∙ e) (here s b.used).fits)

  -- a whole table is sound
  pub whole_sound : Sound g t
  whole_sound =
      record {
        within = o.near.filled.within;
        spans =
            λ s h. record { cells = o.near.filled.spans s h; listed = places_one g t o.near.listed kind class_in owner_in low mine s h };
        class_heaps =
            λ h hh c hc.
            record {
              partial =
                  list_sound_lem g t o.near.listed kind class_in owner_in low mine h c hh hc partial_list (omega arith) (Partial (class_heap g h c))
                  (λ s b e. let n = fits_kind h c partial_list s b e in (n.some refl, n.room refl));
              full =
                  list_sound_lem g t o.near.listed kind class_in owner_in low mine h c hh hc full_list (omega arith) (Full (class_heap g h c))
                  (λ s b e. (fits_kind h c full_list s b e).all refl);
              empty =
                  list_sound_lem g t o.near.listed kind class_in owner_in low mine h c hh hc empty_list (omega arith) Empty
                  (λ s b e. (fits_kind h c empty_list s b e).none (omega arith));
              kept =
                  list_sound_lem g t o.near.listed kind class_in owner_in low mine h c hh hc reserve (omega arith) Empty
                  (λ s b e. (fits_kind h c reserve s b e).none (omega arith));
              alone = reserve_alone g t o.near.listed kind class_in owner_in low mine h c hh hc;
              magazine = o.near.filled.magazines h hh c hc;
            };
      }

-- A fresh table is sound. Assumes nothing.
use mathlib.Core.Path.{◌≡◌, refl}
use mathlib.Core.List.{[]}
use Prim.Native.Nat.{ℕ, ◌<◌}
use native.Mathlib.Decide.{dec_lt}
use native.Mathlib.Nat.{not-suc-le-zero}
use native.Mathlib.Omega.{arith}
use lib.ListN.{length, get_or, replicate, get_or-replicate, length-replicate, get_or-eq_default}
use Rattle.laws.specs.Links.{walk}
use Rattle.tables.specs.declared.ClassHeap.{ClassHeap}
use Rattle.tables.specs.Shape.{Shape}
use Rattle.tables.specs.Cells.{Tables, fresh_tables, head_at, count_at}
use Rattle.linked_list.specs.Lists.{list_of}
use Rattle.sound.specs.Sound.{ListSound, ClassSound, Sound, Partial, Full, Empty}

-- Every cell of a row of zeros is 0, and so is what is read past it.
zero_cell : (n i : ℕ) → ◌≡◌ {A = ℕ} (get_or (replicate n 0) i 0) 0
zero_cell n i =
    elim (dec_lt i n) [
      | yes h ↦ get_or-replicate n i 0 0 h
      | no h ↦ get_or-eq_default (replicate n 0) 0 (let l : length (replicate {A = ℕ} n 0) ≡ n = length-replicate n 0 in omega arith)
    ]

module _ (t : Tables) (k : ClassHeap) where
  -- A list of a fresh table is empty.
  empty_list_lem : (f : ℕ) → list_of (fresh_tables t) k f ≡ []
  unfolding walk fresh_tables
  empty_list_lem f = refl

  front : (f : ℕ) → head_at (fresh_tables t) k f ≡ 0
  unfolding fresh_tables
  front f = zero_cell (length t.heads) _

  list_sound_lem : (f : ℕ) (Named : ℕ → Type 0) → ListSound (fresh_tables t) k f Named
  list_sound_lem f Named =
      record {
        linked = rw (empty_list_lem f) (front f);
        own = rw (empty_list_lem f) tt;
        named = rw (empty_list_lem f) tt;
      }

  none_below : (i : ℕ) → i < count_at (fresh_tables t) k → ⊥
  none_below i h = absurd (let z : ⊥ = omega (arith, front 4) in z)

  class_sound_lem : ClassSound (fresh_tables t) k
  class_sound_lem =
      record {
        partial = list_sound_lem 0 (Partial k);
        full = list_sound_lem 1 (Full k);
        empty = list_sound_lem 2 Empty;
        kept = list_sound_lem 3 Empty;
        alone = rw (empty_list_lem 3) tt;
        magazine =
            record {
              count = omega (arith, front 4);
              entries = λ i h. absurd (none_below i h);
              distinct = λ j h. absurd (none_below j h);
            };
      }

no_span_lem : (t : Tables) (s : ℕ) → s < (fresh_tables t).used → ⊥
unfolding fresh_tables
no_span_lem t s h = not-suc-le-zero h

-- "A fresh table has no spans, empty lists, zero counts": it is sound, whatever stood in the tables before.
pub fresh_sound : (g : Shape) (t : Tables) → Sound g (fresh_tables t)
fresh_sound g t =
    record {
      within = unfold fresh_tables in omega arith;
      spans = λ s h. absurd (no_span_lem t s h);
      class_heaps = λ h hh c hc. class_sound_lem t _;
    }

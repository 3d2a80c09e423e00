-- Stores to the entries and the heads that come to a step of the magazine. Assumes nothing.
use mathlib.Core.Path.{◌≡◌}
use mathlib.Core.List.{List}
use Prim.Native.Nat.{ℕ, ◌+◌, ◌-◌, ◌%◌}
use lib.ListN.{set, get_or}
use Rattle.tables.specs.declared.ClassHeap.{ClassHeap}
use Rattle.tables.specs.Cells.{tables, head_cell, counter}
use Rattle.magazine.specs.Magazine.{push_entry, pop_entry, draw_entry}
use Rattle.magazine.specs.Room.{count_in}

module _ (b p e e₁ h h₁ : List ℕ) (u : ℕ) (k : ClassHeap) (c : ℕ) (ec : c ≡ count_in h k) where
  -- A store above the count and a count one higher are a push.
  pub push_made :
      (x : ℕ) →
      e₁ ≡ set e (k.base + c) x →
      h₁ ≡ set h (head_cell k.row counter) (c + 1) →
      tables b p e₁ h₁ u ≡ push_entry (tables b p e h u) k x
  unfolding push_entry
  push_made x q r = rw (q, r, ec)

  -- The top entry stored at the drawn place and a count one lower are a draw.
  pub draw_made :
      (word top : ℕ) →
      top ≡ get_or e (k.base + (c - 1)) 0 →
      e₁ ≡ set e (k.base + word % c) top →
      h₁ ≡ set h (head_cell k.row counter) (c - 1) →
      tables b p e₁ h₁ u ≡ draw_entry (tables b p e h u) k word
  unfolding draw_entry
  draw_made word top et q r = rw (q, r, et, ec)

-- A count one lower is a pop.
pub pop_made :
    (b p e h h₁ : List ℕ) (u : ℕ) (k : ClassHeap) (c : ℕ) →
    c ≡ count_in h k →
    h₁ ≡ set h (head_cell k.row counter) (c - 1) →
    tables b p e h₁ u ≡ pop_entry (tables b p e h u) k
unfolding pop_entry
pop_made b p e h h₁ u k c ec r = rw (r, ec)

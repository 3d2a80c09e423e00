-- What stands in the cells of a span after a row of words is copied over its words and after a field is stored, and that no other cell changed.
-- Assumes nothing.
use mathlib.Core.Path.{◌≡◌, sym, ap, ◌∙◌}
use mathlib.Core.List.{List}
use mathlib.Core.Logic.{⊎_elim}
use Prim.Native.Nat.{ℕ, ◌+◌, ◌-◌, ◌<◌, ◌≤◌}
use native.Mathlib.Omega.{arith}
use lib.ListN.{length, get_or, set}
use lib.Seq.{paste, length-paste, get_or-set_same, get_or-set_other}
use Rattle.laws.proofs.BitLaws.{lt_or_le}
use Rattle.laws.proofs.PasteLaws.{paste_in, paste_before, paste_after}
use Rattle.tables.specs.Shape.{bitmap_cells}
use Rattle.tables.specs.Cells.{bitmap_cell, span_cell, next_field}
use Rattle.tables.proofs.CellLaws.{bitmap_next, bitmap_same, span_same, field_in}
use Rattle.span.specs.Room.{WordCells, FieldCells}
use Rattle.span.proofs.CellsThere.{word_there, field_there}

-- A cell that is none of the copied ones stays.
pub paste_other :
    (d : List ℕ) (at : ℕ) (xs : List ℕ) (n p : ℕ) →
    at ≤ length d →
    n ≤ length xs →
    ((j : ℕ) → j < n → p ≡ at + j → ⊥) →
    get_or (paste d at xs n) p 0 ≡ get_or d p 0
paste_other d at xs n p hd hx apart =
    ⊎_elim (λ l. paste_before d at xs n p hd l)
    (λ l. ⊎_elim (λ u. absurd (apart (p - at) (omega arith) (omega arith))) (λ u. paste_after d at xs n p hd hx u) (lt_or_le p (at + n)))
    (lt_or_le p at)

-- A row of n words is copied over the words of span s from word a on.
module _ (bits : List ℕ) (s : ℕ) (cells : WordCells bits s) (a : ℕ) (xs : List ℕ) (n : ℕ) (ha : a < bitmap_cells) (fits : a + n ≤ bitmap_cells) (hx : n ≤ length xs) where
  -- the words then
  abbrev copied : List ℕ
  copied = paste bits (bitmap_cell s a) xs n

  -- A word that was copied is the one copied.
  pub words_in : (i j : ℕ) → i ≡ a + j → j < n → get_or copied (bitmap_cell s i) 0 ≡ get_or xs j 0
  words_in i j e h =
      ap (λ (z : ℕ). get_or copied z 0) (ap (bitmap_cell s) e ∙ bitmap_next s a j)
      ∙ paste_in bits (bitmap_cell s a) xs n j (omega (arith, word_there bits s cells ha)) hx h

  -- Every other word of every span stays.
  pub words_other :
      (r i : ℕ) → i < bitmap_cells → (r ≡ s → (j : ℕ) → j < n → i ≡ a + j → ⊥) → get_or copied (bitmap_cell r i) 0 ≡ get_or bits (bitmap_cell r i) 0
  words_other r i hi apart =
      paste_other bits (bitmap_cell s a) xs n (bitmap_cell r i) (omega (arith, word_there bits s cells ha)) hx
      (λ j l e. let k = bitmap_same r s hi (let h : a + j < bitmap_cells = omega arith in h) (e ∙ sym (bitmap_next s a j)) in apart k.0 j l k.1)

  -- No word is added or lost.
  pub words_length : length copied ≡ length bits
  words_length = length-paste bits (bitmap_cell s a) xs n (⊎_elim (λ l. some l) (λ l. omega (arith, word_there bits s cells ha)) (lt_or_le 0 n)) hx
    where
      some : 0 < n → bitmap_cell s a + n ≤ length bits
      some l = omega (arith, word_there bits s cells {i = a + (n - 1)} (omega arith), bitmap_next s a (n - 1))

-- Field f of span s is stored.
module _ (spans : List ℕ) (s : ℕ) (cells : FieldCells spans s) (f v : ℕ) (hf : f ≤ next_field) where
  -- It holds what was stored, and every other field of every span stays.
  pub field_in_place : get_or (set spans (span_cell s f) v) (span_cell s f) 0 ≡ v
  field_in_place = get_or-set_same spans (span_cell s f) v 0 (field_there spans s cells f hf)

  pub field_other :
      (r k : ℕ) → k ≤ next_field → (r ≡ s → k ≡ f → ⊥) → get_or (set spans (span_cell s f) v) (span_cell r k) 0 ≡ get_or spans (span_cell r k) 0
  field_other r k hk apart =
      get_or-set_other spans (span_cell s f) (span_cell r k) v 0
      (λ e. let z = span_same r s (field_in hk) (field_in hf) e in apart z.0 z.1)

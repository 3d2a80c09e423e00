-- The steps of a span, put together from the stores that the code makes. Assumes nothing.
use mathlib.Core.Path.{◌≡◌, sym, ap, ap₂, ◌∙◌}
use mathlib.Core.List.{List, [], ◌∷◌, ◌++◌}
use Prim.Native.Nat.{ℕ, suc, ◌+◌, ◌/◌, ◌%◌, ◌<◌, ◌≤◌}
use native.Mathlib.Numerals.{add-one}
use native.Mathlib.Omega.{arith}
use lib.ListN.{length, get_or, set, replicate}
use lib.Seq.{paste}
use Rattle.laws.specs.Word.{set_bit}
use Rattle.laws.proofs.PasteLaws.{paste_cons, paste_append}
use Rattle.occupancy.specs.declared.Occupancy.{Occupancy}
use Rattle.tables.specs.Shape.{bitmap_cells}
use Rattle.tables.specs.Cells.{Tables, tables, bitmap_cell, local_summary, local_word, remote_summary, remote_word}
use Rattle.tables.proofs.CellLaws.{bitmap_next}
use Rattle.span.specs.Span.{clear_pending, remote_free}

-- A store of a summary and a copy of the words after it.
pub local_is :
    (b : List ℕ) (k : ℕ) (o : Occupancy) (b₁ b₂ : List ℕ) (at : ℕ) →
    bitmap_cell k local_summary < length b →
    b₁ ≡ set b (bitmap_cell k local_summary) o.summary →
    at ≡ bitmap_cell k (local_word 0) →
    b₂ ≡ paste b₁ at o.words 64 →
    b₂ ≡ paste b (bitmap_cell k local_summary) (o.summary ∷ o.words) 65
local_is b k o b₁ b₂ at i p q r =
    let n : at ≡ suc (bitmap_cell k local_summary) = q ∙ bitmap_next k 0 1 ∙ add-one (bitmap_cell k 0) in
    r ∙ rw (n, p) (sym (paste_cons b (bitmap_cell k local_summary) o.summary o.words 64 i))

-- A remote free: the slot's bit is set in its pending word, and the word's in the remote summary.
pub remote_is :
    (b p e h : List ℕ) (u s q : ℕ) (b₁ b₂ : List ℕ) (word summary v x : ℕ) →
    word ≡ get_or b (bitmap_cell s (remote_word (q / 64))) 0 →
    summary ≡ get_or b (bitmap_cell s remote_summary) 0 →
    v ≡ set_bit word (q % 64) →
    b₁ ≡ set b (bitmap_cell s (remote_word (q / 64))) v →
    x ≡ set_bit summary (q / 64) →
    b₂ ≡ set b₁ (bitmap_cell s remote_summary) x →
    tables b₂ p e h u ≡ remote_free (tables b p e h u) s q
unfolding remote_free
remote_is b p e h u s q b₁ b₂ word summary v x ew es ev eb ex ec =
    ap (λ (l : List ℕ). tables l p e h u)
    (ec
    ∙ ap₂ (λ (l : List ℕ) (z : ℕ). set l (bitmap_cell s remote_summary) z)
    (eb ∙ ap (λ (z : ℕ). set b (bitmap_cell s (remote_word (q / 64))) z) (ev ∙ ap (λ (z : ℕ). set_bit z (q % 64)) ew))
    (ex ∙ ap (λ (z : ℕ). set_bit z (q / 64)) es))

-- The words of a new span: its fresh summary and words, and nothing pending.
pub blank_is :
    (b : List ℕ) (s : ℕ) (o : Occupancy) (b₁ b₂ : List ℕ) →
    length o.words ≡ 64 →
    bitmap_cell s (remote_word 0) + 64 ≤ length b →
    b₁ ≡ paste b (bitmap_cell s local_summary) (o.summary ∷ o.words) 65 →
    tables b₂ [] [] [] 0 ≡ clear_pending (tables b₁ [] [] [] 0) s →
    b₂ ≡ paste b (bitmap_cell s local_summary) ((o.summary ∷ o.words) ++ replicate 65 0) bitmap_cells
unfolding bitmap_cells
blank_is b s o b₁ b₂ l h words w =
    let c : ℕ = bitmap_cell s local_summary in
    let i : bitmap_cell s remote_summary ≡ c + 65 = bitmap_next s 0 65 in
    let j : bitmap_cell s (remote_word 0) ≡ c + 66 = bitmap_next s 0 66 in
    ap (λ (t : Tables). t.bits) w
    ∙ ap₂ (λ (z : List ℕ) (k : ℕ). paste z k (replicate 65 0) 65) words i
    ∙ sym (paste_append b c (o.summary ∷ o.words) (replicate 65 0) 65 65 (ap suc l) (omega arith))

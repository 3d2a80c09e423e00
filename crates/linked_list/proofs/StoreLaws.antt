-- push, remove and pop are what their stores come to, one after the other. Assumes nothing.
use mathlib.Core.Path.{◌≡◌}
use mathlib.Core.Bool.{cond}
use mathlib.Core.List.{List}
use Prim.Native.Nat.{ℕ, ◌+◌, ◌-◌}
use lib.ListN.{get_or, set}
use lib.Dec.{eqb}
use Rattle.tables.specs.declared.ClassHeap.{ClassHeap}
use Rattle.tables.specs.Cells.{Tables, tables, span_cell, previous_field, next_field, head_cell}
use Rattle.linked_list.specs.Lists.{set_linked, set_links, push, remove, pop}

-- the links of s, the back link of the old front, the head
pub push_made :
    (b e l l₁ l₂ h h₁ : List ℕ) (u : ℕ) (k : ClassHeap) (f s old : ℕ) → old ≡ get_or h (head_cell k.row f) 0 → l₁ ≡ set_links l s 0 old →
    l₂ ≡ set_linked l₁ old previous_field (s + 1) → h₁ ≡ set h (head_cell k.row f) (s + 1) →
    tables b l₂ e h₁ u ≡ push (tables b l e h u) k f s
unfolding push
push_made b e l l₁ l₂ h h₁ u k f s old eo e₁ e₂ eh = simp (e₂, e₁, eh, eo)

-- the head, the neighbours' links, the links of s
pub remove_made :
    (b e l l₁ l₂ l₃ h h₁ : List ℕ) (u : ℕ) (k : ClassHeap) (f s p n : ℕ) → p ≡ get_or l (span_cell s previous_field) 0 →
    n ≡ get_or l (span_cell s next_field) 0 → h₁ ≡ cond (eqb p 0) (set h (head_cell k.row f) n) h → l₁ ≡ set_linked l p next_field n →
    l₂ ≡ set_linked l₁ n previous_field p → l₃ ≡ set_links l₂ s 0 0 → tables b l₃ e h₁ u ≡ remove (tables b l e h u) k f s
unfolding remove
remove_made b e l l₁ l₂ l₃ h h₁ u k f s p n ep en eh e₁ e₂ e₃ = simp (e₃, e₂, e₁, eh, ep, en)

-- the front removed
pub pop_made : (t t' : Tables) (k : ClassHeap) (f x : ℕ) → x ≡ get_or t.heads (head_cell k.row f) 0 → t' ≡ remove t k f (x - 1) → t' ≡ pop t k f
unfolding pop
pop_made t t' k f x ex e = simp (e, ex)

-- The steps that place a span, a call at a time. Assumes nothing.
use mathlib.Core.Path.{◌≡◌, sym, ◌∙◌}
use mathlib.Core.Bool.{true, false}
use mathlib.Core.List.{List}
use Prim.Native.Nat.{ℕ, suc, ◌+◌, ◌-◌, ◌<◌}
use native.Mathlib.Nat.{mul-le-mul_right}
use native.Mathlib.Omega.{arith}
use borrow.Author.Tests.{eq-eqb, ne_eqb}
use lib.ListN.{get_or, set}
use Rattle.tables.specs.declared.ClassHeap.{ClassHeap}
use Rattle.tables.specs.Shape.{record_cells}
use Rattle.tables.specs.Cells.{Tables, tables, head_cell, head_at, partial_list, full_list, empty_list, reserve}
use Rattle.linked_list.specs.Lists.{push, remove, pop}
use Rattle.linked_list.specs.Reach.{Links}
use Rattle.linked_list.proofs.LinksKept.{remove_links}
use Rattle.span.specs.Room.{FieldCells}
use Rattle.span.specs.Span.{is_full, is_empty}
use Rattle.class_heap.specs.Steps.{demote, release_empty, place, refile, reactivate}

-- The record of a span among the n is there.
pub cells_here : {n row : ℕ} {spans heads : List ℕ} → Links n spans heads row → {s : ℕ} → s < n → FieldCells spans s
cells_here {n} r {s} h = record { there = omega (arith, r.room, mul-le-mul_right {m = suc s} {n = n} record_cells (omega arith)) }

-- What is known of a table holds of one that equals it.
pub links_as : {n row : ℕ} {t t₁ : Tables} → t ≡ t₁ → Links n t₁.spans t₁.heads row → Links n t.spans t.heads row
links_as e r = rw e r

pub removed_links :
    {n row : ℕ} (t t₁ : Tables) (k : ClassHeap) (f s : ℕ) → t₁ ≡ remove t k f s → Links n t.spans t.heads row → s < n →
    Links n t₁.spans t₁.heads row
removed_links t t₁ k f s e r h = links_as e (remove_links t k f r s h)

-- ---- demote, by its link

pub demote_none : (t : Tables) (k : ClassHeap) (x : ℕ) → x ≡ 0 → t ≡ demote t k x
unfolding demote
demote_none t k x h = simp (eq-eqb x 0 h)

pub demote_some : (t t' : Tables) (k : ClassHeap) (x : ℕ) → (x ≡ 0 → ⊥) → t' ≡ push t k empty_list (x - 1) → t' ≡ demote t k x
unfolding demote
demote_some t t' k x h e = simp (ne_eqb x 0 h) e

-- ---- release

pub release_made :
    (b sp e hd hd₁ : List ℕ) (u : ℕ) (t' : Tables) (k : ClassHeap) (s old : ℕ) →
    old ≡ get_or hd (head_cell k.row reserve) 0 →
    hd₁ ≡ set hd (head_cell k.row reserve) (s + 1) →
    t' ≡ demote (tables b sp e hd₁ u) k old →
    t' ≡ release_empty (tables b sp e hd u) k s
unfolding release_empty
release_made b sp e hd hd₁ u t' k s old o p q = simp (p, o) at q

-- ---- place, by its two tests

module _ (t t' : Tables) (k : ClassHeap) (s : ℕ) where
  pub place_empty : is_empty t s ≡ true → t' ≡ release_empty t k s → t' ≡ place t k s
  unfolding place
  place_empty h q = rw h q

  pub place_full : is_empty t s ≡ false → is_full t k s ≡ true → t' ≡ push t k full_list s → t' ≡ place t k s
  unfolding place
  place_full h l q = rw (h, l) q

  pub place_partial : is_empty t s ≡ false → is_full t k s ≡ false → t' ≡ push t k partial_list s → t' ≡ place t k s
  unfolding place
  place_partial h l q = rw (h, l) q

-- ---- refile

pub refile_made : (t t₁ t' : Tables) (k : ClassHeap) (f s : ℕ) → t₁ ≡ remove t k f s → t' ≡ place t₁ k s → t' ≡ refile t k f s
unfolding refile
refile_made t t₁ t' k f s p q = rw (← p) q

-- ---- reactivate, by the reserve

pub reactivate_reserve :
    (b sp e hd hd₁ : List ℕ) (u : ℕ) (t' : Tables) (k : ClassHeap) (x : ℕ) →
    x ≡ get_or hd (head_cell k.row reserve) 0 →
    (x ≡ 0 → ⊥) →
    hd₁ ≡ set hd (head_cell k.row reserve) 0 →
    t' ≡ push (tables b sp e hd₁ u) k partial_list (x - 1) →
    t' ≡ reactivate (tables b sp e hd u) k
unfolding reactivate
reactivate_reserve b sp e hd hd₁ u t' k x o h p q = simp (ne_eqb _ 0 (λ z. h (o ∙ z))) (simp (p, o) at q)

pub reactivate_empty :
    (t t₁ t' : Tables) (k : ClassHeap) (x s : ℕ) →
    x ≡ head_at t k reserve →
    x ≡ 0 →
    s ≡ head_at t k empty_list - 1 →
    t₁ ≡ pop t k empty_list →
    t' ≡ push t₁ k partial_list s →
    t' ≡ reactivate t k
unfolding reactivate
reactivate_empty t t₁ t' k x s o h z p q = simp (eq-eqb _ _ (sym o ∙ h)) (simp (p, z) at q)

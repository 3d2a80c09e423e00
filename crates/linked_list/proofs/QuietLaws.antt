-- push, remove, pop and a store to the head of a list change links and heads of lists alone, whatever the table holds. Assumes nothing.
use mathlib.Core.Path.{◌≡◌, refl, ◌∙◌}
use Prim.Native.Nat.{ℕ, ◌-◌, ◌<◌, ◌≤◌}
use native.Mathlib.Omega.{arith}
use lib.ListN.{length-set}
use lib.Seq.{get_or-set_other}
use Rattle.tables.specs.declared.ClassHeap.{ClassHeap}
use Rattle.tables.specs.Shape.{head_cells}
use Rattle.tables.specs.Cells.{Tables, class_at, owner_at, occupied_at, head_cell, head_at, set_head, reserve, count_at}
use Rattle.tables.proofs.CellLaws.{field_in, head_same, list_in}
use Rattle.linked_list.specs.Lists.{push, remove, pop}
use Rattle.linked_list.specs.Quiet.{Quiet}
use Rattle.linked_list.proofs.ListCells.{push_spans_length, push_heads_length, push_field, push_head, remove_spans_length, remove_heads_length, remove_field, remove_head}

-- nothing changed
pub quiet_same : (t : Tables) → Quiet t t
quiet_same t =
    record {
      bits = refl;
      entries = refl;
      used = refl;
      spans = refl;
      heads = refl;
      fields = λ s d h p n. refl;
      counts = λ r g h l. refl;
    }

-- one step after the other
pub quiet_on : {t t' t'' : Tables} → Quiet t t' → Quiet t' t'' → Quiet t t''
quiet_on a b =
    record {
      bits = b.bits ∙ a.bits;
      entries = b.entries ∙ a.entries;
      used = b.used ∙ a.used;
      spans = b.spans ∙ a.spans;
      heads = b.heads ∙ a.heads;
      fields = λ s d h p n. b.fields s d h p n ∙ a.fields s d h p n;
      counts = λ r g h l. b.counts r g h l ∙ a.counts r g h l;
    }

-- what a quiet step keeps, by name
module _ {t t' : Tables} (q : Quiet t t') where
  -- the class of every span
  pub quiet_class : (s : ℕ) → class_at t' s ≡ class_at t s
  quiet_class s = q.fields s 0 (field_in (omega arith)) (λ e. omega arith) (λ e. omega arith)

  -- its owner
  pub quiet_owner : (s : ℕ) → owner_at t' s ≡ owner_at t s
  quiet_owner s = q.fields s 1 (field_in (omega arith)) (λ e. omega arith) (λ e. omega arith)

  -- its count of occupied slots
  pub quiet_occupied : (s : ℕ) → occupied_at t' s ≡ occupied_at t s
  quiet_occupied s = q.fields s 2 (field_in (omega arith)) (λ e. omega arith) (λ e. omega arith)

  -- the count of every magazine
  pub quiet_count : (k : ClassHeap) → count_at t' k ≡ count_at t k
  quiet_count k = q.counts k.row 4 (list_in (omega arith)) (omega arith)

module _ (t : Tables) (k : ClassHeap) (f : ℕ) (hf : f ≤ reserve) where
  -- a list's head is no count
  no_count : (r g : ℕ) → g < head_cells → reserve < g → head_cell r g ≡ head_cell k.row f → ⊥
  no_count r g hg low e = let z : g ≡ f = (head_same r k.row hg (list_in (omega arith)) e).1 in omega arith

  -- a push
  pub push_quiet : (s : ℕ) → Quiet t (push t k f s)
  push_quiet s =
      record {
        bits = unfold push in refl;
        entries = unfold push in refl;
        used = unfold push in refl;
        spans = push_spans_length t k f s;
        heads = push_heads_length t k f s;
        fields = push_field t k f s;
        counts = λ r g h l. push_head t k f s (head_cell r g) (no_count r g h l);
      }

  -- a remove
  pub remove_quiet : (s : ℕ) → Quiet t (remove t k f s)
  remove_quiet s =
      record {
        bits = unfold remove in refl;
        entries = unfold remove in refl;
        used = unfold remove in refl;
        spans = remove_spans_length t k f s;
        heads = remove_heads_length t k f s;
        fields = remove_field t k f s;
        counts = λ r g h l. remove_head t k f s (head_cell r g) (no_count r g h l);
      }

  -- a pop
  pub pop_quiet : Quiet t (pop t k f)
  unfolding pop
  pop_quiet = remove_quiet (head_at t k f - 1)

  -- a store to a list's head
  pub head_quiet : (v : ℕ) → Quiet t (set_head t k f v)
  head_quiet v =
      record {
        bits = refl;
        entries = refl;
        used = refl;
        spans = refl;
        heads = length-set t.heads (head_cell k.row f) v;
        fields = λ s d h p n. refl;
        counts = λ r g h l. get_or-set_other t.heads (head_cell k.row f) (head_cell r g) v 0 (no_count r g h l);
      }

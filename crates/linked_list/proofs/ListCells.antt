-- push, remove and pop, cell by cell: which links and heads they change, and to what. Assumes nothing.
use mathlib.Core.Path.{◌≡◌, refl, ◌∙◌}
use mathlib.Core.Bool.{Bool, true, false, cond}
use mathlib.Core.List.{List}
use Prim.Native.Nat.{ℕ, ◌+◌, ◌-◌, ◌<◌, ◌≤◌}
use native.Mathlib.Omega.{arith}
use native.Mathlib.Decide.{ℕ_discrete}
use lib.ListN.{length, get_or, set, length-set}
use lib.Seq.{get_or-set_same, get_or-set_other}
use lib.Dec.{eqb}
use borrow.Author.Tests.{eq-eqb, ne_eqb}
use Rattle.laws.specs.Listed.{Pushed, Removed}
use Rattle.tables.specs.declared.ClassHeap.{ClassHeap}
use Rattle.tables.specs.Shape.{record_cells}
use Rattle.tables.specs.Cells.{Tables, span_cell, span_field, previous_field, next_field, previous_at, next_at, head_cell, head_at, reserve}
use Rattle.tables.proofs.CellLaws.{span_same, field_in}
use Rattle.linked_list.specs.Lists.{set_linked, set_links, push, remove}
use Rattle.linked_list.specs.Reach.{Links}
use Rattle.linked_list.specs.Named.{heads_at}
use Rattle.linked_list.proofs.ReachLaws.{field_here, linked_here, head_here}

-- ---- cells of a span table

-- different fields, of whatever spans, stand apart
fields_apart : (s y : ℕ) {f d : ℕ} → f < record_cells → d < record_cells → (d ≡ f → ⊥) → span_cell y d ≡ span_cell s f → ⊥
fields_apart s y hf hd n e = n (span_same y s hd hf e).1

-- the back link of one span and the next link of another stand apart
back_next : (s y : ℕ) → span_cell y previous_field ≡ span_cell s next_field → ⊥
back_next s y = fields_apart s y (field_in (omega arith)) (field_in (omega arith)) (λ e. omega arith)

-- and the other way round
next_back : (s y : ℕ) → span_cell y next_field ≡ span_cell s previous_field → ⊥
next_back s y = fields_apart s y (field_in (omega arith)) (field_in (omega arith)) (λ e. omega arith)

-- a link of one kind is at one span alone
back_one : (s y : ℕ) → span_cell y previous_field ≡ span_cell s previous_field → y ≡ s
back_one s y e = (span_same y s (field_in (omega arith)) (field_in (omega arith)) e).0

-- and so is the other
next_one : (s y : ℕ) → span_cell y next_field ≡ span_cell s next_field → y ≡ s
next_one s y e = (span_same y s (field_in (omega arith)) (field_in (omega arith)) e).0

-- a cell that is not the one that a link names stays
linked_other : (f : ℕ) (l : List ℕ) (x v i : ℕ) → ((y : ℕ) → x ≡ y + 1 → i ≡ span_cell y f → ⊥) → get_or (set_linked l x f v) i 0 ≡ get_or l i 0
linked_other f l x v i h = go (ℕ_discrete x 0)
  where
    go : Dec (x ≡ 0) → get_or (set_linked l x f v) i 0 ≡ get_or l i 0
    go (yes e) = simp (eq-eqb x 0 e)
    go (no n) = simp (ne_eqb x 0 n) (get_or-set_other l (span_cell (x - 1) f) i v 0 (λ e. h (x - 1) (omega arith) e))

-- the cell that a link names is stored to
linked_same : (f : ℕ) (l : List ℕ) (x v y : ℕ) → x ≡ y + 1 → span_cell y f < length l → get_or (set_linked l x f v) (span_cell y f) 0 ≡ v
linked_same f l x v y e h =
    let n : x ≡ 0 → ⊥ = λ z. omega arith in
    let q : x - 1 ≡ y = omega arith in
    simp (ne_eqb x 0 n, q) (get_or-set_same l (span_cell y f) v 0 h)

-- no cell is added
linked_length : (f : ℕ) (l : List ℕ) (x v : ℕ) → length (set_linked l x f v) ≡ length l
linked_length f l x v = go (eqb x 0)
  where
    go : (b : Bool) → length (cond b l (set l (span_cell (x - 1) f) v)) ≡ length l
    go true = refl
    go false = length-set l (span_cell (x - 1) f) v

-- the links of s are stored, and no other cell
links_other :
    (l : List ℕ) (s p n i : ℕ) → (i ≡ span_cell s previous_field → ⊥) → (i ≡ span_cell s next_field → ⊥) →
    get_or (set_links l s p n) i 0 ≡ get_or l i 0
links_other l s p n i hp hn =
    get_or-set_other (set l (span_cell s previous_field) p) (span_cell s next_field) i n 0 hn ∙ get_or-set_other l (span_cell s previous_field) i p 0 hp

-- the back link of s
links_back : (l : List ℕ) (s p n : ℕ) → span_cell s previous_field < length l → get_or (set_links l s p n) (span_cell s previous_field) 0 ≡ p
links_back l s p n h =
    get_or-set_other (set l (span_cell s previous_field) p) (span_cell s next_field) (span_cell s previous_field) n 0 (back_next s s)
    ∙ get_or-set_same l (span_cell s previous_field) p 0 h

-- its next link
links_next : (l : List ℕ) (s p n : ℕ) → span_cell s next_field < length l → get_or (set_links l s p n) (span_cell s next_field) 0 ≡ n
links_next l s p n h = get_or-set_same (set l (span_cell s previous_field) p) (span_cell s next_field) n 0 (simp length-set h)

-- no cell is added to a table
links_length : (l : List ℕ) (s p n : ℕ) → length (set_links l s p n) ≡ length l
links_length l s p n = simp length-set

-- ---- push
module _ (t : Tables) (k : ClassHeap) (f s : ℕ) where
  -- the table before the old front is linked back
  abbrev P : List ℕ
  P = set_links t.spans s 0 (head_at t k f)

  -- a push adds no cell to the records
  pub push_spans_length : length (push t k f s).spans ≡ length t.spans
  unfolding push
  push_spans_length = linked_length previous_field P (head_at t k f) (s + 1) ∙ links_length t.spans s 0 (head_at t k f)

  -- nor to the heads
  pub push_heads_length : length (push t k f s).heads ≡ length t.heads
  unfolding push
  push_heads_length = length-set t.heads (head_cell k.row f) (s + 1)

  -- class, owner and occupied stay
  pub push_field : (y d : ℕ) → d < record_cells → (d ≡ previous_field → ⊥) → (d ≡ next_field → ⊥) → span_field (push t k f s) y d ≡ span_field t y d
  unfolding push
  push_field y d hd hp hn =
      linked_other previous_field P (head_at t k f) (s + 1) (span_cell y d) (λ z e. fields_apart z y (field_in (omega arith)) hd hp)
      ∙ links_other t.spans s 0 (head_at t k f) (span_cell y d) (fields_apart s y (field_in (omega arith)) hd hp) (fields_apart s y (field_in (omega arith)) hd hn)

  -- every other head and every count stays
  pub push_head : (c : ℕ) → (c ≡ head_cell k.row f → ⊥) → heads_at (push t k f s) c ≡ heads_at t c
  unfolding push
  push_head c n = get_or-set_other t.heads (head_cell k.row f) c (s + 1) 0 n

  module _ {n : ℕ} (r : Links n t.spans t.heads k.row) (hf : f ≤ reserve) (hs : s < n) (new : head_at t k f ≡ s + 1 → ⊥) where
    -- where s was not the front, every link and head after the push
    pub push_pushed : Pushed (previous_at t) (next_at t) (heads_at t) (previous_at (push t k f s)) (next_at (push t k f s)) (heads_at (push t k f s)) (head_cell k.row f) s
    unfolding push
    push_pushed =
        record {
          top =
              linked_other previous_field P (head_at t k f) (s + 1) (span_cell s previous_field) (λ y e q. new (omega (arith, back_one y s q)))
              ∙ links_back t.spans s 0 (head_at t k f) (field_here r hs (omega arith));
          down =
              linked_other previous_field P (head_at t k f) (s + 1) (span_cell s next_field) (λ y e. next_back y s)
              ∙ links_next t.spans s 0 (head_at t k f) (field_here r hs (omega arith));
          back =
              λ y e.
              linked_same previous_field P (head_at t k f) (s + 1) y e
              (rw (links_length t.spans s 0 (head_at t k f)) (linked_here r (r.fronts f hf) (omega arith) (omega arith)));
          backs =
              λ y m o.
              linked_other previous_field P (head_at t k f) (s + 1) (span_cell y previous_field) (λ z e q. o (omega (arith, back_one z y q)))
              ∙ links_other t.spans s 0 (head_at t k f) (span_cell y previous_field) (λ q. m (back_one s y q)) (back_next s y);
          nexts =
              λ y m.
              linked_other previous_field P (head_at t k f) (s + 1) (span_cell y next_field) (λ z e. next_back z y)
              ∙ links_other t.spans s 0 (head_at t k f) (span_cell y next_field) (next_back s y) (λ q. m (next_one s y q));
          front = get_or-set_same t.heads (head_cell k.row f) (s + 1) 0 (head_here r hf);
          fronts = push_head;
        }

-- ---- remove
module _ (t : Tables) (k : ClassHeap) (f s : ℕ) where
  -- the table with the span before s linked on
  abbrev R₁ : List ℕ
  R₁ = set_linked t.spans (previous_at t s) next_field (next_at t s)

  -- and with the span after s linked back
  abbrev R₂ : List ℕ
  R₂ = set_linked R₁ (next_at t s) previous_field (previous_at t s)

  -- the first has the same length
  R₁-length : length R₁ ≡ length t.spans
  R₁-length = linked_length next_field t.spans (previous_at t s) (next_at t s)

  -- and so has the second
  R₂-length : length R₂ ≡ length t.spans
  R₂-length = linked_length previous_field R₁ (next_at t s) (previous_at t s) ∙ R₁-length

  -- a remove adds no cell to the records
  pub remove_spans_length : length (remove t k f s).spans ≡ length t.spans
  unfolding remove
  remove_spans_length = links_length R₂ s 0 0 ∙ R₂-length

  -- nor to the heads
  pub remove_heads_length : length (remove t k f s).heads ≡ length t.heads
  unfolding remove
  remove_heads_length = go (eqb (previous_at t s) 0)
    where
      go : (b : Bool) → length (cond b (set t.heads (head_cell k.row f) (next_at t s)) t.heads) ≡ length t.heads
      go true = length-set t.heads (head_cell k.row f) (next_at t s)
      go false = refl

  -- class, owner and occupied stay
  pub remove_field : (y d : ℕ) → d < record_cells → (d ≡ previous_field → ⊥) → (d ≡ next_field → ⊥) → span_field (remove t k f s) y d ≡ span_field t y d
  unfolding remove
  remove_field y d hd hp hn =
      links_other R₂ s 0 0 (span_cell y d) (fields_apart s y (field_in (omega arith)) hd hp) (fields_apart s y (field_in (omega arith)) hd hn)
      ∙ linked_other previous_field R₁ (next_at t s) (previous_at t s) (span_cell y d) (λ z e. fields_apart z y (field_in (omega arith)) hd hp)
      ∙ linked_other next_field t.spans (previous_at t s) (next_at t s) (span_cell y d) (λ z e. fields_apart z y (field_in (omega arith)) hd hn)

  -- every other head and every count stays
  pub remove_head : (c : ℕ) → (c ≡ head_cell k.row f → ⊥) → heads_at (remove t k f s) c ≡ heads_at t c
  unfolding remove
  remove_head c n = go (eqb (previous_at t s) 0)
    where
      go : (b : Bool) → get_or (cond b (set t.heads (head_cell k.row f) (next_at t s)) t.heads) c 0 ≡ get_or t.heads c 0
      go true = get_or-set_other t.heads (head_cell k.row f) c (next_at t s) 0 n
      go false = refl

  module _ {n : ℕ} (r : Links n t.spans t.heads k.row) (hf : f ≤ reserve) (hs : s < n) (no_next : next_at t s ≡ s + 1 → ⊥) (no_back : previous_at t s ≡ s + 1 → ⊥) where
    -- where s does not link to itself, every link and head after the remove
    pub remove_removed : Removed (previous_at t) (next_at t) (heads_at t) (previous_at (remove t k f s)) (next_at (remove t k f s)) (heads_at (remove t k f s)) (head_cell k.row f) s
    unfolding remove
    remove_removed =
        record {
          top = links_back R₂ s 0 0 (rw R₂-length (field_here r hs (omega arith)));
          down = links_next R₂ s 0 0 (rw R₂-length (field_here r hs (omega arith)));
          over =
              λ y e.
              links_other R₂ s 0 0 (span_cell y previous_field) (λ q. no_next (omega (arith, back_one s y q))) (back_next s y)
              ∙ linked_same previous_field R₁ (next_at t s) (previous_at t s) y e
              (rw R₁-length (linked_here r (r.next s hs) (omega arith) (omega arith)));
          under =
              λ y e.
              links_other R₂ s 0 0 (span_cell y next_field) (next_back s y) (λ q. no_back (omega (arith, next_one s y q)))
              ∙ linked_other previous_field R₁ (next_at t s) (previous_at t s) (span_cell y next_field) (λ z o. next_back z y)
              ∙ linked_same next_field t.spans (previous_at t s) (next_at t s) y e (linked_here r (r.previous s hs) (omega arith) (omega arith));
          backs =
              λ y m o.
              links_other R₂ s 0 0 (span_cell y previous_field) (λ q. m (back_one s y q)) (back_next s y)
              ∙ linked_other previous_field R₁ (next_at t s) (previous_at t s) (span_cell y previous_field) (λ z e q. o (omega (arith, back_one z y q)))
              ∙ linked_other next_field t.spans (previous_at t s) (next_at t s) (span_cell y previous_field) (λ z e. back_next z y);
          nexts =
              λ y m o.
              links_other R₂ s 0 0 (span_cell y next_field) (next_back s y) (λ q. m (next_one s y q))
              ∙ linked_other previous_field R₁ (next_at t s) (previous_at t s) (span_cell y next_field) (λ z e. next_back z y)
              ∙ linked_other next_field t.spans (previous_at t s) (next_at t s) (span_cell y next_field) (λ z e q. o (omega (arith, next_one z y q)));
          front = λ e. simp (eq-eqb (previous_at t s) 0 e) (get_or-set_same t.heads (head_cell k.row f) (next_at t s) 0 (head_here r hf));
          kept = λ m. simp (ne_eqb (previous_at t s) 0 m);
          fronts = remove_head;
        }

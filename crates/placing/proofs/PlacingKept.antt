-- The steps that place a span keep links in range, and a working table working. Assumes nothing.
use mathlib.Core.Path.{◌≡◌}
use mathlib.Core.Bool.{cond}
use Prim.Native.Nat.{ℕ, ◌+◌, ◌-◌, ◌<◌, ◌≤◌}
use native.Mathlib.Omega.{arith}
use borrow.Author.Tests.{eqb-true, eqb-false}
use lib.Dec.{eqb}
use Rattle.laws.proofs.CondLaws.{cond_both}
use Rattle.tables.specs.declared.ClassHeap.{ClassHeap}
use Rattle.tables.specs.Shape.{Shape, classes, class_heap}
use Rattle.tables.specs.Cells.{Tables, head_at, set_head, partial_list, full_list, empty_list, reserve}
use Rattle.magazine.specs.Room.{Room}
use Rattle.linked_list.specs.Lists.{push, remove, pop}
use Rattle.linked_list.specs.Reach.{Links}
use Rattle.linked_list.proofs.QuietLaws.{remove_quiet, pop_quiet}
use Rattle.span.specs.Span.{is_full, is_empty}
use Rattle.class_heap.specs.Steps.{demote, release_empty, place, refile, reactivate}
use Rattle.sound.specs.Filled.{Filled}
use Rattle.filled_magazines.proofs.FilledFacts.{filled_room, filled_links}
use Rattle.filled_magazines.proofs.ListSteps.{push_filled, remove_filled, pop_filled, front_filled}
use Rattle.placing.specs.Working.{Working}

module _ {g : Shape} {h c : ℕ} (hh : h < g.heaps) (hc : c < classes g) where
  -- A link to none or to a used span.
  pub demote_filled : {t : Tables} → Filled g t → {x : ℕ} → x ≤ t.used → Filled g (demote t (class_heap g h c) x)
  unfolding demote
  demote_filled {t} o {x} l =
      cond_both (Filled g) (eqb x 0) t (push t (class_heap g h c) empty_list (x - 1)) (λ e. o)
      (λ e. push_filled o hh hc (omega arith) (omega (arith, eqb-false x 0 e)))

  pub release_filled : {t : Tables} → Filled g t → {s : ℕ} → s < t.used → Filled g (release_empty t (class_heap g h c) s)
  unfolding release_empty
  release_filled {t} o l = demote_filled (front_filled o hh hc (omega arith) (omega arith)) (o.fronts h hh c hc reserve (omega arith))

  pub place_filled : {t : Tables} → Filled g t → {s : ℕ} → s < t.used → Filled g (place t (class_heap g h c) s)
  unfolding place
  place_filled {t} o {s} l =
      cond_both (Filled g) (is_empty t s) (release_empty t (class_heap g h c) s) (cond (is_full t (class_heap g h c) s) (push t (class_heap g h c) full_list s) (push t (class_heap g h c) partial_list s))
      (λ e. release_filled o l)
      (λ e.
      cond_both (Filled g) (is_full t (class_heap g h c) s) (push t (class_heap g h c) full_list s) (push t (class_heap g h c) partial_list s) (λ d. push_filled o hh hc (omega arith) l)
      (λ d. push_filled o hh hc (omega arith) l))

  pub refile_filled : {t : Tables} → Filled g t → {f s : ℕ} → f ≤ reserve → s < t.used → Filled g (refile t (class_heap g h c) f s)
  unfolding refile
  refile_filled {t} o {f} {s} hf l = place_filled (remove_filled o hh hc hf l) (rw (remove_quiet t (class_heap g h c) f hf s).used l)

  pub reactivate_filled : {t : Tables} → Filled g t → 0 < head_at t (class_heap g h c) reserve + head_at t (class_heap g h c) empty_list → Filled g (reactivate t (class_heap g h c))
  unfolding reactivate
  reactivate_filled {t} o l =
      cond_both (Filled g) (eqb (head_at t (class_heap g h c) reserve) 0) (push (pop t (class_heap g h c) empty_list) (class_heap g h c) partial_list (head_at t (class_heap g h c) empty_list - 1))
      (push (set_head t (class_heap g h c) reserve 0) (class_heap g h c) partial_list (head_at t (class_heap g h c) reserve - 1))
      (λ e.
      let z : 0 < head_at t (class_heap g h c) empty_list = omega (arith, eqb-true (head_at t (class_heap g h c) reserve) 0 e) in
      push_filled (pop_filled o hh hc (omega arith) z) hh hc (omega arith)
      (rw (pop_quiet t (class_heap g h c) empty_list (omega arith)).used (omega (arith, o.fronts h hh c hc empty_list (omega arith)))))
      (λ e.
      push_filled (front_filled o hh hc (omega arith) (omega arith)) hh hc (omega arith)
      (omega (arith, eqb-false (head_at t (class_heap g h c) reserve) 0 e, o.fronts h hh c hc reserve (omega arith))))

-- ---- the same of a working table, whose class of a heap has a name; its shape stays

module _ {n : ℕ} {k : ClassHeap} {t : Tables} (w : Working n k t) where
  -- Another filled table of the same shape.
  abbrev pub working_on : {u : Tables} → Filled w.shape u → Working n k u
  working_on o =
      record {
        shape = w.shape;
        heap = w.heap;
        class = w.class;
        in_heaps = w.in_heaps;
        in_classes = w.in_classes;
        named = w.named;
        limited = w.limited;
        few = w.few;
        filled = o;
      }

  -- The magazine's count and entries are there.
  pub working_room : Room t.entries t.heads k
  working_room = rw w.named (filled_room w.filled w.in_heaps w.in_classes)

  -- The links of a working table are in range.
  pub working_links : Links t.used t.spans t.heads k.row
  working_links = rw w.named (filled_links w.filled w.in_heaps w.in_classes)

  abbrev pub push_working : {f s : ℕ} → f ≤ reserve → s < t.used → Working n k (push t k f s)
  push_working hf l = working_on (rw w.named (push_filled w.filled w.in_heaps w.in_classes hf l))

  abbrev pub remove_working : {f s : ℕ} → f ≤ reserve → s < t.used → Working n k (remove t k f s)
  remove_working hf l = working_on (rw w.named (remove_filled w.filled w.in_heaps w.in_classes hf l))

  abbrev pub refile_working : {f s : ℕ} → f ≤ reserve → s < t.used → Working n k (refile t k f s)
  refile_working hf l = working_on (rw w.named (refile_filled w.in_heaps w.in_classes w.filled hf l))

  abbrev pub reactivate_working : 0 < head_at t k reserve + head_at t k empty_list → Working n k (reactivate t k)
  reactivate_working l = working_on (rw w.named (reactivate_filled w.in_heaps w.in_classes w.filled (rw w.named at l)))

-- A table that equals a working one is one.
pub working_as : {n : ℕ} {k : ClassHeap} {t u : Tables} → u ≡ t → Working n k t → Working n k u
working_as e w = rw e w

-- Steps of lists keep a table filled, and leave every block's state as it was. Assumes nothing.
use mathlib.Core.Path.{◌≡◌, ap}
use Prim.Native.Nat.{ℕ, ◌+◌, ◌<◌, ◌≤◌}
use native.Mathlib.Omega.{arith}
use lib.ListN.{length}
use Rattle.tables.specs.declared.ClassHeap.{ClassHeap}
use Rattle.tables.specs.Shape.{Shape, classes, class_heap}
use Rattle.tables.specs.Cells.{Tables, head_at, set_head, reserve, entry_at, entry_of}
use Rattle.magazine.specs.Magazine.{is_cached}
use Rattle.linked_list.specs.Lists.{push, remove, pop}
use Rattle.linked_list.specs.Reach.{Links}
use Rattle.linked_list.specs.Quiet.{Quiet}
use Rattle.linked_list.proofs.QuietLaws.{quiet_class, quiet_owner, quiet_occupied, quiet_count, push_quiet, remove_quiet, pop_quiet, head_quiet}
use Rattle.linked_list.proofs.LinksKept.{push_links, remove_links, pop_links, put_links}
use Rattle.span.specs.State.{state_of}
use Rattle.sound.specs.Sound.{home_of}
use Rattle.sound.specs.Filled.{Filled}
use Rattle.sound.specs.States.{Keeps}
use Rattle.filled_magazines.proofs.FilledFacts.{filled_links}
use Rattle.filled_magazines.proofs.SameSpans.{SameSpans, same_magazine, same_state, same_filled}

-- ---- any step that changes links and fronts alone

module _ {t u : Tables} (q : Quiet t u) where
  pub quiet_spans : SameSpans t u
  quiet_spans =
      record {
        bits = q.bits;
        used = q.used;
        spans = q.spans;
        class = quiet_class q;
        owner = quiet_owner q;
        occupied = quiet_occupied q;
      }

  -- Every entry is as it was, and is cached exactly as before.
  pub quiet_entry : (k : ClassHeap) (i : ℕ) → entry_at u k i ≡ entry_at t k i
  quiet_entry k i = rw q.entries

  pub quiet_cached : (k : ClassHeap) (e : ℕ) → is_cached u k e ≡ is_cached t k e
  unfolding is_cached
  quiet_cached k e = rw (quiet_count q k, q.entries)

  -- Every block's state is as it was.
  pub quiet_state : (g : Shape) (s p : ℕ) → state_of g u s p ≡ state_of g t s p
  quiet_state g s p = same_state quiet_spans g s p (quiet_cached (home_of g t s) (entry_of s p))

  pub quiet_keeps : (g : Shape) → Keeps g t u
  quiet_keeps g = record { states = λ x y h l. quiet_state g x y }

  -- A filled table stays filled, if links and fronts are in range.
  pub quiet_filled :
      (g : Shape) →
      Filled g t →
      ((h c : ℕ) → h < g.heaps → c < classes g → Links t.used u.spans u.heads (class_heap g h c).row) →
      Filled g u
  quiet_filled g o links =
      same_filled quiet_spans g o (ap length q.entries) q.heads links
      (λ h c hh hc.
      same_magazine quiet_spans (class_heap g h c) (quiet_count q (class_heap g h c)) (λ i l. quiet_entry (class_heap g h c) i)
      (o.magazines h hh c hc))

-- ---- push, remove and pop, and a store to a front or a reserve

module _ {g : Shape} {t : Tables} (o : Filled g t) {h c f : ℕ} (hh : h < g.heaps) (hc : c < classes g) (hf : f ≤ reserve) where
  -- A used span to the front of a list.
  pub push_filled : {s : ℕ} → s < t.used → Filled g (push t (class_heap g h c) f s)
  push_filled {s} l =
      quiet_filled (push_quiet t (class_heap g h c) f hf s) g o
      (λ i d hi hd. push_links t (class_heap g h c) f (filled_links o hi hd) s (o.fronts h hh c hc f hf) l)

  -- A used span out of a list.
  pub remove_filled : {s : ℕ} → s < t.used → Filled g (remove t (class_heap g h c) f s)
  remove_filled {s} l =
      quiet_filled (remove_quiet t (class_heap g h c) f hf s) g o
      (λ i d hi hd. remove_links t (class_heap g h c) f (filled_links o hi hd) s l)

  -- The front of a list that has one out of it.
  pub pop_filled : 0 < head_at t (class_heap g h c) f → Filled g (pop t (class_heap g h c) f)
  pop_filled some =
      quiet_filled (pop_quiet t (class_heap g h c) f hf) g o
      (λ i d hi hd. pop_links t (class_heap g h c) f (filled_links o hi hd) (o.fronts h hh c hc f hf) some)

  -- None, or the link to a used span, stored as a front or as the reserve.
  pub front_filled : {v : ℕ} → v ≤ t.used → Filled g (set_head t (class_heap g h c) f v)
  front_filled {v} l =
      quiet_filled (head_quiet t (class_heap g h c) f hf v) g o
      (λ i d hi hd. put_links t (class_heap g h c) f (filled_links o hi hd) v l)

  pub front_none_filled : Filled g (set_head t (class_heap g h c) f 0)
  front_none_filled = front_filled (omega arith)

  pub front_span_filled : {s : ℕ} → s < t.used → Filled g (set_head t (class_heap g h c) f (s + 1))
  front_span_filled l = front_filled (omega arith)

-- ---- and every block's state is as it was, whatever the table holds

module _ (g : Shape) (t : Tables) (k : ClassHeap) (f : ℕ) (hf : f ≤ reserve) (x y : ℕ) where
  pub push_state : (s : ℕ) → state_of g (push t k f s) x y ≡ state_of g t x y
  push_state s = quiet_state (push_quiet t k f hf s) g x y

  pub remove_state : (s : ℕ) → state_of g (remove t k f s) x y ≡ state_of g t x y
  remove_state s = quiet_state (remove_quiet t k f hf s) g x y

  pub pop_state : state_of g (pop t k f) x y ≡ state_of g t x y
  pop_state = quiet_state (pop_quiet t k f hf) g x y

  pub front_state : (v : ℕ) → state_of g (set_head t k f v) x y ≡ state_of g t x y
  front_state v = quiet_state (head_quiet t k f hf v) g x y

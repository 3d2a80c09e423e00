-- The lists of one class of one heap joined: no span twice, each of that class and heap, and each counted once. Assumes nothing.
use mathlib.Core.Path.{◌≡◌, sym, ◌∙◌}
use mathlib.Core.List.{◌++◌}
use mathlib.Core.Logic.{⊎_elim}
use Prim.Native.Nat.{ℕ, ◌+◌, ◌<◌}
use native.Mathlib.Omega.{arith}
use lib.ListN.{length, length-append}
use Rattle.laws.specs.Links.{times}
use Rattle.laws.specs.Members.{Mem, NoDup}
use Rattle.laws.proofs.ChainLaws.{chain_nodup, chain_previous}
use Rattle.laws.proofs.MemberLaws.{all_mem, times_once, times_mem}
use Rattle.tables.specs.declared.ClassHeap.{ClassHeap}
use Rattle.tables.specs.Cells.{Tables, occupied_at, previous_at, next_at, head_at, partial_list, full_list, empty_list, reserve}
use Rattle.linked_list.specs.Lists.{list_of}
use Rattle.sound.specs.Sound.{places_in, Belongs, ListSound}
use Rattle.sound_lists.specs.Walked.{ClassLists, spans_in}
use Rattle.sound_check.specs.Joined.{class_list}
use Rattle.sound_check.proofs.AppendLaws.{mem_split, nodup_append, times_append}

-- Each list counted.
pub class_length : (t : Tables) (k : ClassHeap) → length (class_list t k) ≡ spans_in t k
class_length t k =
    omega (
      arith,
      length-append (list_of t k partial_list) (list_of t k full_list ++ (list_of t k empty_list ++ list_of t k reserve)),
      length-append (list_of t k full_list) (list_of t k empty_list ++ list_of t k reserve),
      length-append (list_of t k empty_list) (list_of t k reserve),
    )

-- A span stands in the joined list as often as in the four.
pub class_times : (t : Tables) (k : ClassHeap) (s : ℕ) → times s (class_list t k) ≡ places_in t k s
class_times t k s =
    omega (
      arith,
      times_append s (list_of t k partial_list) (list_of t k full_list ++ (list_of t k empty_list ++ list_of t k reserve)),
      times_append s (list_of t k full_list) (list_of t k empty_list ++ list_of t k reserve),
      times_append s (list_of t k empty_list) (list_of t k reserve),
    )

module _ (t : Tables) (k : ClassHeap) where
  -- What a list's name says of a member, and that the member is the class's own.
  named : {f : ℕ} {P : ℕ → Type 0} → ListSound t k f P → (s : ℕ) → Mem s (list_of t k f) → P (occupied_at t s)
  named {f} {P} l s m = all_mem (λ x. P (occupied_at t x)) (list_of t k f) l.named s m

  own : {f : ℕ} {P : ℕ → Type 0} → ListSound t k f P → (s : ℕ) → Mem s (list_of t k f) → Belongs t k s
  own {f} l s m = all_mem (Belongs t k) (list_of t k f) l.own s m

  once : {f : ℕ} {P : ℕ → Type 0} → ListSound t k f P → NoDup (list_of t k f)
  once {f} l = chain_nodup (previous_at t) (next_at t) (list_of t k f) (head_at t k f) l.linked

  module _ (o : ClassLists t k) where
    -- A span of the reserve is what its head names.
    reserve_first : (s : ℕ) → Mem s (list_of t k reserve) → (head_at t k reserve ≡ s + 1) × (previous_at t s ≡ 0)
    reserve_first s m =
        ⊎_elim
        (λ j. (j.here, j.back))
        (λ r. absurd (let z : ⊥ = omega (arith, r.3, all_mem (λ x. next_at t x ≡ 0) (list_of t k reserve) o.alone r.0 r.1) in z))
        (chain_previous (previous_at t) (next_at t) (list_of t k reserve) 0 (head_at t k reserve) s o.kept.linked m)

    -- It does not stand on the empty list.
    not_both : (s : ℕ) → Mem s (list_of t k empty_list) → Mem s (list_of t k reserve) → ⊥
    not_both s m n =
        let f = reserve_first s n in
        ⊎_elim
        (λ j. let z : ⊥ = omega (arith, f.0, o.apart (j.here ∙ sym f.0)) in z)
        (λ r. let z : ⊥ = omega (arith, f.1, r.2) in z)
        (chain_previous (previous_at t) (next_at t) (list_of t k empty_list) 0 (head_at t k empty_list) s o.empty.linked m)

    -- Every span of the four lists is of that class and heap.
    pub class_own : (s : ℕ) → Mem s (class_list t k) → Belongs t k s
    class_own s m =
        ⊎_elim (own o.partial s)
        (λ m₁.
        ⊎_elim (own o.full s)
        (λ m₂. ⊎_elim (own o.empty s) (own o.kept s) (mem_split s (list_of t k empty_list) (list_of t k reserve) m₂))
        (mem_split s (list_of t k full_list) (list_of t k empty_list ++ list_of t k reserve) m₁))
        (mem_split s (list_of t k partial_list) (list_of t k full_list ++ (list_of t k empty_list ++ list_of t k reserve)) m)

    -- A span of the empty list or the reserve is empty.
    low_empty : (s : ℕ) → Mem s (list_of t k empty_list ++ list_of t k reserve) → occupied_at t s ≡ 0
    low_empty s m = ⊎_elim (named o.empty s) (named o.kept s) (mem_split s (list_of t k empty_list) (list_of t k reserve) m)

    module _ (slots : 0 < k.slots) where
      -- None stands there twice.
      pub class_once : NoDup (class_list t k)
      class_once =
          nodup_append (list_of t k partial_list) (list_of t k full_list ++ (list_of t k empty_list ++ list_of t k reserve)) (once o.partial)
          (nodup_append (list_of t k full_list) (list_of t k empty_list ++ list_of t k reserve) (once o.full)
          (nodup_append (list_of t k empty_list) (list_of t k reserve) (once o.empty) (once o.kept) not_both)
          (λ s m n. let z : ⊥ = omega (arith, slots, named o.full s m, low_empty s n) in z))
          (λ s m n.
          let p = named o.partial s m in
          ⊎_elim
          (λ a. let z : ⊥ = omega (arith, p.1, named o.full s a) in z)
          (λ a. let z : ⊥ = omega (arith, p.0, low_empty s a) in z)
          (mem_split s (list_of t k full_list) (list_of t k empty_list ++ list_of t k reserve) n))

      -- So each stands there once.
      pub class_places : (s : ℕ) → Mem s (class_list t k) → places_in t k s ≡ 1
      class_places s m = sym (class_times t k s) ∙ times_once s (class_list t k) class_once m

-- A span that stands once in the four lists stands in the joined one.
pub placed_mem : (t : Tables) (k : ClassHeap) (s : ℕ) → places_in t k s ≡ 1 → Mem s (class_list t k)
placed_mem t k s e = times_mem s (class_list t k) (omega (arith, class_times t k s))

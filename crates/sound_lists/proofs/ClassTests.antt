-- The lists of one class by what their names say of counts, and a reserve's one span. Assumes nothing.
use mathlib.Core.Path.{◌≡◌}
use mathlib.Core.List.{List, [], ◌∷◌}
use Prim.Native.Nat.{ℕ, ◌+◌, ◌<◌, ◌≤◌}
use native.Mathlib.Omega.{arith}
use lib.ListN.{length}
use Rattle.laws.specs.Links.{All, Chain}
use Rattle.laws.proofs.MemberLaws.{all_mem, mem_all}
use Rattle.tables.specs.declared.ClassHeap.{ClassHeap}
use Rattle.tables.specs.Cells.{Tables, occupied_at, head_at, empty_list, reserve, partial_list, full_list, next_at, previous_at}
use Rattle.linked_list.specs.Lists.{list_of}
use Rattle.sound.specs.Sound.{ListSound, Partial, Full, Empty}
use Rattle.sound_lists.specs.Walked.{Between, ClassLists, spans_in}

module _ (t : Tables) (k : ClassHeap) where
  -- A list under a name that says the same.
  pub list_as : {f : ℕ} {P Q : ℕ → Type 0} → ((n : ℕ) → P n → Q n) → ListSound t k f P → ListSound t k f Q
  list_as {f} {P} {Q} g l =
      record {
        linked = l.linked;
        own = l.own;
        named =
            mem_all (λ s. Q (occupied_at t s)) (list_of t k f)
            (λ s m. g (occupied_at t s) (all_mem (λ s. P (occupied_at t s)) (list_of t k f) l.named s m));
      }

  -- The bounds of a full and of an empty span's count.
  pub full_of : (n : ℕ) → Between k.slots (k.slots + 1) n → Full k n
  full_of n b = omega (arith, b.0, b.1)

  pub of_full : (n : ℕ) → Full k n → Between k.slots (k.slots + 1) n
  of_full n e = (omega arith, omega arith)

  pub empty_of : (n : ℕ) → Between 0 1 n → Empty n
  empty_of n b = omega (arith, b.1)

  pub of_empty : (n : ℕ) → Empty n → Between 0 1 n
  of_empty n e = (omega arith, omega arith)

-- A list whose spans have none after them has one at most, and back.
pub alone_few : (previous next : ℕ → ℕ) (l : List ℕ) (p x : ℕ) → Chain previous next p x l → All (λ s. next s ≡ 0) l → length l ≤ 1
alone_few previous next [] p x c a = omega arith
alone_few previous next (s ∷ []) p x c a = omega arith
alone_few previous next (s ∷ (y ∷ l)) p x c a = absurd (let z : ⊥ = omega (arith, a.0, c.1.0.here) in z)

pub few_alone : (previous next : ℕ → ℕ) (l : List ℕ) (p x : ℕ) → Chain previous next p x l → length l ≤ 1 → All (λ s. next s ≡ 0) l
few_alone previous next [] p x c h = tt
few_alone previous next (s ∷ []) p x c h = (c.1, tt)
few_alone previous next (s ∷ (y ∷ l)) p x c h = absurd (let z : ⊥ = omega arith in z)

-- ---- the four answers of a class
module _ (t : Tables) (k : ClassHeap) where
  -- All are right.
  pub class_right :
      {partial full empty kept : ℕ} → ListSound t k partial_list (Between 1 k.slots) × (partial ≡ length (list_of t k partial_list)) →
      ListSound t k full_list (Between k.slots (k.slots + 1)) × (full ≡ length (list_of t k full_list)) →
      ListSound t k empty_list (Between 0 1) × (empty ≡ length (list_of t k empty_list)) →
      ListSound t k reserve (Between 0 1) × (kept ≡ length (list_of t k reserve)) → kept ≤ 1 →
      (head_at t k empty_list ≡ head_at t k reserve → head_at t k reserve ≡ 0) →
      ClassLists t k × (partial + full + empty + kept ≡ spans_in t k)
  class_right s a n o one apart = (
    record {
      partial = list_as t k {P = Between 1 k.slots} {Q = Partial k} (λ m b. b) s.0;
      full = list_as t k (full_of t k) a.0;
      empty = list_as t k (empty_of t k) n.0;
      kept = list_as t k (empty_of t k) o.0;
      alone = few_alone (previous_at t) (next_at t) (list_of t k reserve) 0 (head_at t k reserve) o.0.linked (omega (arith, o.1));
      apart = apart;
    },
    omega (arith, s.1, a.1, n.1, o.1),
  )

  -- One is not.
  pub full_fault : (ListSound t k full_list (Between k.slots (k.slots + 1)) → ⊥) → ClassLists t k → ⊥
  full_fault n w = n (list_as t k (of_full t k) w.full)

  pub empty_fault : (ListSound t k empty_list (Between 0 1) → ⊥) → ClassLists t k → ⊥
  empty_fault n w = n (list_as t k (of_empty t k) w.empty)

  pub kept_fault : (ListSound t k reserve (Between 0 1) → ⊥) → ClassLists t k → ⊥
  kept_fault n w = n (list_as t k (of_empty t k) w.kept)

  pub more_fault : {n : ℕ} → n ≡ length (list_of t k reserve) → 1 < n → ClassLists t k → ⊥
  more_fault e h w =
      let z : ⊥ =
      omega (arith, e, alone_few (previous_at t) (next_at t) (list_of t k reserve) 0 (head_at t k reserve) w.kept.linked w.alone) in z

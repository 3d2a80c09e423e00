-- The call that a record of each kind is, by the tests of its mark, its kind and its last number. Assumes nothing.
use mathlib.Core.Path.{◌≡◌, sym, ap, ◌∙◌}
use mathlib.Core.Bool.{true, false}
use mathlib.Core.List.{List}
use Prim.Native.Nat.{ℕ, ◌+◌, ◌*◌}
use native.Mathlib.Omega.{arith}
use borrow.Author.Tests.{eq-eqb, ne_eqb}
use lib.ListN.{get_or}
use Rattle.calls.specs.Calls.{words_needed}
use Rattle.calls.specs.Run.{allocation, release, malformed}
use Rattle.calls.specs.Batch.{little_endian, number_at, marked, words_from, record_call}

module _ (bytes : List ℕ) (at : ℕ) where
  pub unmarked_record : marked bytes at ≡ false → malformed ≡ record_call bytes at
  unfolding record_call
  unmarked_record m = rw m

  module _ (kind heap first second third : ℕ) (m : marked bytes at ≡ true) (k : kind ≡ get_or bytes (at + 2) 0) (h : heap ≡ get_or bytes (at + 3) 0) (f : first ≡ little_endian 8 bytes (at + 4)) (s : second ≡ little_endian 8 bytes (at + 12)) (t : third ≡ little_endian 8 bytes (at + 20)) where
    first_here : number_at bytes at 0 ≡ first
    first_here = let e : at + 4 + 8 * 0 ≡ at + 4 = omega arith in ap (little_endian 8 bytes) e ∙ sym f

    second_here : number_at bytes at 1 ≡ second
    second_here = let e : at + 4 + 8 * 1 ≡ at + 12 = omega arith in ap (little_endian 8 bytes) e ∙ sym s

    third_here : number_at bytes at 2 ≡ third
    third_here = let e : at + 4 + 8 * 2 ≡ at + 20 = omega arith in ap (little_endian 8 bytes) e ∙ sym t

    pub allocation_record : kind ≡ 1 → allocation heap first second (words_from words_needed third) ≡ record_call bytes at
    unfolding record_call
    allocation_record z = rw (m, ← k, eq-eqb kind 1 z, first_here, second_here, third_here, ← h)

    pub release_record : (kind ≡ 1 → ⊥) → kind ≡ 2 → third ≡ 0 → release heap first second ≡ record_call bytes at
    unfolding record_call
    release_record n z w = rw (m, ← k, ne_eqb kind 1 n, eq-eqb kind 2 z, third_here, eq-eqb third 0 w, first_here, second_here, ← h)

    pub other_record : (kind ≡ 1 → ⊥) → (kind ≡ 2 → ⊥) → malformed ≡ record_call bytes at
    unfolding record_call
    other_record n z = rw (m, ← k, ne_eqb kind 1 n, ne_eqb kind 2 z)

    pub unfree_record : (kind ≡ 1 → ⊥) → kind ≡ 2 → (third ≡ 0 → ⊥) → malformed ≡ record_call bytes at
    unfolding record_call
    unfree_record n z w = rw (m, ← k, ne_eqb kind 1 n, eq-eqb kind 2 z, third_here, ne_eqb third 0 w)

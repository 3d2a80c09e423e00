-- Why the search by bucket and then by alignment finds the smallest fitting class, for every admissible list. Assumes nothing.
use Rattle.std.specs.Prelude.{Some}
use mathlib.Core.Bool.{Bool, true, false}
use mathlib.Core.List.{List}
use mathlib.Core.Path.{◌≡◌, sym, ap, ◌∙◌}
use Prim.Native.Nat.{ℕ, ◌+◌, ◌-◌, ◌*◌, ◌%◌, ◌≤◌, ◌<◌, max}
use native.Mathlib.Decide.{dec_lt}
use native.Mathlib.Omega.{arith}
use lib.Dec.{eqb}
use lib.ListN.{length, get_or}
use borrow.Author.Tests.{eqb-true, eqb-false, eq-eqb}
use Rattle.laws.specs.First.{first}
use Rattle.laws.proofs.FirstLaws.{first_is, first_holds, first_le, first_before, first_from}
use Rattle.size_classes.specs.SlotSizes.{slot_size, last_size, least_alignment, largest_slot, Admissible}
use Rattle.size_classes.specs.Class.{raised, fits, class_of, lookup_entry, lookup_entries}
use Rattle.size_classes.proofs.SlotSizeLaws.{size_le, size_least}
use Rattle.size_classes.proofs.RaisedLaws.{raised_pos, raised_least, raised_last, small_aligned, last_aligned}
use Rattle.size_classes.proofs.ClassLaws.{fits_is, no_fit_size, no_fit_align, no_fit_small, in_range_lem, smallest_is}
use Rattle.class_lookup.specs.Lookup.{ClassTables}
use Rattle.class_lookup.proofs.LookupLaws.{lookup_at, EntryRule, entry_rule}
use Rattle.class_choice.specs.Search.{bucket_of, aligned_from, Search}

-- A bucket of a size that some list has is an entry of the table.
pub bucket_entry : (s : ℕ) → s ≤ largest_slot → bucket_of s < lookup_entries
unfolding bucket_of least_alignment largest_slot lookup_entries
bucket_entry s h = omega arith

-- A size is not above the top of its bucket.
bucket_holds : (s : ℕ) → s ≤ bucket_of s * least_alignment + least_alignment
unfolding bucket_of least_alignment
bucket_holds s = omega arith

-- The top of a bucket is not above a multiple of the least alignment that is not below the size.
bucket_top :
    (s m : ℕ) → s ≤ m → least_alignment ≤ m → m % least_alignment ≡ 0 → bucket_of s * least_alignment + least_alignment ≤ m
unfolding bucket_of least_alignment
bucket_top s m h l e = omega arith

-- A multiple of the least alignment that is below the top of a size's bucket is below the size.
bucket_below :
    (s m : ℕ) → m < bucket_of s * least_alignment + least_alignment → least_alignment ≤ m → m % least_alignment ≡ 0 → m < s
unfolding bucket_of least_alignment
bucket_below s m h l e = omega arith

-- An alignment not above the least one does not change the bucket.
bucket_small : (s a : ℕ) → a ≤ least_alignment → bucket_of (max s a) ≡ bucket_of s
unfolding bucket_of least_alignment
bucket_small s a h = omega arith

-- class k is where a search may start: its slot holds the size, and no class before it fits
pub record Start (sizes : List ℕ) (s a k : ℕ) : Type 0 where
  pub class : k < length sizes
  pub holds : s ≤ slot_size sizes k
  pub before : (j : ℕ) → j < k → fits sizes s a j ≡ false

module _ (sizes : List ℕ) (ok : Admissible sizes) (s : ℕ) (hs : s ≤ last_size sizes) where
  -- The lookup table's class for the larger of size and alignment is where a search may start.
  start_of : (a : ℕ) → a ≤ last_size sizes → Start sizes s a (lookup_entry sizes (bucket_of (max s a)))
  start_of a ha =
      let e = max s a in
      let n = length sizes - 1 in
      let l : n < length sizes = omega (arith, ok.some) in
      let top = bucket_top e (last_size sizes) (omega arith) (size_least sizes ok n l) (ok.multiple n l) in
      let r : EntryRule sizes (bucket_of e) (lookup_entry sizes (bucket_of e)) = entry_rule sizes ok (bucket_of e) top in
      record {
        class = r.class;
        holds = omega (arith, r.holds, bucket_holds e);
        before =
            λ j h.
            let c : j < length sizes = omega (arith, r.class) in
            let b : slot_size sizes j < e = bucket_below e (slot_size sizes j) (r.before j h) (size_least sizes ok j c) (ok.multiple j c) in
            elim (dec_lt (slot_size sizes j) s) [
              | yes y ↦ no_fit_size sizes s a j y
              | no y ↦ no_fit_small sizes s a j (ok.positive j c) (omega arith)
            ];
      }

  module _ (alignment : ℕ) (ha : raised alignment ≤ last_size sizes) where
    -- A class where a search may start, and whose slot is aligned, is the answer.
    found :
        (k : ℕ) → Start sizes s (raised alignment) k → slot_size sizes k % raised alignment ≡ 0 → Some k ≡ class_of sizes s alignment
    found k t m =
        let e = smallest_is sizes s alignment k (omega (arith, t.class)) (fits_is sizes s (raised alignment) k t.holds m) t.before in
        sym (in_range_lem sizes s alignment hs ha ∙ ap Some e)

    -- A class at or after the start of a search, with no aligned slot between them, is where a search may start.
    start_later :
        (k m : ℕ) →
        Start sizes s (raised alignment) k →
        k ≤ m →
        m < length sizes →
        ((j : ℕ) → k ≤ j → j < m → eqb (slot_size sizes j % raised alignment) 0 ≡ false) →
        Start sizes s (raised alignment) m
    start_later k m t h l u =
        record {
          class = l;
          holds = omega (arith, t.holds, size_le sizes ok k m h l);
          before =
              λ j i.
              elim (dec_lt j k) [
                | yes y ↦ t.before j y
                | no y ↦ no_fit_align sizes s (raised alignment) j (eqb-false _ _ (u j (omega arith) i))
              ];
        }

    -- A search by alignment from such a class gives the answer.
    searched : (k : ℕ) → Start sizes s (raised alignment) k → Some (aligned_from sizes (raised alignment) k) ≡ class_of sizes s alignment
    unfolding aligned_from
    searched k t =
        let f : ℕ → Bool = λ j. eqb (slot_size sizes j % raised alignment) 0 in
        let n = length sizes in
        let e : f (n - 1) ≡ true = eq-eqb (last_size sizes % raised alignment) 0 (last_aligned sizes ok alignment ha) in
        let h : k ≤ n - 1 = omega (arith, t.class) in
        let m = first f n k in
        let l : m ≤ n - 1 = first_le f n k (n - 1) h e in
        let p : f m ≡ true = first_holds f n k (n - 1) h (omega arith) e in
        found m (start_later k m t (first_from f n k) (omega (arith, ok.some)) (first_before f n k)) (eqb-true _ _ p)

module _ (sizes lookup : List ℕ) (t : ClassTables sizes lookup) (s : ℕ) (hs : s ≤ last_size sizes) where
  -- The lent table's entry for a size in range is what the rule gives.
  entry_is : (e : ℕ) → e ≤ last_size sizes → get_or lookup (bucket_of e) 0 ≡ lookup_entry sizes (bucket_of e)
  entry_is e h = rw t.right (lookup_at sizes (bucket_of e) (bucket_entry e (omega (arith, t.admissible.largest))))

  -- For an alignment not above the least one, the entry for the size is the answer.
  pub small_answer : (alignment : ℕ) → alignment ≤ least_alignment → Some (get_or lookup (bucket_of s) 0) ≡ class_of sizes s alignment
  small_answer alignment h =
      let ok = t.admissible in
      let n = length sizes - 1 in
      let small : raised alignment ≤ least_alignment = raised_least alignment h in
      let ha : raised alignment ≤ last_size sizes = omega (arith, size_least sizes ok n (omega (arith, ok.some))) in
      let p : Start sizes s (raised alignment) (lookup_entry sizes (bucket_of s))
      = rw (bucket_small s (raised alignment) small) at (start_of sizes ok s hs (raised alignment) ha) in
      rw (entry_is s hs) (found sizes ok s hs alignment ha _ p (small_aligned sizes ok alignment small _ p.class))

  module _ (alignment : ℕ) (h : alignment ≤ last_size sizes) where
    -- The entry for the larger of size and raised alignment is where a search may start.
    start_entry : Start sizes s (raised alignment) (get_or lookup (bucket_of (max s (raised alignment))) 0)
    start_entry =
        let ha = raised_last sizes t.admissible alignment h in
        rw (entry_is (max s (raised alignment)) (omega arith)) (start_of sizes t.admissible s hs (raised alignment) ha)

    -- A search by alignment from that entry ends inside the list.
    pub search_entry : Search sizes (raised alignment) (get_or lookup (bucket_of (max s (raised alignment))) 0)
    search_entry =
        record {
          class = start_entry.class;
          positive = raised_pos alignment;
          last = last_aligned sizes t.admissible alignment (raised_last sizes t.admissible alignment h);
        }

    -- What it finds is the answer.
    pub large_answer :
        Some (aligned_from sizes (raised alignment) (get_or lookup (bucket_of (max s (raised alignment))) 0)) ≡ class_of sizes s alignment
    large_answer =
        searched sizes t.admissible s hs alignment (raised_last sizes t.admissible alignment h) _ start_entry

-- The first aligned class from `start` on, where no class before it is aligned.
pub found_at :
    (sizes : List ℕ) (a start k : ℕ) →
    start ≤ k →
    k < length sizes →
    slot_size sizes k % a ≡ 0 →
    ((j : ℕ) → start ≤ j → j < k → eqb (slot_size sizes j % a) 0 ≡ false) →
    aligned_from sizes a start ≡ k
unfolding aligned_from
found_at sizes a start k from l m passed =
    first_is (λ j. eqb (slot_size sizes j % a) 0) (length sizes) start k from (omega arith) (eq-eqb (slot_size sizes k % a) 0 m) passed

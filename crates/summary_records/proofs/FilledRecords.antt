-- Laws of the records as they are filled from flat numbers. Assumes nothing.
use mathlib.Core.Path.{◌≡◌, refl, sym, ap, subst, ◌∙◌}
use mathlib.Core.List.{List}
use Prim.Native.Nat.{ℕ, zero, suc, ◌+◌, ◌<◌, ◌≤◌}
use native.Mathlib.Nat.{add-zero, zero-add}
use native.Mathlib.Decide.{ℕ_discrete}
use native.Mathlib.Omega.{arith}
use lib.ListN.{length, get_or, set, length-set}
use lib.Seq.{ext_get_or, get_or-set_same, get_or-set_other}
use Rattle.summary_records.specs.declared.ClassRecord.{ClassRecord}
use Rattle.summary_records.specs.Structured.{record_at, records_from, filled}

-- As many as there were.
filled_length : (flat : List ℕ) (out : List ClassRecord) (n : ℕ) → length (filled flat out n) ≡ length out
filled_length flat out zero = refl
filled_length flat out (suc n) = length-set (filled flat out n) n (record_at flat n) ∙ filled_length flat out n

-- A written record holds its five numbers.
filled_at :
    (flat : List ℕ) (out : List ClassRecord) (d : ClassRecord) (n i : ℕ) → n ≤ length out → i < n → get_or (filled flat out n) i d ≡ record_at flat i
filled_at flat out d zero i l h = absurd (let z : ⊥ = omega arith in z)
filled_at flat out d (suc n) i l h =
    elim (ℕ_discrete i n) [
      | yes e ↦
          ap (λ (z : ℕ). get_or (set (filled flat out n) n (record_at flat n)) z d) e
          ∙ get_or-set_same (filled flat out n) n (record_at flat n) d (subst (λ (z : ℕ). n < z) (sym (filled_length flat out n)) (omega arith))
          ∙ ap (record_at flat) (sym e)
      | no ne ↦
          get_or-set_other (filled flat out n) n i (record_at flat n) d ne ∙ filled_at flat out d n i (omega arith) (omega arith)
    ]

-- The records of the definition, one by one.
from_length : (n c : ℕ) (flat : List ℕ) → length (records_from n c flat) ≡ n
unfolding records_from
from_length zero c flat = refl
from_length (suc n) c flat = ap suc (from_length n (c + 1) flat)

from_at : (n c i : ℕ) (flat : List ℕ) (d : ClassRecord) → i < n → get_or (records_from n c flat) i d ≡ record_at flat (c + i)
unfolding records_from
from_at zero c i flat d h = absurd (let z : ⊥ = omega arith in z)
from_at (suc n) c zero flat d h = ap (record_at flat) (sym (add-zero c))
from_at (suc n) c (suc i) flat d h =
    let e : c + 1 + i ≡ c + suc i = omega arith in
    from_at n (c + 1) i flat d (omega arith) ∙ ap (record_at flat) e

-- what stands past the end of a list of records, which nothing asks
abbrev pub blank : ClassRecord
blank = record { spans = 0; slots = 0; used = 0; cached = 0; pending = 0 }

-- All written.
pub filled_all : (flat : List ℕ) (out : List ClassRecord) → filled flat out (length out) ≡ records_from (length out) 0 flat
filled_all flat out =
    ext_get_or blank (filled flat out (length out)) (records_from (length out) 0 flat) (filled_length flat out (length out) ∙ sym (from_length (length out) 0 flat))
    (λ i h.
    let l : i < length out = subst (λ (z : ℕ). i < z) (filled_length flat out (length out)) h in
    filled_at flat out blank (length out) i (omega arith) l
    ∙ ap (record_at flat) (sym (zero-add i))
    ∙ sym (from_at (length out) 0 i flat blank l))

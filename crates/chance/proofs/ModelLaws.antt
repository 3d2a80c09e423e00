-- Arithmetic of the model of counts: what a refill's end says is what the model says. No table in sight. Assumes nothing.
use mathlib.Core.Path.{◌≡◌, refl, ap, ◌∙◌}
use mathlib.Core.Logic.{◌⊎◌, ⊎_elim}
use Prim.Native.Nat.{ℕ, ◌+◌, ◌*◌, ◌<◌, ◌≤◌}
use native.Mathlib.Omega.{arith}
use lib.Dec.{leb, ltb}
use borrow.Author.Tests.{leb-true, leb-false, ltb-true, ltb-false}
use Rattle.laws.proofs.CondLaws.{cond_both}
use Rattle.tables.specs.declared.ClassHeap.{ClassHeap}
use Rattle.chance.specs.Counts.{Row, row, spare, Stock, stock, refill_count, refill_first_count}

-- Rows, and stocks, of equal numbers are equal.
pub same_row : (x : Row) (cached out spans : ℕ) → x.cached ≡ cached → x.out ≡ out → x.spans ≡ spans → x ≡ row cached out spans
same_row x cached out spans a b c = λ i. row (a i) (b i) (c i)

same_stock :
    (x : Row) (u cached out spans used : ℕ) → x.cached ≡ cached → x.out ≡ out → x.spans ≡ spans → u ≡ used →
    stock x u ≡ stock (row cached out spans) used
same_stock x u cached out spans used a b c d = λ i. stock (row (a i) (b i) (c i)) (d i)

-- what is cached or out stands in the spans, and fits in the magazine
pub record Held (k : ClassHeap) (r : Row) : Type 0 where
  pub within : r.cached + r.out ≤ r.spans * k.slots
  pub fits : r.cached ≤ k.capacity

-- nothing is spare, and no span is unused
pub record Ended (limit : ℕ) (k : ClassHeap) (r : Row) (used : ℕ) : Type 0 where
  pub all : r.cached + r.out ≡ r.spans * k.slots
  pub unused : limit ≤ used

-- one span was made, as one was unused and what was spare would not fill the magazine
pub record Grown (limit : ℕ) (k : ClassHeap) (r : Row) (u : ℕ) (r' : Row) (u' : ℕ) : Type 0 where
  pub used : u' ≡ u + 1
  pub spans : r'.spans ≡ r.spans + 1
  pub unused : u < limit
  pub short : r.spans * k.slots < k.capacity + r.out

-- no span was made
pub record Kept (r : Row) (u : ℕ) (r' : Row) (u' : ℕ) : Type 0 where
  pub used : u' ≡ u
  pub spans : r'.spans ≡ r.spans

module _ (limit : ℕ) (k : ClassHeap) (r r' : Row) (used used' : ℕ) (small : k.capacity ≤ k.slots) (before : Held k r) (now : Held k r') (out : r'.out ≡ r.out) where
  abbrev S : ℕ
  S = r.spans * k.slots

  kept_count : Kept r used r' used' → (k.capacity ≤ r'.cached) ⊎ Ended limit k r' used' → stock r' used' ≡ refill_count limit k r used
  unfolding refill_count
  kept_count z end =
      let s : r'.spans * k.slots ≡ S = ap (λ (n : ℕ). n * k.slots) z.spans in
      cond_both (λ (x : Stock). stock r' used' ≡ x) (leb k.capacity (r.cached + spare k r)) _ _
      (λ e.
      let l = leb-true k.capacity (r.cached + spare k r) e in
      same_stock r' used' _ _ _ _
      (⊎_elim (λ f. omega (arith, f, now.fits)) (λ d. omega (arith, l, d.all, s, out, before.within, now.fits)) end) out z.spans z.used)
      (λ e.
      let l = leb-false k.capacity (r.cached + spare k r) e in
      ⊎_elim
      (λ f. absurd (let w : ⊥ = omega (arith, f, l, now.within, s, out, before.within) in w))
      (λ d.
      cond_both (λ (x : Stock). stock r' used' ≡ x) (ltb used limit) _ _
      (λ a. absurd (let w : ⊥ = omega (arith, ltb-true used limit a, d.unused, z.used) in w))
      (λ a. same_stock r' used' _ _ _ _ (omega (arith, d.all, s, out, before.within)) out z.spans z.used))
      end)

  grown_count : Grown limit k r used r' used' → (k.capacity ≤ r'.cached) ⊎ Ended limit k r' used' → stock r' used' ≡ refill_count limit k r used
  unfolding refill_count
  grown_count z end =
      let s : r'.spans * k.slots ≡ S + k.slots = ap (λ (n : ℕ). n * k.slots) z.spans ∙ omega arith in
      cond_both (λ (x : Stock). stock r' used' ≡ x) (leb k.capacity (r.cached + spare k r)) _ _
      (λ e. absurd (let w : ⊥ = omega (arith, leb-true k.capacity (r.cached + spare k r) e, z.short, before.within) in w))
      (λ e.
      cond_both (λ (x : Stock). stock r' used' ≡ x) (ltb used limit) _ _
      (λ a.
      same_stock r' used' _ _ _ _
      (⊎_elim (λ f. omega (arith, f, now.fits)) (λ d. omega (arith, d.all, s, out, before.within, now.fits, small)) end) out z.spans z.used)
      (λ a. absurd (let w : ⊥ = omega (arith, ltb-false used limit a, z.unused) in w)))

  -- A refill that ends with a full magazine, or with nothing spare and no span unused, and made a span only where it had to, is the model's.
  pub refill_is_count :
      Kept r used r' used' ⊎ Grown limit k r used r' used' → (k.capacity ≤ r'.cached) ⊎ Ended limit k r' used' →
      stock r' used' ≡ refill_count limit k r used
  refill_is_count grew end = ⊎_elim (λ z. kept_count z end) (λ z. grown_count z end) grew

-- Where nothing is cached after the model's refill, the row and the spans used are as they were.
pub none_cached :
    (limit : ℕ) (k : ClassHeap) (r : Row) (used : ℕ) → 0 < k.capacity → (refill_first_count limit k r used).row.cached ≡ 0 →
    refill_first_count limit k r used ≡ stock r used
unfolding refill_first_count refill_count
none_cached limit k r used some =
    let P : Stock → Type 0 = λ x. x.row.cached ≡ 0 → x ≡ stock r used in
    cond_both P (leb r.cached k.low) _ _
    (λ e.
    cond_both P (leb k.capacity (r.cached + spare k r)) _ _ (λ a z. absurd (let w : ⊥ = omega (arith, z, some) in w))
    (λ a.
    cond_both P (ltb used limit) _ _ (λ b z. absurd (let w : ⊥ = omega (arith, z, some) in w))
    (λ b z. let n : r.cached + spare k r ≡ r.cached = omega (arith, z) in λ i. stock (row (n i) r.out r.spans) used)))
    (λ e z. refl)

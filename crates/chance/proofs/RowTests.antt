-- The numbers of blocks out and of spans, of each class and heap, after a step: where the same blocks are out, where one comes out, where one goes back.
-- Assumes nothing.
use mathlib.Core.Path.{◌≡◌, sym, ap, ap₂, subst, ◌∙◌}
use mathlib.Core.Bool.{Bool, true, ◌&&◌}
use Prim.Native.Nat.{ℕ, ◌+◌, ◌<◌, ◌≤◌}
use native.Mathlib.Nat.{lt_of_lt_of_le}
use native.Mathlib.Omega.{arith}
use lib.Dec.{eqb}
use borrow.Author.Tests.{eqb-true, eq-eqb}
use Rattle.laws.proofs.SomeLaws.{and_both}
use Rattle.laws.proofs.TestLaws.{tests_agree, test_fails, and_so}
use Rattle.tables.specs.declared.ClassHeap.{ClassHeap}
use Rattle.tables.specs.Shape.{Shape, class_heap}
use Rattle.tables.specs.Cells.{Tables, class_at, owner_at}
use Rattle.span.specs.State.{state_of, out_state, is_out}
use Rattle.sound.specs.Sound.{Belongs}
use Rattle.filled_magazines.proofs.FilledFacts.{belongs_home, home_class, home_owner}
use Rattle.outs.specs.Outs.{IsOut, SameSpans, SameOuts, ComesOut, GoesBack}
use Rattle.sound_calls.proofs.FreeTests.{out_state_lem}
use Rattle.laws.specs.Pairs.{passing, pairs}
use Rattle.chance.specs.Chance.{is_of, row_in}
use Rattle.laws.proofs.PairsLaws.{one, passing_same, passing_next, passing_longer, pairs_same, pairs_more, pairs_longer}

-- ---- spans of a class and heap

module _ {t : Tables} {k : ClassHeap} {s : ℕ} where
  -- A span of it passes the test,
  pub belongs_passes : Belongs t k s → is_of t k s ≡ true
  belongs_passes b = and_so _ _ (eq-eqb (class_at t s) k.class b.class) (eq-eqb (owner_at t s) k.owner b.owner)

  -- and a used span that passes is of it.
  pub passes_belongs : s < t.used → is_of t k s ≡ true → Belongs t k s
  passes_belongs l e =
      let x = and_both (eqb (class_at t s) k.class) (eqb (owner_at t s) k.owner) e in
      record { used = l; class = eqb-true (class_at t s) k.class x.0; owner = eqb-true (owner_at t s) k.owner x.1 }

-- A used span is of one class and heap only.
pub belongs_once :
    (g : Shape) (t : Tables) (h c x y s : ℕ) → Belongs t (class_heap g h c) s → Belongs t (class_heap g x y) s → (x ≡ h) × (y ≡ c)
belongs_once g t h c x y s a b =
    (sym (home_owner g x y) ∙ sym b.owner ∙ a.owner ∙ home_owner g h c, sym (home_class g x y) ∙ sym b.class ∙ a.class ∙ home_class g h c)

-- ---- blocks of it that are out

module _ (g : Shape) (h c : ℕ) where
  abbrev k : ClassHeap
  k = class_heap g h c

  -- the test that is counted
  abbrev pub out_test : Tables → ℕ → ℕ → Bool
  out_test t s q = is_of t k s && is_out g t s q

  module _ {t : Tables} (s q : ℕ) where
    -- It passes at a block that is out,
    pub out_passes : Belongs t k s → IsOut g t s q → out_test t s q ≡ true
    out_passes b o = and_so _ _ (belongs_passes b) (ap out_state o.out)

    -- a used span of a block where it passes is of the class and heap,
    pub passes_of : s < t.used → out_test t s q ≡ true → Belongs t k s
    passes_of l e = passes_belongs l (and_both (is_of t k s) (is_out g t s q) e).0

    -- and the block is out.
    pub passes_out : s < t.used → q < k.slots → out_test t s q ≡ true → IsOut g t s q
    passes_out l m e =
        let b = passes_of l e in
        record {
          used = l;
          slot = subst (λ (x : ClassHeap). q < x.slots) (sym (belongs_home g t h c s b)) m;
          out = out_state_lem (state_of g t s q) (and_both (is_of t k s) (is_out g t s q) e).1;
        }

  module _ {t u : Tables} (a : SameSpans t u) where
    -- A span is of the class and heap that it was of.
    pub still_of : (s : ℕ) → s < t.used → is_of u k s ≡ is_of t k s
    still_of s l = ap₂ (λ (x y : ℕ). eqb x k.class && eqb y k.owner) (a.class s l) (a.owner s l)

    was_of : {s : ℕ} → s < t.used → Belongs u k s → Belongs t k s
    was_of {s} l b = record { used = l; class = sym (a.class s l) ∙ b.class; owner = sym (a.owner s l) ∙ b.owner }

    is_of_lem : {s : ℕ} → Belongs t k s → Belongs u k s
    is_of_lem {s} b =
        record { used = lt_of_lt_of_le b.used a.used; class = a.class s b.used ∙ b.class; owner = a.owner s b.used ∙ b.owner }

    -- Where a block of it is out in both tables or in neither, the test agrees.
    agrees :
        (s q : ℕ) → s < t.used → q < k.slots → (Belongs t k s → IsOut g t s q → IsOut g u s q) → (Belongs t k s → IsOut g u s q → IsOut g t s q) →
        out_test t s q ≡ out_test u s q
    agrees s q l m to from =
        tests_agree (out_test t s q) (out_test u s q)
        (λ e. let b = passes_of s q l e in out_passes s q (is_of_lem b) (to b (passes_out s q l m e)))
        (λ e.
        let n : s < u.used = lt_of_lt_of_le l a.used in
        let b = was_of l (passes_of s q n e) in
        out_passes s q b (from b (passes_out s q n m e)))

    -- ---- the spans

    -- As many spans are of it where none of them was created,
    pub other_spans : ((s : ℕ) → t.used ≤ s → Belongs u k s → ⊥) → (row_in g u h c).spans ≡ (row_in g t h c).spans
    unfolding row_in
    other_spans n =
        passing_longer t.used u.used (is_of u k) a.used (λ s l m. test_fails (is_of u k s) (λ e. n s l (passes_belongs m e)))
        ∙ passing_same t.used (is_of u k) (is_of t k) still_of

    -- as where no span was created at all,
    pub same_spans : u.used ≡ t.used → (row_in g u h c).spans ≡ (row_in g t h c).spans
    same_spans e = other_spans (λ s l b. omega (arith, e, l, b.used))

    -- and where one span was created, one more if it is of it.
    pub one_span : u.used ≡ t.used + 1 → (row_in g u h c).spans ≡ (row_in g t h c).spans + one (is_of u k t.used)
    unfolding row_in
    one_span e =
        ap (λ (n : ℕ). passing n (is_of u k)) e ∙ passing_next t.used (is_of u k)
        ∙ ap (λ (n : ℕ). n + one (is_of u k t.used)) (passing_same t.used (is_of u k) (is_of t k) still_of)

  -- ---- the blocks out

  -- As many are out where the same are,
  pub same_out : {t u : Tables} → SameOuts g t u → (row_in g u h c).out ≡ (row_in g t h c).out
  unfolding row_in
  same_out {t} {u} a =
      pairs_longer t.used u.used k.slots (out_test u) a.spans.used
      (λ s q l n m. test_fails (out_test u s q) (λ e. omega (arith, l, (a.none s q (passes_out s q n m e)).used)))
      ∙ sym (pairs_same t.used k.slots (out_test t) (out_test u) (λ s q l m. agrees a.spans s q l m (λ b o. a.kept s q o) (λ b o. a.none s q o)))

  module _ {t u : Tables} {x y : ℕ} (e : u.used ≡ t.used) where
    -- one more where one of it comes out,
    pub comes_more : ComesOut g t u x y → Belongs u k x → (row_in g u h c).out ≡ (row_in g t h c).out + 1
    unfolding row_in
    comes_more a b =
        let l : x < t.used = rw (← e) b.used in
        let m : y < k.slots = subst (λ (z : ClassHeap). y < z.slots) (belongs_home g u h c x b) a.now.slot in
        ap (λ (n : ℕ). pairs n k.slots (out_test u)) e
        ∙ pairs_more t.used k.slots (out_test t) (out_test u) x y l m (test_fails (out_test t x y) (λ z. a.was (passes_out x y l m z)))
        (out_passes x y b a.now)
        (λ s q i j n. agrees a.spans s q i j (λ z o. a.kept s q o) (λ z o. a.none s q o n))

    -- one fewer where one of it goes back,
    pub goes_fewer : GoesBack g t u x y → Belongs t k x → (row_in g t h c).out ≡ (row_in g u h c).out + 1
    unfolding row_in
    goes_fewer a b =
        let l : x < t.used = b.used in
        let m : y < k.slots = subst (λ (z : ClassHeap). y < z.slots) (belongs_home g t h c x b) a.was.slot in
        pairs_more t.used k.slots (out_test u) (out_test t) x y l m
        (test_fails (out_test u x y) (λ z. a.now (passes_out x y (rw e l) m z)))
        (out_passes x y b a.was)
        (λ s q i j n. sym (agrees a.spans s q i j (λ z o. a.kept s q o n) (λ z o. a.none s q o)))
        ∙ ap (λ (n : ℕ). pairs n k.slots (out_test u) + 1) (sym e)

    -- and as many where the block that comes out is of another,
    pub comes_other : ComesOut g t u x y → (Belongs u k x → ⊥) → (row_in g u h c).out ≡ (row_in g t h c).out
    unfolding row_in
    comes_other a d =
        ap (λ (n : ℕ). pairs n k.slots (out_test u)) e
        ∙ sym
        (pairs_same t.used k.slots (out_test t) (out_test u)
        (λ s q i j.
        agrees a.spans s q i j (λ z o. a.kept s q o)
        (λ z o. a.none s q o (λ p r. d (subst (Belongs u k) p (is_of_lem a.spans z))))))

    -- or the block that goes back.
    pub goes_other : GoesBack g t u x y → (Belongs t k x → ⊥) → (row_in g u h c).out ≡ (row_in g t h c).out
    unfolding row_in
    goes_other a d =
        ap (λ (n : ℕ). pairs n k.slots (out_test u)) e
        ∙ sym
        (pairs_same t.used k.slots (out_test t) (out_test u)
        (λ s q i j. agrees a.spans s q i j (λ z o. a.kept s q o (λ p r. d (subst (Belongs t k) p z))) (λ z o. a.none s q o)))

-- Which blocks are out, step after step: steps that change none compose, and stand before or after a step that takes one out or brings one back.
-- Assumes nothing.
use mathlib.Core.Path.{◌≡◌, refl, sym, ap₂, subst, ◌∙◌}
use Prim.Native.Nat.{ℕ, ◌<◌, ◌≤◌}
use native.Mathlib.Nat.{lt_of_lt_of_le, le_trans}
use native.Mathlib.Decide.{ℕ_discrete}
use native.Mathlib.Omega.{arith}
use Rattle.size_classes.specs.Slots.{most_slots}
use Rattle.tables.specs.declared.ClassHeap.{ClassHeap}
use Rattle.tables.specs.Shape.{Shape, class_heap}
use Rattle.tables.specs.Cells.{Tables, span_field, class_field, owner_field, occupied_field, next_field}
use Rattle.magazine.specs.Held.{OnlyMagazine}
use Rattle.linked_list.specs.Quiet.{Quiet}
use Rattle.linked_list.proofs.QuietLaws.{quiet_class, quiet_owner}
use Rattle.span.specs.declared.BlockState.{BlockState}
use Rattle.span.specs.declared.BlockState.TheVariants.{Out}
use Rattle.span.specs.State.{state_of}
use Rattle.sound.specs.Sound.{home_of, Belongs}
use Rattle.sound.specs.States.{Becomes, Block}
use Rattle.sound.proofs.StatesLaws.{becomes_this}
use Rattle.filled_spans.proofs.SpanValues.{home_most}
use Rattle.filled_spans.proofs.FilledKept.{OnlyOccupancy}
use Rattle.outs.specs.Outs.{IsOut, SameSpans, SameOuts, ComesOut, GoesBack}

-- ---- the spans

-- Nothing changed.
pub spans_same : (t : Tables) → SameSpans t t
spans_same t = record { used = omega arith; class = λ s l. refl; owner = λ s l. refl }

-- One step after another.
pub spans_then : {t u v : Tables} → SameSpans t u → SameSpans u v → SameSpans t v
spans_then a b =
    record {
      used = le_trans a.used b.used;
      class = λ s l. b.class s (lt_of_lt_of_le l a.used) ∙ a.class s l;
      owner = λ s l. b.owner s (lt_of_lt_of_le l a.used) ∙ a.owner s l;
    }

-- A step of links and fronts.
pub quiet_spans : {t u : Tables} → Quiet t u → SameSpans t u
quiet_spans q = record { used = rw q.used (omega arith); class = λ s l. quiet_class q s; owner = λ s l. quiet_owner q s }

-- A step of one magazine.
pub magazine_spans : {t u : Tables} {k : ClassHeap} → OnlyMagazine t u k → SameSpans t u
magazine_spans m = record { used = rw m.used (omega arith); class = λ s l. rw m.spans; owner = λ s l. rw m.spans }

-- A step of the occupancy of one span.
pub occupancy_spans : {t u : Tables} {a : ℕ} → OnlyOccupancy t u a → SameSpans t u
occupancy_spans {t} {u} {a} o =
    record {
      used = rw o.used (omega arith);
      class = λ s l. field class_field (omega arith) (λ e. omega (arith, e)) s (ℕ_discrete s a);
      owner = λ s l. field owner_field (omega arith) (λ e. omega (arith, e)) s (ℕ_discrete s a);
    }
  where
    field : (f : ℕ) → f ≤ next_field → (f ≡ occupied_field → ⊥) → (s : ℕ) → Dec (s ≡ a) → span_field u s f ≡ span_field t s f
    field f l n s (yes e) = rw e (o.own f l n)
    field f l n s (no d) = o.span.fields s f l d

module _ {t u : Tables} (a : SameSpans t u) where
  -- A used span is of the class and heap that it was of.
  pub spans_home : (g : Shape) (s : ℕ) → s < t.used → home_of g u s ≡ home_of g t s
  spans_home g s l = ap₂ (class_heap g) (a.owner s l) (a.class s l)

  -- A span of a class and heap is of it still.
  pub spans_belongs : {k : ClassHeap} {s : ℕ} → Belongs t k s → Belongs u k s
  spans_belongs {k} {s} b =
      record {
        used = lt_of_lt_of_le b.used a.used;
        class = a.class s b.used ∙ b.class;
        owner = a.owner s b.used ∙ b.owner;
      }

  -- A block that was out is out, if its state says so,
  pub out_after : {g : Shape} {s q : ℕ} → IsOut g t s q → state_of g u s q ≡ Out → IsOut g u s q
  out_after {g} {s} {q} o e =
      record { used = lt_of_lt_of_le o.used a.used; slot = rw (spans_home g s o.used) o.slot; out = e }

  -- and the other way, for a span that was used.
  pub out_before : {g : Shape} {s q : ℕ} → IsOut g u s q → s < t.used → state_of g t s q ≡ Out → IsOut g t s q
  out_before {g} {s} {q} o l e = record { used = l; slot = rw (← spans_home g s l) o.slot; out = e }

-- A slot of a block that is out is one of a span.
pub out_within : {g : Shape} {t : Tables} {s q : ℕ} → IsOut g t s q → q < most_slots
out_within {g} {t} {s} o = lt_of_lt_of_le o.slot (home_most g t s)

-- ---- steps that change none

-- Nothing changed.
pub same_outs : (g : Shape) (t : Tables) → SameOuts g t t
same_outs g t = record { spans = spans_same t; kept = λ s q o. o; none = λ s q o. o }

module _ {g : Shape} {t u v : Tables} where
  -- One step after another.
  pub same_outs_then : SameOuts g t u → SameOuts g u v → SameOuts g t v
  same_outs_then a b =
      record {
        spans = spans_then a.spans b.spans;
        kept = λ s q o. b.kept s q (a.kept s q o);
        none = λ s q o. a.none s q (b.none s q o);
      }

  -- ---- before or after a step of one block

  module _ {s q : ℕ} where
    -- Before a block comes out,
    pub same_comes : SameOuts g t u → ComesOut g u v s q → ComesOut g t v s q
    same_comes a b =
        record {
          spans = spans_then a.spans b.spans;
          was = λ o. b.was (a.kept s q o);
          now = b.now;
          kept = λ x y o. b.kept x y (a.kept x y o);
          none = λ x y o n. a.none x y (b.none x y o n);
        }

    -- after it,
    pub comes_same : ComesOut g t u s q → SameOuts g u v → ComesOut g t v s q
    comes_same a b =
        record {
          spans = spans_then a.spans b.spans;
          was = a.was;
          now = b.kept s q a.now;
          kept = λ x y o. b.kept x y (a.kept x y o);
          none = λ x y o n. a.none x y (b.none x y o) n;
        }

    -- before a block goes back,
    pub same_goes : SameOuts g t u → GoesBack g u v s q → GoesBack g t v s q
    same_goes a b =
        record {
          spans = spans_then a.spans b.spans;
          was = a.none s q b.was;
          now = b.now;
          kept = λ x y o n. b.kept x y (a.kept x y o) n;
          none = λ x y o. a.none x y (b.none x y o);
        }

    -- and after it.
    pub goes_same : GoesBack g t u s q → SameOuts g u v → GoesBack g t v s q
    goes_same a b =
        record {
          spans = spans_then a.spans b.spans;
          was = a.was;
          now = λ o. a.now (b.none s q o);
          kept = λ x y o n. b.kept x y (a.kept x y o n);
          none = λ x y o. a.none x y (b.none x y o);
        }

    -- A block that comes out and goes back leaves the same blocks out.
    pub comes_goes : ComesOut g t u s q → GoesBack g u v s q → SameOuts g t v
    comes_goes a b =
        record {
          spans = spans_then a.spans b.spans;
          kept = λ x y o. b.kept x y (a.kept x y o) (λ e d. a.was (subst (λ (z : ℕ). IsOut g t s z) d (subst (λ (z : ℕ). IsOut g t z y) e o)));
          none =
              λ x y o.
              a.none x y (b.none x y o)
              (λ e d. b.now (subst (λ (z : ℕ). IsOut g v s z) d (subst (λ (z : ℕ). IsOut g v z y) e o)));
        }

-- ---- by the states of blocks

-- This block or another.
this_or : {s q : ℕ} (P : Type 0) (x y : ℕ) → (x ≡ s → y ≡ q → P) → ((x ≡ s → y ≡ q → ⊥) → P) → P
this_or {s} {q} P x y this other =
    elim (ℕ_discrete x s) [
      | no i ↦ other (λ e d. i e)
      | yes i ↦ elim (ℕ_discrete y q) [ no j ↦ other (λ e d. j d) | yes j ↦ this i j ]
    ]

module _ {g : Shape} {t u : Tables} (a : SameSpans t u) (n : u.used ≡ t.used) {s q : ℕ} where
  -- the others keep their states, so they are out as before
  others_kept :
      {b : BlockState} → Becomes g t u (Block s q) b → (x y : ℕ) → IsOut g t x y → (x ≡ s → y ≡ q → ⊥) → IsOut g u x y
  others_kept z x y o d = out_after a o (z.others x y o.used (out_within o) (λ e. d e.span e.slot) ∙ o.out)

  others_none :
      {b : BlockState} → Becomes g t u (Block s q) b → (x y : ℕ) → IsOut g u x y → (x ≡ s → y ≡ q → ⊥) → IsOut g t x y
  others_none z x y o d =
      let l : x < t.used = rw (← n) o.used in
      out_before a o l (sym (z.others x y l (out_within o) (λ e. d e.span e.slot)) ∙ o.out)

  -- A block that was not out, and is, came out.
  pub becomes_comes :
      Becomes g t u (Block s q) Out → s < t.used → q < (home_of g t s).slots → (state_of g t s q ≡ Out → ⊥) → ComesOut g t u s q
  becomes_comes z l m no_out =
      record {
        spans = a;
        was = λ o. no_out o.out;
        now = record { used = rw n l; slot = rw (spans_home a g s l) m; out = becomes_this z l (lt_of_lt_of_le m (home_most g t s)) };
        kept =
            λ x y o.
            this_or (IsOut g u x y) x y (λ e d. absurd (no_out (sym (ap₂ (state_of g t) e d) ∙ o.out))) (others_kept z x y o);
        none = λ x y o d. others_none z x y o d;
      }

  -- A block that was out, and is not, went back.
  pub becomes_goes : {b : BlockState} → Becomes g t u (Block s q) b → (b ≡ Out → ⊥) → IsOut g t s q → GoesBack g t u s q
  becomes_goes z no_out was =
      let this = becomes_this z was.used (out_within was) in
      record {
        spans = a;
        was = was;
        now = λ o. no_out (sym this ∙ o.out);
        kept = others_kept z;
        none =
            λ x y o.
            this_or (IsOut g t x y) x y (λ e d. absurd (no_out (sym this ∙ sym (ap₂ (state_of g u) e d) ∙ o.out)))
            (others_none z x y o);
      }

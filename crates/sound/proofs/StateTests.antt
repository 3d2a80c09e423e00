-- The state of a block by its three tests, both ways: whether its bit is set, whether it is pending, and whether it stands in the magazine of its class
-- and owner. Assumes nothing.
use mathlib.Core.Path.{◌≡◌, refl, sym}
use mathlib.Core.Bool.{Bool, true, false, cond}
use Prim.Native.Nat.{ℕ}
use native.Mathlib.Omega.{arith}
use Rattle.tables.specs.Shape.{Shape}
use Rattle.tables.specs.Cells.{Tables, entry_of}
use Rattle.magazine.specs.Magazine.{is_cached}
use Rattle.span.specs.declared.BlockState.{BlockState}
use Rattle.span.specs.declared.BlockState.TheVariants.{Free, Cached, Pending, Out}
use Rattle.span.specs.State.{is_occupied, is_pending, state_of}
use Rattle.sound.specs.Sound.{home_of}

-- slot q of span s stands in the magazine of its class and owner
abbrev pub is_kept : Shape → Tables → ℕ → ℕ → Bool
is_kept g t s q = is_cached t (home_of g t s) (entry_of s q)

-- a block that waits to be folded: taken and pending
pub record PendingTests (t : Tables) (s q : ℕ) : Type 0 where
  pub occupied : is_occupied t s q ≡ true
  pub pending : is_pending t s q ≡ true

-- a cached block: taken, not pending, and in that magazine
pub record CachedTests (g : Shape) (t : Tables) (s q : ℕ) : Type 0 where
  pub occupied : is_occupied t s q ≡ true
  pub not_pending : is_pending t s q ≡ false
  pub kept : is_kept g t s q ≡ true

-- a block that is out: taken, not pending, and not in that magazine
pub record OutTests (g : Shape) (t : Tables) (s q : ℕ) : Type 0 where
  pub occupied : is_occupied t s q ≡ true
  pub not_pending : is_pending t s q ≡ false
  pub not_kept : is_kept g t s q ≡ false

-- ---- two states differ

pub free_no_pending : Free ≡ Pending → ⊥
free_no_pending e = let z : ◌≡◌ {A = ℕ} 0 1 = cc in omega arith

pub free_no_cached : Free ≡ Cached → ⊥
free_no_cached e = let z : ◌≡◌ {A = ℕ} 0 1 = cc in omega arith

pub free_no_out : Free ≡ Out → ⊥
free_no_out e = let z : ◌≡◌ {A = ℕ} 0 1 = cc in omega arith

pub pending_no_cached : Pending ≡ Cached → ⊥
pending_no_cached e = let z : ◌≡◌ {A = ℕ} 0 1 = cc in omega arith

pub pending_no_out : Pending ≡ Out → ⊥
pending_no_out e = let z : ◌≡◌ {A = ℕ} 0 1 = cc in omega arith

pub cached_no_out : Cached ≡ Out → ⊥
cached_no_out e = let z : ◌≡◌ {A = ℕ} 0 1 = cc in omega arith

-- ---- what three tests are that give a state

-- the state that they give
abbrev by_tests : Bool → Bool → Bool → BlockState
by_tests occupied pending kept = cond occupied (cond pending Pending (cond kept Cached Out)) Free

tests_free : (a b c : Bool) → by_tests a b c ≡ Free → a ≡ false
tests_free true true c e = absurd (free_no_pending (sym e))
tests_free true false true e = absurd (free_no_cached (sym e))
tests_free true false false e = absurd (free_no_out (sym e))
tests_free false b c e = refl

tests_pending : (a b c : Bool) → by_tests a b c ≡ Pending → (a ≡ true) × (b ≡ true)
tests_pending true true c e = (refl, refl)
tests_pending true false true e = absurd (pending_no_cached (sym e))
tests_pending true false false e = absurd (pending_no_out (sym e))
tests_pending false b c e = absurd (free_no_pending e)

tests_cached : (a b c : Bool) → by_tests a b c ≡ Cached → (a ≡ true) × (b ≡ false) × (c ≡ true)
tests_cached true true c e = absurd (pending_no_cached e)
tests_cached true false true e = (refl, refl, refl)
tests_cached true false false e = absurd (cached_no_out (sym e))
tests_cached false b c e = absurd (free_no_cached e)

tests_out : (a b c : Bool) → by_tests a b c ≡ Out → (a ≡ true) × (b ≡ false) × (c ≡ false)
tests_out true true c e = absurd (pending_no_out e)
tests_out true false true e = absurd (cached_no_out e)
tests_out true false false e = (refl, refl, refl)
tests_out false b c e = absurd (free_no_out e)

-- ---- a block

module _ (g : Shape) (t : Tables) (s q : ℕ) where
  -- A block is free exactly when its bit is clear.
  pub free_says : state_of g t s q ≡ Free → is_occupied t s q ≡ false
  unfolding state_of
  free_says e = tests_free (is_occupied t s q) (is_pending t s q) (is_kept g t s q) e

  pub free_so : is_occupied t s q ≡ false → state_of g t s q ≡ Free
  unfolding state_of
  free_so e = λ i. by_tests (e i) (is_pending t s q) (is_kept g t s q)

  -- It is pending exactly when it is taken and waits.
  pub pending_says : state_of g t s q ≡ Pending → PendingTests t s q
  unfolding state_of
  pending_says e =
      let r = tests_pending (is_occupied t s q) (is_pending t s q) (is_kept g t s q) e in
      record { occupied = r.0; pending = r.1 }

  pub pending_so : PendingTests t s q → state_of g t s q ≡ Pending
  unfolding state_of
  pending_so r = λ i. by_tests (r.occupied i) (r.pending i) (is_kept g t s q)

  -- It is cached exactly when it is taken, does not wait, and stands in its owner's magazine.
  pub cached_says : state_of g t s q ≡ Cached → CachedTests g t s q
  unfolding state_of
  cached_says e =
      let r = tests_cached (is_occupied t s q) (is_pending t s q) (is_kept g t s q) e in
      record { occupied = r.0; not_pending = r.1; kept = r.2 }

  pub cached_so : CachedTests g t s q → state_of g t s q ≡ Cached
  unfolding state_of
  cached_so r = λ i. by_tests (r.occupied i) (r.not_pending i) (r.kept i)

  -- It is out exactly when it is taken, does not wait, and does not stand there.
  pub out_says : state_of g t s q ≡ Out → OutTests g t s q
  unfolding state_of
  out_says e =
      let r = tests_out (is_occupied t s q) (is_pending t s q) (is_kept g t s q) e in
      record { occupied = r.0; not_pending = r.1; not_kept = r.2 }

  pub out_so : OutTests g t s q → state_of g t s q ≡ Out
  unfolding state_of
  out_so r = λ i. by_tests (r.occupied i) (r.not_pending i) (r.not_kept i)

-- Blocks of which the three tests agree have one state.
pub same_tests :
    (g : Shape) (t u : Tables) (s q : ℕ) →
    is_occupied u s q ≡ is_occupied t s q →
    is_pending u s q ≡ is_pending t s q →
    is_kept g u s q ≡ is_kept g t s q →
    state_of g u s q ≡ state_of g t s q
unfolding state_of
same_tests g t u s q a b c = λ i. by_tests (a i) (b i) (c i)

-- Lists linked both ways, over any functions previous, next and head: a link is 0 for none and s + 1 for s, and head c is the link to the first of list c.
-- IsList c: c names a list; Single c: it names a list of one at most. home s is the list that s is in, or a number that names none;
-- rank falls along each list, so no list turns back on itself. Assumes nothing.
use Rattle.std.specs.Prelude.{◌≡◌, cond, ℕ, ◌+◌, ◌<◌, eqb}
use Rattle.laws.specs.Links.{Chain, walk}
use Rattle.laws.specs.Members.{Mem}

-- y is next after s
pub record After (previous home rank : ℕ → ℕ) (s y : ℕ) : Type 0 where
  pub back : previous y ≡ s + 1
  pub same : home y ≡ home s
  pub lower : rank y < rank s

-- y stands before s
pub record Before (next home : ℕ → ℕ) (s y : ℕ) : Type 0 where
  pub on : next y ≡ s + 1
  pub same : home y ≡ home s

-- s is the first of list c
pub record Front (previous home : ℕ → ℕ) (c s : ℕ) : Type 0 where
  pub top : previous s ≡ 0
  pub mine : home s ≡ c

-- every listed element's links and every list's head are right, each condition at one element
pub record Listed (IsList Single : ℕ → Type 0) (used : ℕ) (previous next head home rank : ℕ → ℕ) : Type 0 where
  pub within : (s : ℕ) → IsList (home s) → s < used
  pub after : (s y : ℕ) → IsList (home s) → next s ≡ y + 1 → After previous home rank s y
  pub before : (s y : ℕ) → IsList (home s) → previous s ≡ y + 1 → Before next home s y
  pub first : (s : ℕ) → IsList (home s) → previous s ≡ 0 → head (home s) ≡ s + 1
  pub front : (c s : ℕ) → IsList c → head c ≡ s + 1 → Front previous home c s
  pub alone : (s : ℕ) → IsList (home s) → Single (home s) → next s ≡ 0

-- the lists spelled out: a chain of links from each head, and every element in the one list that is its home
pub record Lists (IsList Single : ℕ → Type 0) (used : ℕ) (previous next head home : ℕ → ℕ) : Type 0 where
  pub each : (c : ℕ) → IsList c → Chain previous next 0 (head c) (walk next used (head c))
  -- it holds no other
  pub own : (c s : ℕ) → IsList c → Mem s (walk next used (head c)) → (s < used) × (home s ≡ c)
  pub all : (s : ℕ) → s < used → IsList (home s) × Mem s (walk next used (head (home s)))
  pub alone : (s : ℕ) → s < used → Single (home s) → next s ≡ 0

-- a is now at the front of list h
pub record Pushed (previous next head previous' next' head' : ℕ → ℕ) (h a : ℕ) : Type 0 where
  pub top : previous' a ≡ 0
  pub down : next' a ≡ head h
  pub back : (y : ℕ) → head h ≡ y + 1 → previous' y ≡ a + 1
  pub backs : (y : ℕ) → (y ≡ a → ⊥) → (head h ≡ y + 1 → ⊥) → previous' y ≡ previous y
  pub nexts : (y : ℕ) → (y ≡ a → ⊥) → next' y ≡ next y
  pub front : head' h ≡ a + 1
  pub fronts : (c : ℕ) → (c ≡ h → ⊥) → head' c ≡ head c

-- a is now out of list h, and has no links
pub record Removed (previous next head previous' next' head' : ℕ → ℕ) (h a : ℕ) : Type 0 where
  pub top : previous' a ≡ 0
  pub down : next' a ≡ 0
  pub over : (y : ℕ) → next a ≡ y + 1 → previous' y ≡ previous a
  pub under : (y : ℕ) → previous a ≡ y + 1 → next' y ≡ next a
  pub backs : (y : ℕ) → (y ≡ a → ⊥) → (next a ≡ y + 1 → ⊥) → previous' y ≡ previous y
  pub nexts : (y : ℕ) → (y ≡ a → ⊥) → (previous a ≡ y + 1 → ⊥) → next' y ≡ next y
  pub front : previous a ≡ 0 → head' h ≡ next a
  pub kept : (previous a ≡ 0 → ⊥) → head' h ≡ head h
  pub fronts : (c : ℕ) → (c ≡ h → ⊥) → head' c ≡ head c

-- f with v at a
unfoldable pub changed : (ℕ → ℕ) → ℕ → ℕ → ℕ → ℕ
changed f a v x = cond (eqb x a) v (f x)

-- Lists by home and rank: kept under functions that agree on what is listed, by push and by remove. Every condition is at one element, so all lists
-- are dealt with at once. Assumes nothing.
use mathlib.Core.Path.{◌≡◌, refl, sym, ap, subst, ◌∙◌}
use Prim.Native.Nat.{ℕ, ◌+◌, ◌-◌, ◌<◌, ◌≤◌}
use native.Mathlib.Omega.{arith}
use native.Mathlib.Decide.{ℕ_discrete}
use borrow.Author.Tests.{eq-eqb, ne_eqb}
use Rattle.laws.specs.Listed.{After, Before, Front, Listed, Pushed, Removed, changed}

-- a changed function has the new value at its place
pub changed_same : (f : ℕ → ℕ) (a v : ℕ) → changed f a v a ≡ v
unfolding changed
changed_same f a v = simp (eq-eqb a a refl)

-- and elsewhere what it had
pub changed_other : (f : ℕ → ℕ) (a v x : ℕ) → (x ≡ a → ⊥) → changed f a v x ≡ f x
unfolding changed
changed_other f a v x n = simp (ne_eqb x a n)

-- the same lists under other functions that agree where it matters
pub listed_as :
    {IsList Single : ℕ → Type 0} {used used' : ℕ} {previous next head previous' next' head' home rank : ℕ → ℕ} → used ≤ used' →
    ((s : ℕ) → IsList (home s) → previous' s ≡ previous s) → ((s : ℕ) → IsList (home s) → next' s ≡ next s) →
    ((c : ℕ) → IsList c → head' c ≡ head c) → Listed IsList Single used previous next head home rank →
    Listed IsList Single used' previous' next' head' home rank
listed_as {IsList} {Single} {used} {used'} {previous} {next} {head} {previous'} {next'} {head'} {home} {rank} u ep en eh l =
    record {
      within = λ s i. omega (arith, l.within s i);
      after =
          λ s y i e.
          let o : After previous home rank s y = l.after s y i (sym (en s i) ∙ e) in
          let j : IsList (home y) = rw o.same i in
          record { back = ep y j ∙ o.back; same = o.same; lower = o.lower };
      before =
          λ s y i e.
          let o : Before next home s y = l.before s y i (sym (ep s i) ∙ e) in
          let j : IsList (home y) = rw o.same i in
          record { on = en y j ∙ o.on; same = o.same };
      first = λ s i e. eh (home s) i ∙ l.first s i (sym (ep s i) ∙ e);
      front =
          λ c s i e.
          let o : Front previous home c s = l.front c s i (sym (eh c i) ∙ e) in
          let j : IsList (home s) = rw o.mine i in
          record { top = ep s j ∙ o.top; mine = o.mine };
      alone = λ s i o. en s i ∙ l.alone s i o;
    }

-- the same lists where a home changes from one that names no list to another
pub listed_homes :
    {IsList Single : ℕ → Type 0} {used : ℕ} {previous next head home home' rank : ℕ → ℕ} →
    ((s : ℕ) → IsList (home s) → home' s ≡ home s) → ((s : ℕ) → IsList (home' s) → home' s ≡ home s) →
    Listed IsList Single used previous next head home rank → Listed IsList Single used previous next head home' rank
listed_homes {IsList} {Single} {used} {previous} {next} {head} {home} {home'} {rank} on back l =
    let was : (s : ℕ) → IsList (home' s) → IsList (home s) = λ s i. subst IsList (back s i) i in
    record {
      within = λ s i. l.within s (was s i);
      after =
          λ s y i e.
          let o : After previous home rank s y = l.after s y (was s i) e in
          record { back = o.back; same = on y (rw o.same (was s i)) ∙ o.same ∙ sym (back s i); lower = o.lower };
      before =
          λ s y i e.
          let o : Before next home s y = l.before s y (was s i) e in
          record { on = o.on; same = on y (rw o.same (was s i)) ∙ o.same ∙ sym (back s i) };
      first = λ s i e. ap head (back s i) ∙ l.first s (was s i) e;
      front =
          λ c s i e.
          let o : Front previous home c s = l.front c s i e in
          record { top = o.top; mine = on s (rw o.mine i) ∙ o.mine };
      alone = λ s i o. l.alone s (was s i) (subst Single (back s i) o);
    }

module _ {IsList Single : ℕ → Type 0} {used : ℕ} {previous next head previous' next' head' home rank : ℕ → ℕ} {h a : ℕ} (l : Listed IsList Single used previous next head home rank) where
  module _ (p : Pushed previous next head previous' next' head' h a) (u : a < used) (out : IsList (home a) → ⊥) (cell : IsList h) (one : Single h → head h ≡ 0) where
    -- the homes after the push
    abbrev Home' : ℕ → ℕ
    Home' = changed home a h

    -- the ranks after the push: a stands above the old front
    abbrev Rank' : ℕ → ℕ
    Rank' = changed rank a (rank (head h - 1) + 1)

    -- what is listed is not a
    not_a : (x : ℕ) → IsList (home x) → x ≡ a → ⊥
    not_a x i e = out (subst IsList (ap home e) i)

    -- a is now in list h
    home_a : Home' a ≡ h
    home_a = changed_same home a h

    -- every other element is where it was
    home_o : (x : ℕ) → (x ≡ a → ⊥) → Home' x ≡ home x
    home_o x n = changed_other home a h x n

    -- and has the rank that it had
    rank_o : (x : ℕ) → (x ≡ a → ⊥) → Rank' x ≡ rank x
    rank_o x n = changed_other rank a _ x n

    -- so what is listed and is not a was listed
    was : (x : ℕ) → (x ≡ a → ⊥) → IsList (Home' x) → IsList (home x)
    was x n i = rw (home_o x n) at i

    -- after a stands the old front
    push_after_a : (y : ℕ) → next' a ≡ y + 1 → After previous' Home' Rank' a y
    push_after_a y e =
        let q : head h ≡ y + 1 = sym p.down ∙ e in
        let f : Front previous home h y = l.front h y cell q in
        let n : y ≡ a → ⊥ = not_a y (rw f.mine cell) in
        let r : head h - 1 ≡ y = omega arith in
        record {
          back = p.back y q;
          same = home_o y n ∙ f.mine ∙ sym home_a;
          lower = rw (rank_o y n, changed_same rank a (rank (head h - 1) + 1), r) (omega arith);
        }

    -- after every other element stands what stood there
    push_after_o : (s y : ℕ) → (s ≡ a → ⊥) → IsList (home s) → next' s ≡ y + 1 → After previous' Home' Rank' s y
    push_after_o s y m i e =
        let o : After previous home rank s y = l.after s y i (sym (p.nexts s m) ∙ e) in
        let j : IsList (home y) = rw o.same i in
        let n : y ≡ a → ⊥ = not_a y j in
        record {
          back = p.backs y n (λ q. omega (arith, (l.front h y cell q).top, o.back)) ∙ o.back;
          same = home_o y n ∙ o.same ∙ sym (home_o s m);
          lower = rw (rank_o y n, rank_o s m) o.lower;
        }

    -- before the old front stands a, and before others what stood there
    push_before : (s y : ℕ) → (s ≡ a → ⊥) → IsList (home s) → previous' s ≡ y + 1 → Before next' Home' s y
    push_before s y m i e = go (ℕ_discrete (head h) (s + 1))
      where
        go : Dec (head h ≡ s + 1) → Before next' Home' s y
        go (yes q) =
            let r : y ≡ a = omega (arith, p.back s q) in
            record {
              on = ap next' r ∙ p.down ∙ q;
              same = ap Home' r ∙ home_a ∙ sym (home_o s m ∙ (l.front h s cell q).mine);
            }
        go (no k) =
            let o : Before next home s y = l.before s y i (sym (p.backs s m k) ∙ e) in
            let n : y ≡ a → ⊥ = not_a y (rw o.same i) in
            record { on = p.nexts y n ∙ o.on; same = home_o y n ∙ o.same ∙ sym (home_o s m) }

    -- the first of another list is named by its head
    push_first : (s : ℕ) → (s ≡ a → ⊥) → IsList (home s) → previous' s ≡ 0 → head' (home s) ≡ s + 1
    push_first s m i e =
        let k : head h ≡ s + 1 → ⊥ = λ q. omega (arith, p.back s q) in
        let o : head (home s) ≡ s + 1 = l.first s i (sym (p.backs s m k) ∙ e) in
        p.fronts (home s) (λ q. k (sym (ap head q) ∙ o)) ∙ o

    -- the head of another list names its first
    push_front : (c s : ℕ) → (c ≡ h → ⊥) → IsList c → head' c ≡ s + 1 → Front previous' Home' c s
    push_front c s m i e =
        let o : Front previous home c s = l.front c s i (sym (p.fronts c m) ∙ e) in
        let n : s ≡ a → ⊥ = not_a s (rw o.mine i) in
        record {
          top = p.backs s n (λ q. m (sym o.mine ∙ (l.front h s cell q).mine)) ∙ o.top;
          mine = home_o s n ∙ o.mine;
        }

    -- the lists with a at the front of list h: home and rank change at a alone
    pub listed_push : Listed IsList Single used previous' next' head' (changed home a h) (changed rank a (rank (head h - 1) + 1))
    listed_push =
        record {
          within = λ s i. within s i (ℕ_discrete s a);
          after = λ s y i e. after s y i e (ℕ_discrete s a);
          before = λ s y i e. before s y i e (ℕ_discrete s a);
          first = λ s i e. first s i e (ℕ_discrete s a);
          front = λ c s i e. front c s i e (ℕ_discrete c h);
          alone = λ s i o. alone s i o (ℕ_discrete s a);
        }
      where
        within : (s : ℕ) → IsList (Home' s) → Dec (s ≡ a) → s < used
        within s i (yes q) = omega arith
        within s i (no n) = l.within s (was s n i)

        after : (s y : ℕ) → IsList (Home' s) → next' s ≡ y + 1 → Dec (s ≡ a) → After previous' Home' Rank' s y
        after s y i e (yes q) = subst (λ (z : ℕ). After previous' Home' Rank' z y) (sym q) (push_after_a y (sym (ap next' q) ∙ e))
        after s y i e (no n) = push_after_o s y n (was s n i) e

        before : (s y : ℕ) → IsList (Home' s) → previous' s ≡ y + 1 → Dec (s ≡ a) → Before next' Home' s y
        before s y i e (yes q) = absurd (let z : ⊥ = omega (arith, ap previous' q, p.top) in z)
        before s y i e (no n) = push_before s y n (was s n i) e

        first : (s : ℕ) → IsList (Home' s) → previous' s ≡ 0 → Dec (s ≡ a) → head' (Home' s) ≡ s + 1
        first s i e (yes q) = subst (λ (z : ℕ). head' (Home' z) ≡ z + 1) (sym q) (ap head' home_a ∙ p.front)
        first s i e (no n) = ap head' (home_o s n) ∙ push_first s n (was s n i) e

        front : (c s : ℕ) → IsList c → head' c ≡ s + 1 → Dec (c ≡ h) → Front previous' Home' c s
        front c s i e (yes q) =
            let r : s ≡ a = omega (arith, ap head' q, p.front) in
            record { top = ap previous' r ∙ p.top; mine = ap Home' r ∙ home_a ∙ sym q }
        front c s i e (no n) = push_front c s n i e

        alone : (s : ℕ) → IsList (Home' s) → Single (Home' s) → Dec (s ≡ a) → next' s ≡ 0
        alone s i o (yes q) = ap next' q ∙ p.down ∙ one (subst Single (ap Home' q ∙ home_a) o)
        alone s i o (no n) = p.nexts s n ∙ l.alone s (was s n i) (subst Single (home_o s n) o)

  module _ (r : Removed previous next head previous' next' head' h a) (mine : home a ≡ h) (cell : IsList h) (none : ℕ) (free : IsList none → ⊥) where
    -- the homes after the remove
    abbrev Left : ℕ → ℕ
    Left = changed home a none

    -- a was listed
    listed_a : IsList (home a)
    listed_a = rw mine cell

    -- every other element is where it was
    left_o : (x : ℕ) → (x ≡ a → ⊥) → Left x ≡ home x
    left_o x n = changed_other home a none x n

    -- what is listed still is not a
    still : (x : ℕ) → IsList (Left x) → x ≡ a → ⊥
    still x i e = free (subst IsList (ap Left e ∙ changed_same home a none) i)

    -- so it was listed
    held : (x : ℕ) → IsList (Left x) → IsList (home x)
    held x i = rw (left_o x (still x i)) at i

    -- the element after a is another
    next_other : (y : ℕ) → next a ≡ y + 1 → y ≡ a → ⊥
    next_other y e q = omega (arith, (l.after a y listed_a e).lower, ap rank q)

    -- and so is the element before it
    previous_other : (y : ℕ) → previous a ≡ y + 1 → y ≡ a → ⊥
    previous_other y e q =
        let b : Before next home a y = l.before a y listed_a e in
        omega (arith, (l.after y a (rw b.same listed_a) b.on).lower, ap rank q)

    -- after the element before a stands the one after a
    remove_after : (s y : ℕ) → (s ≡ a → ⊥) → IsList (home s) → next' s ≡ y + 1 → Dec (previous a ≡ s + 1) → After previous' Left rank s y
    remove_after s y m i e (yes q) =
        let b : Before next home a s = l.before a s listed_a q in
        let w : next a ≡ y + 1 = sym (r.under s q) ∙ e in
        let o : After previous home rank a y = l.after a y listed_a w in
        let o' : After previous home rank s a = l.after s a i b.on in
        record {
          back = r.over y w ∙ q;
          same = left_o y (next_other y w) ∙ o.same ∙ o'.same ∙ sym (left_o s m);
          lower = omega (arith, o.lower, o'.lower);
        }
    remove_after s y m i e (no k) =
        let o : After previous home rank s y = l.after s y i (sym (r.nexts s m k) ∙ e) in
        let n : y ≡ a → ⊥ = λ q. k (sym (ap previous q) ∙ o.back) in
        record {
          back = r.backs y n (λ w. m (omega (arith, (l.after a y listed_a w).back, o.back))) ∙ o.back;
          same = left_o y n ∙ o.same ∙ sym (left_o s m);
          lower = o.lower;
        }

    -- before the element after a stands the one before a
    remove_before : (s y : ℕ) → (s ≡ a → ⊥) → IsList (home s) → previous' s ≡ y + 1 → Dec (next a ≡ s + 1) → Before next' Left s y
    remove_before s y m i e (yes q) =
        let w : previous a ≡ y + 1 = sym (r.over s q) ∙ e in
        let b : Before next home a y = l.before a y listed_a w in
        record {
          on = r.under y w ∙ q;
          same = left_o y (previous_other y w) ∙ b.same ∙ sym (l.after a s listed_a q).same ∙ sym (left_o s m);
        }
    remove_before s y m i e (no k) =
        let b : Before next home s y = l.before s y i (sym (r.backs s m k) ∙ e) in
        let n : y ≡ a → ⊥ = λ q. k (sym (ap next q) ∙ b.on) in
        record {
          on = r.nexts y n (λ w. m (omega (arith, (l.before a y listed_a w).on, b.on))) ∙ b.on;
          same = left_o y n ∙ b.same ∙ sym (left_o s m);
        }

    -- the first of a list is named by its head
    remove_first : (s : ℕ) → (s ≡ a → ⊥) → IsList (home s) → previous' s ≡ 0 → Dec (next a ≡ s + 1) → head' (home s) ≡ s + 1
    remove_first s m i e (yes q) = ap head' ((l.after a s listed_a q).same ∙ mine) ∙ r.front (sym (r.over s q) ∙ e) ∙ q
    remove_first s m i e (no k) =
        let o : head (home s) ≡ s + 1 = l.first s i (sym (r.backs s m k) ∙ e) in
        go o (ℕ_discrete (home s) h)
      where
        go : head (home s) ≡ s + 1 → Dec (home s ≡ h) → head' (home s) ≡ s + 1
        go o (yes q) =
            ap head' q
            ∙ r.kept (λ z. m (omega (arith, l.first a listed_a z, ap head mine, ap head q)))
            ∙ sym (ap head q) ∙ o
        go o (no n) = r.fronts (home s) n ∙ o

    -- the first of a list is not next after a
    front_other : (c s : ℕ) → Front previous home c s → next a ≡ s + 1 → ⊥
    front_other c s o w = omega (arith, (l.after a s listed_a w).back, o.top)

    -- the head of a list names its first
    remove_front : (c s : ℕ) → IsList c → head' c ≡ s + 1 → Dec (c ≡ h) → Front previous' Left c s
    remove_front c s i e (yes q) = go (ℕ_discrete (previous a) 0)
      where
        go : Dec (previous a ≡ 0) → Front previous' Left c s
        go (yes z) =
            let w : next a ≡ s + 1 = sym (r.front z) ∙ sym (ap head' q) ∙ e in
            record {
              top = r.over s w ∙ z;
              mine = left_o s (next_other s w) ∙ (l.after a s listed_a w).same ∙ mine ∙ sym q;
            }
        go (no k) =
            let o : Front previous home c s = l.front c s i (ap head q ∙ sym (r.kept k) ∙ sym (ap head' q) ∙ e) in
            let n : s ≡ a → ⊥ = λ w. k (sym (ap previous w) ∙ o.top) in
            record { top = r.backs s n (front_other c s o) ∙ o.top; mine = left_o s n ∙ o.mine }
    remove_front c s i e (no k) =
        let o : Front previous home c s = l.front c s i (sym (r.fronts c k) ∙ e) in
        let n : s ≡ a → ⊥ = λ w. k (sym o.mine ∙ ap home w ∙ mine) in
        record { top = r.backs s n (front_other c s o) ∙ o.top; mine = left_o s n ∙ o.mine }

    -- the lists without a: home changes at a alone, and ranks stay
    pub listed_remove : Listed IsList Single used previous' next' head' (changed home a none) rank
    listed_remove =
        record {
          within = λ s i. l.within s (held s i);
          after = λ s y i e. remove_after s y (still s i) (held s i) e (ℕ_discrete (previous a) (s + 1));
          before = λ s y i e. remove_before s y (still s i) (held s i) e (ℕ_discrete (next a) (s + 1));
          first = λ s i e. ap head' (left_o s (still s i)) ∙ remove_first s (still s i) (held s i) e (ℕ_discrete (next a) (s + 1));
          front = λ c s i e. remove_front c s i e (ℕ_discrete c h);
          alone =
              λ s i o.
              let n : s ≡ a → ⊥ = still s i in
              let z : next s ≡ 0 = l.alone s (held s i) (subst Single (left_o s n) o) in
              r.nexts s n (λ w. omega (arith, (l.before a s listed_a w).on)) ∙ z;
        }

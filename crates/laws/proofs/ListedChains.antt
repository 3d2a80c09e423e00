-- Lists by home and rank are the lists spelled out, and back: a chain of links from each head, every element in the one list that is its home.
-- Assumes nothing.
use mathlib.Core.Path.{◌≡◌, refl, sym, ap, subst, ◌∙◌}
use mathlib.Core.Bool.{cond}
use mathlib.Core.List.{List, [], ◌∷◌}
use mathlib.Core.Logic.{inl, inr, ⊎_elim}
use Prim.Native.Nat.{ℕ, zero, suc, ◌+◌, ◌-◌, ◌<◌, ◌≤◌}
use native.Mathlib.Omega.{arith}
use native.Mathlib.Decide.{ℕ_discrete, dec_lt}
use native.Mathlib.Nat.{eq-or-lt_of_le, le_of_suc-le-suc}
use lib.ListN.{length}
use lib.Dec.{ltb}
use borrow.Author.Tests.{eq-eqb, ne_eqb, lt-ltb, le-ltb}
use Rattle.laws.specs.Links.{Chain, walk}
use Rattle.laws.specs.Members.{Mem}
use Rattle.laws.specs.Listed.{After, Before, Front, Listed, Lists}
use Rattle.laws.proofs.ChainLaws.{chain_walk, chain_walked, chain_few, chain_first, chain_back, chain_next, chain_previous, chain_rest}

-- a number above f at each number below u
abbrev over : (ℕ → ℕ) → ℕ → ℕ
over f zero = 0
over f (suc u) = f u + 1 + over f u

-- it is above each of them
over_most : (f : ℕ → ℕ) (u s : ℕ) → s < u → f s < over f u
over_most f zero s h = omega arith
over_most f (suc u) s h = ⊎_elim (λ e. omega (arith, ap f e)) (λ l. omega (arith, over_most f u s l)) (eq-or-lt_of_le (le_of_suc-le-suc h))

-- ---- from home and rank to lists
module _ {IsList Single : ℕ → Type 0} {used : ℕ} {previous next head home rank : ℕ → ℕ} (l : Listed IsList Single used previous next head home rank) where
  -- a number above every rank
  abbrev R : ℕ
  R = over rank used

  -- the link x, behind p, leads to an element of list c of rank below r, or to none
  record Leads (c r p x : ℕ) : Type 0 where
    mine : (s : ℕ) → x ≡ s + 1 → home s ≡ c
    back : (s : ℕ) → x ≡ s + 1 → previous s ≡ p
    below : (s : ℕ) → x ≡ s + 1 → rank s < r

  -- so does the next link of an element of list c, below its rank
  leads_on : (c r s : ℕ) → IsList c → home s ≡ c → rank s < suc r → Leads c r (s + 1) (next s)
  leads_on c r s i e h =
      let j : IsList (home s) = rw e i in
      record {
        mine = λ y q. (l.after s y j q).same ∙ e;
        back = λ y q. (l.after s y j q).back;
        below = λ y q. omega (arith, (l.after s y j q).lower);
      }

  -- rank falls, so as many steps as the rank are the whole chain
  built : (r c p x : ℕ) → IsList c → Leads c r p x → Chain previous next p x (walk next r x)
  unfolding walk
  built zero c p x i w = at (ℕ_discrete x 0)
    where
      at : Dec (x ≡ 0) → x ≡ 0
      at (yes e) = e
      at (no m) = absurd (let z : ⊥ = omega (arith, w.below (x - 1) (omega arith)) in z)
  built (suc r) c p x i w = go (ℕ_discrete x 0) (λ k. built r c (x - 1 + 1) (next (x - 1)) i k)
    where
      go :
          Dec (x ≡ 0) →
          (Leads c r (x - 1 + 1) (next (x - 1)) → Chain previous next (x - 1 + 1) (next (x - 1)) (walk next r (next (x - 1)))) →
          Chain previous next p x (walk next (suc r) x)
      go (yes e) rest = rw (eq-eqb x 0 e) e
      go (no m) rest =
          let q : x ≡ x - 1 + 1 = omega arith in
          rw (ne_eqb x 0 m) (record { here = q; back = w.back (x - 1) q }, rest (leads_on c r (x - 1) i (w.mine (x - 1) q) (w.below (x - 1) q)))

  -- every element of a chain from list c is of list c
  owned :
      (c : ℕ) → IsList c → (xs : List ℕ) (p x : ℕ) → ((s : ℕ) → x ≡ s + 1 → home s ≡ c) → Chain previous next p x xs → (s : ℕ) → Mem s xs →
      home s ≡ c
  owned c i [] p x e k s m = absurd m
  owned c i (y ∷ xs) p x e k s (inl q) = ap home q ∙ e y k.0.here
  owned c i (y ∷ xs) p x e k s (inr m) =
      let q : home y ≡ c = e y k.0.here in
      owned c i xs (y + 1) (next y) (λ z w. (l.after y z (rw q i) w).same ∙ q) k.1 s m

  module _ (c : ℕ) (i : IsList c) where
    -- a head leads to an element of its list
    first_mine : (s : ℕ) → head c ≡ s + 1 → home s ≡ c
    first_mine s e = (l.front c s i e).mine

    -- the chain of list c, walked for as many steps as any rank
    long : Chain previous next 0 (head c) (walk next R (head c))
    long =
        built R c 0 (head c) i
        (record {
          mine = first_mine;
          back = λ s e. (l.front c s i e).top;
          below = λ s e. over_most rank used s (l.within s (rw (first_mine s e) i));
        })

    -- used steps are enough, since no element stands twice in a chain
    same : walk next used (head c) ≡ walk next R (head c)
    same =
        chain_walked previous next used (walk next R (head c)) (head c) long
        (λ s m. l.within s (rw (owned c i (walk next R (head c)) 0 (head c) first_mine long s m) i))

    -- the list of c, spelled out
    pub chained : Chain previous next 0 (head c) (walk next used (head c))
    chained = rw same long

  -- every listed element is reached: so is the one before it, by falling distance from the highest rank
  reached : (d s : ℕ) → IsList (home s) → over rank used ≤ rank s + d → Mem s (walk next used (head (home s)))
  reached zero s i h = absurd (let z : ⊥ = omega (arith, over_most rank used s (l.within s i)) in z)
  reached (suc d) s i h = go (ℕ_discrete (previous s) 0) (λ y j w. reached d y j w)
    where
      go :
          Dec (previous s ≡ 0) → ((y : ℕ) → IsList (home y) → over rank used ≤ rank y + d → Mem y (walk next used (head (home y)))) →
          Mem s (walk next used (head (home s)))
      go (yes e) up = chain_first previous next (walk next used (head (home s))) 0 (head (home s)) s (chained (home s) i) (l.first s i e)
      go (no m) up =
          let y : ℕ = previous s - 1 in
          let b : Before next home s y = l.before s y i (omega arith) in
          let j : IsList (home y) = rw b.same i in
          let a : After previous home rank y s = l.after y s j b.on in
          chain_next previous next (walk next used (head (home s))) 0 (head (home s)) y s (chained (home s) i)
          (subst (λ (c : ℕ). Mem y (walk next used (head c))) b.same (up y j (omega (arith, a.lower)))) b.on

  -- where every element is listed, home and rank give the lists spelled out
  pub lists_of : ((s : ℕ) → s < used → IsList (home s)) → Lists IsList Single used previous next head home
  lists_of all =
      record {
        each = λ c i. chained c i;
        own =
            λ c s i m.
            let q : home s ≡ c = owned c i (walk next used (head c)) 0 (head c) (first_mine c i) (chained c i) s m in
            (l.within s (rw q i), q);
        all = λ s h. (all s h, reached (over rank used) s (all s h) (omega arith));
        alone = λ s h o. l.alone s (all s h) o;
      }

-- ---- from lists to home and rank

-- home below used, and elsewhere none
abbrev pub home_in : ℕ → ℕ → (ℕ → ℕ) → ℕ → ℕ
home_in none used home s = cond (ltb s used) (home s) none

-- how many stand behind s
abbrev pub rank_in : ℕ → (ℕ → ℕ) → ℕ → ℕ
rank_in used next s = length (walk next used (next s))

module _ {IsList Single : ℕ → Type 0} {used : ℕ} {previous next head home : ℕ → ℕ} (none : ℕ) (free : IsList none → ⊥) (l : Lists IsList Single used previous next head home) where
  -- the homes
  abbrev H : ℕ → ℕ
  H = home_in none used home

  -- the ranks
  abbrev K : ℕ → ℕ
  K = rank_in used next

  -- what is listed is used
  in_use : (s : ℕ) → IsList (H s) → s < used
  in_use s i = go (dec_lt s used)
    where
      go : Dec (s < used) → s < used
      go (yes h) = h
      go (no m) = absurd (free (rw (le-ltb s used (omega arith)) at i))

  -- what is used has its home
  same_home : (s : ℕ) → s < used → H s ≡ home s
  same_home s h = rw (lt-ltb s used h)

  -- the list that s is in
  abbrev L : ℕ → List ℕ
  L s = walk next used (head (home s))

  -- the chain of that list
  in_list : (s : ℕ) → s < used → Chain previous next 0 (head (home s)) (L s)
  in_list s h = l.each (home s) (l.all s h).0

  -- no list is longer than used
  short : (c : ℕ) → IsList c → length (walk next used (head c)) ≤ used
  short c i =
      chain_few previous next used (walk next used (head c)) (head c) (l.each c i) (λ s m. (l.own c s i m).0)

  -- what stands behind s: the rest of its list
  module _ (s : ℕ) (h : s < used) where
    -- they are a chain
    tail : (zs : List ℕ) × Chain previous next (s + 1) (next s) zs × (length zs < length (L s)) × ((y : ℕ) → Mem y zs → Mem y (L s))
    tail = chain_rest previous next (L s) 0 (head (home s)) s (in_list s h) (l.all s h).1

    -- their number is the rank
    rank_tail : K s ≡ length tail.0
    rank_tail = ap length (chain_walk previous next tail.0 used (s + 1) (next s) tail.1 (omega (arith, tail.2, short (home s) (l.all s h).0)))

  -- an element and the one after it: the rest of its list begins with that one
  after_of : (s y : ℕ) → s < used → next s ≡ y + 1 → After previous H K s y
  after_of s y h e = go (tail s h).0 (tail s h).1 (tail s h).3 (rank_tail s h)
    where
      go : (zs : List ℕ) → Chain previous next (s + 1) (next s) zs → ((z : ℕ) → Mem z zs → Mem z (L s)) → K s ≡ length zs → After previous H K s y
      go [] k sub r = absurd (let z : ⊥ = omega arith in z)
      go (z ∷ zs) k sub r =
          let q : y ≡ z = omega (arith, k.0.here) in
          let o : (z < used) × (home z ≡ home s) = l.own (home s) z (l.all s h).0 (sub z (inl refl)) in
          let w : K z ≡ length zs = ap length (chain_walk previous next zs used (z + 1) (next z) k.1 (omega (arith, r, rank_tail s h, (tail s h).2, short (home s) (l.all s h).0))) in
          subst (λ (v : ℕ). After previous H K s v) (sym q)
          (record {
            back = k.0.back;
            same = same_home z o.0 ∙ o.1 ∙ sym (same_home s h);
            lower = omega (arith, w, r);
          })

  -- the lists spelled out give home and rank
  pub listed_of : Listed IsList Single used previous next head (home_in none used home) (rank_in used next)
  listed_of =
      record {
        within = in_use;
        after = λ s y i e. after_of s y (in_use s i) e;
        before = λ s y i e. before s y (in_use s i) e;
        first = λ s i e. ap head (same_home s (in_use s i)) ∙ first s (in_use s i) e;
        front = front;
        alone = λ s i o. let h : s < used = in_use s i in l.alone s h (subst Single (same_home s h) o);
      }
    where
      before : (s y : ℕ) → s < used → previous s ≡ y + 1 → Before next H s y
      before s y h e =
          ⊎_elim
          (λ o. absurd (let z : ⊥ = omega (arith, o.back) in z))
          (λ r.
          let q : r.0 ≡ y = omega (arith, r.2) in
          let o : (r.0 < used) × (home r.0 ≡ home s) = l.own (home s) r.0 (l.all s h).0 r.1 in
          subst (λ (v : ℕ). Before next H s v) q (record { on = r.3; same = same_home r.0 o.0 ∙ o.1 ∙ sym (same_home s h) }))
          (chain_previous previous next (L s) 0 (head (home s)) s (in_list s h) (l.all s h).1)

      first : (s : ℕ) → s < used → previous s ≡ 0 → head (home s) ≡ s + 1
      first s h e =
          ⊎_elim
          (λ o. o.here)
          (λ r. absurd (let z : ⊥ = omega (arith, r.2) in z))
          (chain_previous previous next (L s) 0 (head (home s)) s (in_list s h) (l.all s h).1)

      front : (c s : ℕ) → IsList c → head c ≡ s + 1 → Front previous H c s
      front c s i e =
          let xs : List ℕ = walk next used (head c) in
          let o : (s < used) × (home s ≡ c) = l.own c s i (chain_first previous next xs 0 (head c) s (l.each c i) e) in
          record { top = chain_back previous next xs 0 (head c) s (l.each c i) e; mine = same_home s o.0 ∙ o.1 }

-- The walk of one list: after so many steps the list is right exactly where the rest of it is. Assumes nothing.
use mathlib.Core.Path.{◌≡◌, refl, sym, ap, subst}
use mathlib.Core.List.{List, [], ◌∷◌}
use Prim.Native.Nat.{ℕ, zero, suc, ◌+◌, ◌-◌, ◌*◌, ◌<◌, ◌≤◌}
use native.Mathlib.Nat.{mul-le-mul_right}
use native.Mathlib.Omega.{arith}
use lib.ListN.{length}
use Rattle.laws.specs.Links.{All, Chain, walk}
use Rattle.laws.proofs.ChainLaws.{walk_none, walk_some}
use Rattle.tables.specs.declared.ClassHeap.{ClassHeap}
use Rattle.tables.specs.Shape.{record_cells}
use Rattle.tables.specs.Cells.{Tables, occupied_at, previous_at, next_at, head_at}
use Rattle.linked_list.specs.Lists.{list_of}
use Rattle.span.specs.Room.{FieldCells}
use Rattle.sound.specs.Sound.{Belongs, ListSound}
use Rattle.sound_lists.specs.Walked.{UsedFields, Fits, Between}

-- The record of a used span is there.
pub record_there : {spans : List ℕ} {used s : ℕ} → UsedFields spans used → s < used → FieldCells spans s
record_there {s = s} u h = record { there = omega (arith, mul-le-mul_right {m = suc s} record_cells h, u.there) }

-- There are fewer used spans than cells.
pub used_small : {spans : List ℕ} {used : ℕ} → UsedFields spans used → 5 * used ≤ length spans
unfolding record_cells
used_small u = omega (arith, u.there)

-- A walk meets no more spans than it has steps, so a list has no more than are used.
walk_few : (t : Tables) (n x : ℕ) → length (walk (next_at t) n x) ≤ n
unfolding walk
walk_few t n zero = omega (arith, ap (λ (l : List ℕ). length l) (walk_none (previous_at t) (next_at t) n 0 refl))
walk_few t zero (suc x) = omega arith
walk_few t (suc n) (suc x) =
    omega (arith, ap (λ (l : List ℕ). length l) (walk_some (previous_at t) (next_at t) n (suc x) x (omega arith)), walk_few t n (next_at t x))

pub list_few : (t : Tables) (k : ClassHeap) (f : ℕ) → length (list_of t k f) ≤ t.used
list_few t k f = walk_few t t.used (head_at t k f)

module _ (t : Tables) (k : ClassHeap) (f low high : ℕ) where
  -- the list as the walk decides it
  abbrev pub Whole : Type 0
  Whole = ListSound t k f (Between low high)

  -- the same of a part of it, from the link x on, after p
  pub record Runs (p x : ℕ) (l : List ℕ) : Type 0 where
    pub linked : Chain (previous_at t) (next_at t) p x l
    pub own : All (Belongs t k) l
    pub named : All (λ s. Between low high (occupied_at t s)) l

  -- `met` spans were met, and the walk is at the link x, after p
  pub record Reach (met p x : ℕ) : Type 0 where
    pub within : met ≤ t.used
    pub down : (left : ℕ) → left + met ≡ t.used → Whole → Runs p x (walk (next_at t) left x)
    pub up : (left : ℕ) → left + met ≡ t.used → Runs p x (walk (next_at t) left x) → Whole
    pub long : (left : ℕ) → left + met ≡ t.used → met + length (walk (next_at t) left x) ≡ length (list_of t k f)

  pub start : Reach 0 0 (head_at t k f)
  start =
      record {
        within = omega arith;
        down =
            λ left e w.
            let q : left ≡ t.used = omega arith in
            rw q (record { linked = w.linked; own = w.own; named = w.named });
        up =
            λ left e r.
            let q : left ≡ t.used = omega arith in
            let s = subst (λ (n : ℕ). Runs 0 (head_at t k f) (walk (next_at t) n (head_at t k f))) q r in
            record { linked = s.linked; own = s.own; named = s.named };
        long = λ left e. let q : left ≡ t.used = omega arith in rw q (omega arith);
      }

  -- What is left of a walk that is not at its end.
  ahead : (left x : ℕ) → (x ≡ 0 → ⊥) → walk (next_at t) (suc left) x ≡ (x - 1) ∷ walk (next_at t) left (next_at t (x - 1))
  ahead left x n = walk_some (previous_at t) (next_at t) left x (x - 1) (let e : x ≡ x - 1 + 1 = omega (arith, n) in e)

  module _ {met p x : ℕ} (r : Reach met p x) where
    -- The list ends here.
    pub end : x ≡ 0 → Whole × (met ≡ length (list_of t k f))
    end e =
        let none : walk (next_at t) (t.used - met) x ≡ [] = walk_none (previous_at t) (next_at t) (t.used - met) x e in
        let q : t.used - met + met ≡ t.used = omega (arith, r.within) in (
          r.up (t.used - met) q (subst (Runs p x) (sym none) (record { linked = e; own = tt; named = tt })),
          omega (arith, r.long (t.used - met) q, ap (λ (l : List ℕ). length l) none),
        )

    module _ (n : x ≡ 0 → ⊥) where
      -- One span more.
      pub step : Fits t k low high p (x - 1) → met < t.used → Reach (met + 1) x (next_at t (x - 1))
      step o h =
          record {
            within = omega arith;
            down =
                λ left e w.
                let s = subst (Runs p x) (ahead left x n) (r.down (suc left) (omega arith) w) in
                record {
                  linked =
                      subst (λ (z : ℕ). Chain (previous_at t) (next_at t) z (next_at t (x - 1)) (walk (next_at t) left (next_at t (x - 1))))
                      (let e : x - 1 + 1 ≡ x = omega (arith, n) in e) s.linked.1;
                  own = s.own.1;
                  named = s.named.1;
                };
            up =
                λ left e s.
                r.up (suc left) (omega arith)
                (subst (Runs p x) (sym (ahead left x n))
                (record {
                  linked = (
                    record { here = let e : x ≡ x - 1 + 1 = omega (arith, n) in e; back = o.back },
                    subst (λ (z : ℕ). Chain (previous_at t) (next_at t) z (next_at t (x - 1)) (walk (next_at t) left (next_at t (x - 1))))
                        (let e : x ≡ x - 1 + 1 = omega (arith, n) in e) s.linked,
                  );
                  own = (o.belongs, s.own);
                  named = (o.named, s.named);
                }));
            long = λ left e. omega (arith, r.long (suc left) (omega arith), ap (λ (l : List ℕ). length l) (ahead left x n));
          }

      -- The span that the link names fits, in a list that is right.
      pub fits : met < t.used → Whole → Fits t k low high p (x - 1)
      fits h w =
          let s = subst (Runs p x) (ahead (t.used - suc met) x n) (r.down (suc (t.used - suc met)) (omega arith) w) in
          record { belongs = s.own.0; back = s.linked.0.back; named = s.named.0 }

      -- A list that does not end is not right.
      pub endless : met ≡ t.used → Whole → ⊥
      unfolding walk
      endless e w = n (r.down 0 (omega arith) w).linked

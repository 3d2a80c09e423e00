-- What keeps spans at home: a step that moves spans between lists, one that changes the occupancy of one span, and one of one magazine, each where
-- the table is filled afterwards. Assumes nothing.
use mathlib.Core.Path.{◌≡◌, refl, sym, ap, subst, ◌∙◌}
use mathlib.Core.List.{List}
use Prim.Native.Nat.{ℕ, ◌+◌, ◌≤◌}
use native.Mathlib.Omega.{arith}
use native.Mathlib.Decide.{ℕ_discrete}
use lib.ListN.{get_or}
use Rattle.laws.proofs.ListedLaws.{listed_as}
use Rattle.tables.specs.declared.ClassHeap.{ClassHeap}
use Rattle.tables.specs.Shape.{Shape}
use Rattle.tables.specs.Cells.{Tables, class_field, owner_field, occupied_field, previous_field, next_field, class_at, owner_at, occupied_at}
use Rattle.tables.proofs.CellLaws.{list_in}
use Rattle.magazine.specs.Held.{OnlyMagazine}
use Rattle.linked_list.specs.Quiet.{Quiet}
use Rattle.linked_list.specs.Named.{heads_at, RowName, ListedIn}
use Rattle.linked_list.proofs.QuietLaws.{quiet_class, quiet_owner, quiet_occupied}
use Rattle.sound.specs.Filled.{Filled}
use Rattle.filled_spans.proofs.FilledKept.{OnlyOccupancy, only_field, only_belongs}
use Rattle.homes.specs.Homes.{AtHome, Near, Whole, Loose}

-- span s has the class, owner and count in u that it has in t
pub record SameRecord (t u : Tables) (s : ℕ) : Type 0 where
  pub class : class_at u s ≡ class_at t s
  pub owner : owner_at u s ≡ owner_at t s
  pub occupied : occupied_at u s ≡ occupied_at t s

-- these decide where it may be at home
pub home_as : {g : Shape} {t u : Tables} {s c d : ℕ} → SameRecord t u s → d ≡ c → AtHome g t s c → AtHome g u s d
home_as r e o =
    record {
      kind = o.kind;
      cell = e ∙ rw (r.owner, r.class) o.cell;
      fits = rw (r.owner, r.class, r.occupied) o.fits;
    }

module _ {g : Shape} {t : Tables} {home rank : ℕ → ℕ} where
  -- where every span is at home, every one is but for any one
  pub near_but : (x : ℕ) → Near g t home rank 0 → Near g t home rank x
  near_but x o = record { filled = o.filled; listed = o.listed; homes = λ s h n. o.homes s h (λ e. omega arith) }

  -- a step that moves spans between lists, and changes the home of the one span at most
  pub near_moved :
      {u : Tables} {home' rank' : ℕ → ℕ} {x : ℕ} → Near g t home rank x → Quiet t u → Filled g u → ListedIn (RowName g) u home' rank' →
      ((s : ℕ) → (s + 1 ≡ x → ⊥) → home' s ≡ home s) → Near g u home' rank' x
  near_moved o q f l same =
      record {
        filled = f;
        listed = l;
        homes =
            λ s h n.
            home_as (record { class = quiet_class q s; owner = quiet_owner q s; occupied = quiet_occupied q s }) (same s n)
            (o.homes s (rw q.used at h) n);
      }

  -- a step that changes the occupancy of one span alone, where that span is the one that need not be at home, or keeps its count
  pub near_recounted :
      {u : Tables} {a x : ℕ} → Near g t home rank x → OnlyOccupancy t u a → Filled g u →
      ((s : ℕ) → (s + 1 ≡ x → ⊥) → occupied_at u s ≡ occupied_at t s) → Near g u home rank x
  near_recounted {u} {a} {x} o q f same =
      record {
        filled = f;
        listed =
            listed_as (let e : t.used ≤ u.used = omega (arith, q.used) in e)
            (λ s i. only_field q s previous_field (omega arith) (λ e. omega (arith, e)))
            (λ s i. only_field q s next_field (omega arith) (λ e. omega (arith, e)))
            (λ c i. ap (λ (l : List ℕ). get_or l c 0) q.span.heads) o.listed;
        homes =
            λ s h n.
            home_as
            (record {
              class = only_field q s class_field (omega arith) (λ e. omega (arith, e));
              owner = only_field q s owner_field (omega arith) (λ e. omega (arith, e));
              occupied = same s n;
            })
            refl (o.homes s (rw q.used at h) n);
      }

  -- a step of one magazine
  pub near_counted : {u : Tables} {k : ClassHeap} {x : ℕ} → Near g t home rank x → OnlyMagazine t u k → Filled g u → Near g u home rank x
  near_counted {u} {k} {x} o q f =
      record {
        filled = f;
        listed =
            listed_as (let e : t.used ≤ u.used = omega (arith, q.used) in e) (λ s i. rw q.spans) (λ s i. rw q.spans)
            (λ c i.
            subst (λ (c : ℕ). heads_at u c ≡ heads_at t c) (sym i.cell)
            (q.heads i.row i.kind (list_in (omega (arith, i.low))) (λ e z. omega (arith, i.low))))
            o.listed;
        homes =
            λ s h n.
            home_as (record { class = rw q.spans; owner = rw q.spans; occupied = rw q.spans }) refl
            (o.homes s (rw q.used at h) n);
      }

-- every other span keeps its count where the occupancy of one changes
pub count_other : {t u : Tables} {a s : ℕ} → OnlyOccupancy t u a → (s ≡ a → ⊥) → occupied_at u s ≡ occupied_at t s
count_other {t} {u} {a} {s} q n = q.span.fields s occupied_field (omega arith) n

module _ {g : Shape} {t u : Tables} where
  -- a step of the occupancy of the one span that need not be at home
  pub loose_recounted : {k : ClassHeap} {f a : ℕ} → Loose g t k f a → OnlyOccupancy t u a → Filled g u → Loose g u k f a
  loose_recounted {k} {f} {a} o q w =
      record {
        home = o.home;
        rank = o.rank;
        near = near_recounted o.near q w (λ s n. count_other q (λ e. n (omega arith)));
        belongs = only_belongs q k a o.belongs;
        mine = o.mine;
      }

  -- a step of the bits of one span that keeps its count
  pub whole_recounted : {a : ℕ} → Whole g t → OnlyOccupancy t u a → Filled g u → occupied_at u a ≡ occupied_at t a → Whole g u
  whole_recounted {a} o q w e =
      record { home = o.home; rank = o.rank; near = near_recounted o.near q w (λ s n. same s) }
    where
      same : (s : ℕ) → occupied_at u s ≡ occupied_at t s
      same s = elim (ℕ_discrete s a) [ yes z ↦ subst (λ (x : ℕ). occupied_at u x ≡ occupied_at t x) (sym z) e | no z ↦ count_other q z ]

  -- a step of one magazine
  pub whole_counted : {k : ClassHeap} → Whole g t → OnlyMagazine t u k → Filled g u → Whole g u
  whole_counted o q w = record { home = o.home; rank = o.rank; near = near_counted o.near q w }

  -- the same where one span need not be at home
  pub loose_counted : {k l : ClassHeap} {f a : ℕ} → Loose g t k f a → OnlyMagazine t u l → Filled g u → Loose g u k f a
  loose_counted {k} {l} {f} {a} o q w =
      record {
        home = o.home;
        rank = o.rank;
        near = near_counted o.near q w;
        belongs =
            record { used = rw q.used o.belongs.used; class = rw q.spans o.belongs.class; owner = rw q.spans o.belongs.owner };
        mine = o.mine;
      }

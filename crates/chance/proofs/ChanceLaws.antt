-- Demand 3: chance picks the place of a block, and neither an answer nor a count. Each call of a list follows the model of counts, which sees of the words
-- how many are lent, so two runs with equally many words meet the same answers and counts. Assumes nothing.
use mathlib.Core.Path.{◌≡◌, refl, sym, subst, ◌∙◌}
use mathlib.Core.Bool.{true}
use mathlib.Core.List.{List, [], ◌∷◌}
use Prim.Native.Nat.{ℕ, suc, ◌*◌, ◌^◌, ◌<◌, ◌≤◌}
use native.Mathlib.Omega.{arith}
use native.Mathlib.Nat.{not-suc-le-zero}
use native.Mathlib.Decide.{dec_lt}
use lib.ListN.{length, length-replicate}
use Rattle.laws.specs.Choice.{sum}
use Rattle.laws.specs.Members.{Mem}
use Rattle.size_classes.specs.SlotSizes.{Admissible}
use Rattle.size_classes.specs.Slots.{most_slots}
use Rattle.size_classes.proofs.SlotSizeLaws.{slot_sizes_admissible}
use Rattle.tables.specs.Shape.{Shape, classes, class_heap, base_shape, most_spans}
use Rattle.tables.specs.Cells.{Tables, as_stated, fresh_tables, count_at}
use Rattle.tables.proofs.StatedLaws.{stated_passed, stated_passes}
use Rattle.sound_laws.proofs.FreshSound.{fresh_sound}
use Rattle.homes.proofs.SoundWhole.{sound_whole}
use Rattle.laws.specs.Pairs.{passing, pairs}
use Rattle.chance.specs.Counts.{Counts, no_counts}
use Rattle.chance.specs.Chance.{row_in, Request, allocating, freeing, neither, State, begin, step, Allowed, Ruled, Alike, SameWords, count_step}
use Rattle.chance.proofs.ModelLaws.{same_row}
use Rattle.chance.proofs.Follows.{Follows, Fits, free_fits}
use Rattle.chance.proofs.FollowsAllocate.{allocate_fits}

-- ---- a fresh table

-- It is as stated where the lent one is.
pub fresh_stated : (g : Shape) (t : Tables) → as_stated g t ≡ true → as_stated g (fresh_tables t) ≡ true
unfolding fresh_tables
fresh_stated g t e =
    let x = stated_passed g t e in
    stated_passes g (fresh_tables t)
    (record {
      shape = x.shape;
      lengths =
          record {
            bits = length-replicate (length t.bits) 0 ∙ x.lengths.bits;
            spans = length-replicate (length t.spans) 0 ∙ x.lengths.spans;
            entries = length-replicate (length t.entries) 0 ∙ x.lengths.entries;
            heads = length-replicate (length t.heads) 0 ∙ x.lengths.heads;
          };
    })

-- No span is used, and so no entry stands in a magazine.
fresh_used_lem : (t : Tables) → (fresh_tables t).used ≡ 0
unfolding fresh_tables
fresh_used_lem t = refl

fresh_count : (g : Shape) (t : Tables) (h c : ℕ) → h < g.heaps → c < classes g → count_at (fresh_tables t) (class_heap g h c) ≡ 0
fresh_count g t h c hh hc =
    let n = count_at (fresh_tables t) (class_heap g h c) in
    elim (dec_lt 0 n) [
      | yes l ↦
          absurd
          (let z : ⊥ = omega (arith, fresh_used_lem t, (((fresh_sound g t).class_heaps h hh c hc).magazine.entries 0 l).belongs.used) in z)
      | no l ↦ let e : n ≡ 0 = omega arith in e
    ]

module _ (g : Shape) (small : g.spans * most_slots ≤ 2 ^ 64) where
  -- It has the model's counts.
  pub fresh_follows : (t : Tables) → Admissible g.sizes → as_stated g t ≡ true → Follows g (begin t) no_counts
  unfolding row_in passing pairs sum fresh_tables
  fresh_follows t sizes stated =
      record {
        whole = sound_whole g (fresh_tables t) sizes (fresh_stated g t stated) (fresh_sound g t);
        rows = λ h c hh hc. same_row (row_in g (fresh_tables t) h c) 0 0 0 (fresh_count g t h c hh hc) refl refl;
        used = refl;
        made = refl;
        freed = refl;
        out = λ n l. absurd (not-suc-le-zero l.earlier);
        apart = λ n n' l l' e. absurd (not-suc-le-zero l.earlier);
      }

  -- ---- each call follows the model

  -- A call answers the model's number, and leaves the model's counts, of the words of which the model sees how many there are.
  pub follow :
      (s : State) (m : Counts) → Follows g s m → (r : Request) → Allowed g s r → (ws : List ℕ) → Fits g (step g s r ws) (count_step g m r (length ws))
  unfolding step count_step
  follow s m f (allocating heap size alignment) allowed ws = allocate_fits g small s m f heap size alignment ws
  follow s m f (freeing heap n) allowed ws = free_fits g small s m f heap n allowed
  follow s m f neither allowed ws = record { number = refl; follows = f }

  -- ---- two runs

  -- What is allowed in a state is allowed in another with the same counts.
  pub same_allowed : (s u : State) (m : Counts) → Follows g s m → Follows g u m → (r : Request) → Allowed g s r → Allowed g u r
  same_allowed s u m f e (allocating heap size alignment) a = tt
  same_allowed s u m f e neither a = tt
  same_allowed s u m f e (freeing heap n) a =
      record {
        earlier = omega (arith, a.earlier, f.made, e.made);
        once = λ l i. a.once l (subst (Mem n) (e.freed ∙ sym f.freed) i);
      }

  runs_alike :
      (rs : List Request) (s u : State) (m : Counts) (v w : ℕ → List ℕ) → Follows g s m → Follows g u m → SameWords rs v w → Ruled g s rs v →
      Alike g s u rs v w
  runs_alike [] s u m v w f e n a = tt
  runs_alike (r ∷ rs) s u m v w f e n a =
      let x = follow s m f r a.0 (v 0) in
      let y : Fits g (step g u r (w 0)) (count_step g m r (length (v 0))) =
      rw (n 0 (omega arith)) (follow u m e r (same_allowed s u m f e r a.0) (w 0)) in (
        record {
          number = x.number ∙ sym y.number;
          rows = λ h c hh hc. x.follows.rows h c hh hc ∙ sym (y.follows.rows h c hh hc);
        },
        runs_alike rs _ _ _ (λ i. v (suc i)) (λ i. w (suc i)) x.follows y.follows (λ i l. n (suc i) (omega arith)) a.1,
      )

-- Demand 3 for any admissible list of slot sizes, if each block has an entry that is a number of 64 bits.
pub chance_any :
    (g : Shape) → Admissible g.sizes → g.spans * most_slots ≤ 2 ^ 64 → (t u : Tables) → as_stated g t ≡ true → as_stated g u ≡ true →
    (rs : List Request) (v w : ℕ → List ℕ) → SameWords rs v w → Ruled g (begin t) rs v → Alike g (begin t) (begin u) rs v w
chance_any g sizes small t u a b rs v w n r =
    runs_alike g small rs (begin t) (begin u) no_counts v w (fresh_follows g small t sizes a) (fresh_follows g small u sizes b) n r

-- In a table of 01's limit each block has an entry that is a number of 64 bits.
pub base_few : (heaps spans : ℕ) (t : Tables) → as_stated (base_shape heaps spans) t ≡ true → spans * most_slots ≤ 2 ^ 64
unfolding most_slots most_spans
base_few heaps spans t e = omega (arith, (stated_passed (base_shape heaps spans) t e).shape.few_spans)

-- Demand 3: one list of calls, run from two fresh tables of one size with two families of words, equally many at each call, meets at each call the same
-- acceptance or refusal number, and leaves each heap and class equally many cached blocks, blocks out and spans.
pub chance :
    (heaps spans : ℕ) (t u : Tables) → as_stated (base_shape heaps spans) t ≡ true → as_stated (base_shape heaps spans) u ≡ true →
    (rs : List Request) (v w : ℕ → List ℕ) → SameWords rs v w → Ruled (base_shape heaps spans) (begin t) rs v →
    Alike (base_shape heaps spans) (begin t) (begin u) rs v w
chance heaps spans t u a b rs v w n r =
    chance_any (base_shape heaps spans) slot_sizes_admissible (base_few heaps spans t a) t u a b rs v w n r

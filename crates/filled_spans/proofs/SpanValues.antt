-- One used span of a filled table as values: its cells are there, its occupancy is right, and its pending slots are taken; and values give back
-- cells. Assumes nothing.
use mathlib.Core.Path.{◌≡◌, sym, ap, subst, ◌∙◌}
use mathlib.Core.Bool.{Bool, true, not, cond}
use mathlib.Core.Logic.{⊎_elim}
use Prim.Native.Nat.{ℕ, ◌-◌, ◌/◌, ◌%◌, ◌^◌, ◌<◌, ◌≤◌}
use native.Mathlib.Nat.{mul-le-mul_right, lt_of_lt_of_le}
use native.Mathlib.Decide.{ℕ_discrete}
use native.Mathlib.Omega.{arith}
use lib.Dec.{eqb}
use lib.ListN.{length, drop, get_or}
use lib.Seq.{get_or-take, get_or-drop, ext_get_or}
use Rattle.laws.specs.Word.{is_set}
use Rattle.laws.proofs.BitLaws.{lt_or_le}
use Rattle.laws.proofs.SumLaws.{sum_same}
use Rattle.size_classes.specs.SlotSizes.{slot_size}
use Rattle.size_classes.specs.Slots.{most_slots}
use Rattle.size_classes.proofs.SlotTheorems.{slots_most}
use Rattle.occupancy.specs.Occupied.{occupancy, word_of}
use Rattle.occupancy.specs.Right.{is_taken, Right, Pending}
use Rattle.tables.specs.Shape.{Shape, classes, class_heap, bitmap_cells, record_cells}
use Rattle.tables.specs.Cells.{Tables, bitmap_cell, bitmap_word, local_summary, local_word, remote_summary, remote_word, class_at, owner_at, occupied_at}
use Rattle.tables.proofs.CellLaws.{bitmap_next, local_in, remote_in, summaries_in}
use Rattle.tables.proofs.StatedLaws.{stated_passed}
use Rattle.span.specs.Span.{loaded, local_words, pending_words}
use Rattle.span.specs.State.{is_occupied, is_pending}
use Rattle.span.specs.Room.{WordCells, SpanCells, Foldable}
use Rattle.span.proofs.CellsThere.{local_there, part_long}
use Rattle.sound.specs.Sound.{home_of, SpanFilled}
use Rattle.sound.specs.Filled.{Filled}

-- A slot's word is one of 64.
pub slot_place : {q : ℕ} → q < most_slots → q / 64 < 64
unfolding most_slots
slot_place h = omega arith

-- A slot is one of 64 words of 64 bits, and one of those is a slot.
pub slot_below : {q : ℕ} → q < most_slots → q < 4096
unfolding most_slots
slot_below h = h

pub below_slot : {q : ℕ} → q < 4096 → q < most_slots
unfolding most_slots
below_slot h = h

-- No class has more slots than a span can have.
pub class_most : (g : Shape) (h c : ℕ) → (class_heap g h c).slots ≤ most_slots
unfolding class_heap
class_most g h c = slots_most (slot_size g.sizes c)

pub home_most : (g : Shape) (t : Tables) (s : ℕ) → (home_of g t s).slots ≤ most_slots
home_most g t s = class_most g (owner_at t s) (class_at t s)

pub class_within : (g : Shape) (h c : ℕ) → (class_heap g h c).slots ≤ 4096
unfolding most_slots
class_within g h c = class_most g h c

module _ (t : Tables) (s : ℕ) where
  -- A word of the loaded occupancy is the span's local word, and a pending word its remote word.
  pub loaded_word : (i : ℕ) → i < 64 → word_of (loaded t s) i ≡ bitmap_word t s (local_word i)
  loaded_word i h =
      get_or-take 64 (drop (bitmap_cell s (local_word 0)) t.bits) i 0 h
      ∙ get_or-drop (bitmap_cell s (local_word 0)) t.bits i 0
      ∙ ap (λ (z : ℕ). get_or t.bits z 0) (sym (bitmap_next s 1 i))

  pub pending_word : (i : ℕ) → i < 64 → get_or (pending_words t s) i 0 ≡ bitmap_word t s (remote_word i)
  pending_word i h =
      get_or-take 64 (drop (bitmap_cell s (remote_word 0)) t.bits) i 0 h
      ∙ get_or-drop (bitmap_cell s (remote_word 0)) t.bits i 0
      ∙ ap (λ (z : ℕ). get_or t.bits z 0) (sym (bitmap_next s 66 i))

  -- A slot is taken in the loaded occupancy exactly when its bit is set, and pending in the pending words exactly when its remote bit is.
  pub taken_occupied : (q : ℕ) → q < most_slots → is_taken (loaded t s) q ≡ is_occupied t s q
  taken_occupied q h = ap (λ (z : ℕ). is_set z (q % 64)) (loaded_word (q / 64) (slot_place h))

  pub listed_pending : (q : ℕ) → q < most_slots → is_set (get_or (pending_words t s) (q / 64) 0) (q % 64) ≡ is_pending t s q
  listed_pending q h = ap (λ (z : ℕ). is_set z (q % 64)) (pending_word (q / 64) (slot_place h))

-- An occupancy whose cells stay is loaded as before.
pub same_loaded :
    (t u : Tables) (s : ℕ) →
    WordCells t.bits s →
    length u.bits ≡ length t.bits →
    ((i : ℕ) → i < remote_summary → bitmap_word u s i ≡ bitmap_word t s i) →
    occupied_at u s ≡ occupied_at t s →
    loaded u s ≡ loaded t s
same_loaded t u s cells lengths word count =
    let there : WordCells u.bits s = record { there = rw lengths cells.there } in
    let after : length (local_words u s) ≡ 64 = part_long u.bits (bitmap_cell s (local_word 0)) (local_there u.bits s there) in
    let before : length (local_words t s) ≡ 64 = part_long t.bits (bitmap_cell s (local_word 0)) (local_there t.bits s cells) in
    let words : local_words u s ≡ local_words t s =
    ext_get_or 0 (local_words u s) (local_words t s) (after ∙ sym before)
    (λ i l.
    let h : i < 64 = omega arith in
    loaded_word u s i h ∙ word (local_word i) (omega arith) ∙ sym (loaded_word t s i h)) in
    λ i. occupancy (word local_summary (omega arith) i) (words i) (count i)

-- ---- from cells to values

module _ (g : Shape) (t : Tables) (f : Filled g t) where
  -- The cells of every span that the table may have are there.
  cells_below : (s : ℕ) → s < g.spans → SpanCells t.bits t.spans s
  cells_below s h =
      let lengths = (stated_passed g t f.stated).lengths in
      record {
        words = record { there = rw lengths.bits (mul-le-mul_right bitmap_cells h) };
        fields = record { there = rw lengths.spans (mul-le-mul_right record_cells h) };
      }

  -- The cells of a used span are there.
  pub filled_cells : (s : ℕ) → s < t.used → SpanCells t.bits t.spans s
  filled_cells s h = cells_below s (lt_of_lt_of_le h f.within)

  -- And those of the next span, where one is unused.
  pub next_cells : t.used < g.spans → SpanCells t.bits t.spans t.used
  next_cells h = cells_below t.used h

  module _ (s : ℕ) (h : s < t.used) where
    -- The occupancy of a used span is right.
    pub filled_right : Right (home_of g t s).slots (loaded t s)
    filled_right =
        let c = f.spans s h in
        record {
          within = class_within g (owner_at t s) (class_at t s);
          long = part_long t.bits (bitmap_cell s (local_word 0)) (local_there t.bits s (filled_cells s h).words);
          small = λ i l. rw (loaded_word t s i l) (c.word (local_word i) (local_in l));
          top = c.word local_summary (summaries_in (omega arith));
          full = λ i l. rw (loaded_word t s i l) (c.summary i l);
          past = λ q l p. taken_occupied t s q (below_slot l) ∙ c.past q (below_slot l) p;
          counted =
              c.occupied
              ∙ sym
              (sum_same (home_of g t s).slots (λ q. cond (is_taken (loaded t s) q) 1 0) (λ q. cond (is_occupied t s q) 1 0)
              (λ q l. ap (λ (b : Bool). cond b 1 0) (taken_occupied t s q (lt_of_lt_of_le l (home_most g t s)))));
        }

    -- Its pending slots are taken slots of it.
    pub filled_pending : Pending (home_of g t s).slots (loaded t s) 0 (pending_words t s)
    filled_pending =
        let c = f.spans s h in
        record {
          small = λ i l. rw (pending_word t s i l) (c.word (remote_word i) (remote_in l));
          held =
              λ q l u e.
              let k = c.pending q (below_slot u) (sym (listed_pending t s q (below_slot u)) ∙ e) in
              (k.0, taken_occupied t s q (below_slot u) ∙ k.1);
        }

    -- So its pending slots may be folded in.
    pub filled_foldable : Foldable (home_of g t s).slots t.bits t.spans s
    filled_foldable = record { right = filled_right; pending = filled_pending }

-- ---- from values to cells

-- what is right of the remote words of span s, which has so many slots
pub record RemoteRight (t : Tables) (s slots : ℕ) : Type 0 where
  pub word : (i : ℕ) → remote_summary ≤ i → i < bitmap_cells → bitmap_word t s i < 2 ^ 64
  pub summary : (i : ℕ) → i < 64 → is_set (bitmap_word t s remote_summary) i ≡ not (eqb (bitmap_word t s (remote_word i)) 0)
  pub held : (q : ℕ) → q < most_slots → is_pending t s q ≡ true → (q < slots) × (is_occupied t s q ≡ true)

-- A span is filled where its class and owner are valid, its occupancy is right and its remote words are.
pub span_filled_lem :
    (g : Shape) (t : Tables) (s : ℕ) →
    class_at t s < classes g →
    owner_at t s < g.heaps →
    Right (home_of g t s).slots (loaded t s) →
    RemoteRight t s (home_of g t s).slots →
    SpanFilled g t s
span_filled_lem g t s class owner r m =
    record {
      class = class;
      owner = owner;
      word = λ i h. ⊎_elim (λ l. local i l (ℕ_discrete i 0)) (λ l. m.word i l h) (lt_or_le i remote_summary);
      occupied =
          r.counted
          ∙ sum_same (home_of g t s).slots (λ q. cond (is_taken (loaded t s) q) 1 0) (λ q. cond (is_occupied t s q) 1 0)
          (λ q l. ap (λ (b : Bool). cond b 1 0) (taken_occupied t s q (lt_of_lt_of_le l (home_most g t s))));
      past = λ q l p. sym (taken_occupied t s q l) ∙ r.past q (slot_below l) p;
      summary = λ i l. rw (loaded_word t s i l) at (r.full i l);
      remote = m.summary;
      pending = m.held;
    }
  where
    local : (i : ℕ) → i < remote_summary → Dec (i ≡ 0) → bitmap_word t s i < 2 ^ 64
    local i l (yes e) = subst (λ (z : ℕ). bitmap_word t s z < 2 ^ 64) (sym e) r.top
    local i l (no n) =
        let e : local_word (i - 1) ≡ i = omega arith in
        subst (λ (z : ℕ). bitmap_word t s z < 2 ^ 64) e
        (subst (λ (z : ℕ). z < 2 ^ 64) (loaded_word t s (i - 1) (omega arith)) (r.small (i - 1) (omega arith)))

-- The remote words of a used span are right.
pub filled_remote : (g : Shape) (t : Tables) → Filled g t → (s : ℕ) → s < t.used → RemoteRight t s (home_of g t s).slots
filled_remote g t f s h =
    let c = f.spans s h in
    record { word = λ i l u. c.word i u; summary = c.remote; held = c.pending }

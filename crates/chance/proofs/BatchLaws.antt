-- Demand 3 for a batch. Assumes nothing.
use mathlib.Core.Path.{◌≡◌, refl, sym, ap, subst, ◌∙◌}
use mathlib.Core.Bool.{true}
use mathlib.Core.List.{List, [], ◌∷◌}
use Prim.Native.Nat.{ℕ, zero, suc, ◌+◌, ◌*◌, ◌/◌, ◌%◌, ◌^◌, ◌<◌, ◌≤◌}
use native.Mathlib.Omega.{arith}
use native.Mathlib.Decide.{ℕ_discrete}
use native.Mathlib.Nat.{mul-div_cancel, mul-mod_left, zero-add}
use lib.ListN.{length, get_or, set}
use lib.Seq.{length-sets, get_or-set_same, get_or-set_other}
use borrow.Author.Tests.{eq-eqb, le-leb}
use Rattle.laws.proofs.TestLaws.{and_so}
use Rattle.size_classes.specs.SlotSizes.{Admissible}
use Rattle.size_classes.specs.Slots.{most_slots}
use Rattle.size_classes.proofs.SlotSizeLaws.{slot_sizes_admissible}
use Rattle.tables.specs.Shape.{Shape, classes, base_shape}
use Rattle.tables.specs.Cells.{Tables, as_stated, fresh_tables}
use Rattle.sound_laws.proofs.SoundTested.{sound_passes}
use Rattle.sound_laws.proofs.FreshSound.{fresh_sound}
use Rattle.homes.specs.Homes.{Whole}
use Rattle.calls.specs.Outcome.{Outcome}
use Rattle.calls.specs.Calls.{words_needed}
use Rattle.calls.specs.Run.{Call, allocation, release, malformed, perform, perform_sound}
use Rattle.calls.specs.Batch.{words_from, word_step, record_bytes, record_call, answer_cells, answered, Batched, batch_from, whole_records, batch}
use Rattle.chance.specs.Counts.{Counts, no_counts}
use Rattle.chance.specs.Chance.{row_in, Request, allocating, freeing, neither, State, begin, allocated, released, call_of, leaves, step, Ruled, SameWords, count_step}
use Rattle.chance.specs.ChanceBatch.{words_of, Written, Records, SameBatch}
use Rattle.chance.proofs.CallAnswers.{allocate_sound_lem, free_sound_lem}
use Rattle.chance.proofs.Follows.{Follows, Fits}
use Rattle.chance.proofs.ChanceLaws.{fresh_stated, fresh_follows, follow, same_allowed, base_few}

-- A seed gives as many words as an allocation needs.
words_length : (n seed : ℕ) → length (words_from n seed) ≡ n
unfolding words_from
words_length zero seed = refl
words_length (suc n) seed = ap suc (words_length n ((seed + word_step) % 2 ^ 64))

-- ---- the cells of answers

module _ (l : List ℕ) (i : ℕ) (o : Outcome) where
  -- An answer leaves the cells before it,
  answer_before : (j : ℕ) → j < i * answer_cells → get_or (answered l i o) j 0 ≡ get_or l j 0
  answer_before j h =
      let p = i * answer_cells in
      get_or-set_other (set (set l p o.answer.number) (suc p) o.answer.span) (suc (suc p)) j o.answer.offset 0 (λ e. omega arith)
      ∙ get_or-set_other (set l p o.answer.number) (suc p) j o.answer.span 0 (λ e. omega arith)
      ∙ get_or-set_other l p j o.answer.number 0 (λ e. omega arith)

  -- and has its number first.
  answer_number : i * answer_cells < length l → get_or (answered l i o) (i * answer_cells) 0 ≡ o.answer.number
  answer_number h =
      let p = i * answer_cells in
      get_or-set_other (set (set l p o.answer.number) (suc p) o.answer.span) (suc (suc p)) p o.answer.offset 0 (λ e. omega arith)
      ∙ get_or-set_other (set l p o.answer.number) (suc p) p o.answer.span 0 (λ e. omega arith)
      ∙ get_or-set_same l p o.answer.number 0 h

  -- The cells are as many as before.
  answer_length : length (answered l i o) ≡ length l
  answer_length = length-sets l (i * answer_cells) (o.answer.number ∷ o.answer.span ∷ o.answer.offset ∷ [])

-- The records of a batch leave the cells before their own answers.
batch_before :
    (n i : ℕ) (g : Shape) (t : Tables) (bytes answers : List ℕ) (j : ℕ) → j < i * answer_cells →
    get_or (batch_from n i g t bytes answers).answers j 0 ≡ get_or answers j 0
unfolding batch_from answer_cells
batch_before zero i g t bytes answers j h = refl
batch_before (suc n) i g t bytes answers j h =
    let o = perform_sound g t (record_call bytes (i * record_bytes)) in
    batch_before n (i + 1) g o.table bytes (answered answers i o) j (omega arith) ∙ answer_before answers i o j h

-- ---- a record's call

module _ (g : Shape) (small : g.spans * most_slots ≤ 2 ^ 64) where
  -- On a whole table a call is what it is on a sound one.
  on_sound : {t : Tables} → Whole g t → (c : Call) → perform g t c ≡ perform_sound g t c
  on_sound o (allocation heap size alignment words) = allocate_sound_lem g small o heap size alignment words
  on_sound o (release heap s offset) = free_sound_lem g small o heap s offset
  on_sound o malformed = refl

  -- What a call leaves has its outcome's number and table.
  leaves_number : (s : State) (r : Request) (o : Outcome) → (leaves s r o).number ≡ o.answer.number
  unfolding allocated released
  leaves_number s (allocating heap size alignment) o = refl
  leaves_number s (freeing heap n) o = refl
  leaves_number s neither o = refl

  leaves_table : (s : State) (r : Request) (o : Outcome) → (leaves s r o).state.table ≡ o.table
  unfolding allocated released
  leaves_table s (allocating heap size alignment) o = refl
  leaves_table s (freeing heap n) o = refl
  leaves_table s neither o = refl

  module _ (s : State) (o : Whole g s.table) (r : Request) (ws : List ℕ) (c : Call) (e : c ≡ call_of s r ws) where
    same_outcome : perform g s.table (call_of s r ws) ≡ perform_sound g s.table c
    same_outcome = on_sound o (call_of s r ws) ∙ ap (perform_sound g s.table) (sym e)

    record_number : (step g s r ws).number ≡ (perform_sound g s.table c).answer.number
    unfolding step
    record_number = leaves_number s r _ ∙ ap (λ (x : Outcome). x.answer.number) same_outcome

    record_table : (step g s r ws).state.table ≡ (perform_sound g s.table c).table
    unfolding step
    record_table = leaves_table s r _ ∙ ap (λ (x : Outcome). x.table) same_outcome

  -- ---- two batches

  record Agree (i n : ℕ) (a b : Batched) : Type 0 where
    numbers : (j : ℕ) → i ≤ j → j < i + n → get_or a.answers (j * answer_cells) 0 ≡ get_or b.answers (j * answer_cells) 0
    rows : (h c : ℕ) → h < g.heaps → c < classes g → row_in g a.table h c ≡ row_in g b.table h c

  -- a record more before those that agree
  agree_turn :
      (n i : ℕ) (x y k l : List ℕ) (o₁ o₂ : Outcome) → o₁.answer.number ≡ o₂.answer.number → i * answer_cells < length k → i * answer_cells < length l →
      Agree (i + 1) n (batch_from n (i + 1) g o₁.table x (answered k i o₁)) (batch_from n (i + 1) g o₂.table y (answered l i o₂)) →
      Agree i (suc n) (batch_from n (i + 1) g o₁.table x (answered k i o₁)) (batch_from n (i + 1) g o₂.table y (answered l i o₂))
  unfolding answer_cells
  agree_turn n i x y k l o₁ o₂ e p q a =
      record {
        numbers =
            λ j b d.
            elim (ℕ_discrete i j) [
              | yes z ↦
                  subst
                  (λ (j : ℕ).
                  get_or (batch_from n (i + 1) g o₁.table x (answered k i o₁)).answers (j * answer_cells) 0
                  ≡ get_or (batch_from n (i + 1) g o₂.table y (answered l i o₂)).answers (j * answer_cells) 0)
                  z
                  (batch_before n (i + 1) g o₁.table x (answered k i o₁) (i * answer_cells) (omega arith)
                  ∙ answer_number k i o₁ p ∙ e ∙ sym (answer_number l i o₂ q)
                  ∙ sym (batch_before n (i + 1) g o₂.table y (answered l i o₂) (i * answer_cells) (omega arith)))
              | no z ↦ a.numbers j (omega arith) (omega arith)
            ];
        rows = a.rows;
      }

  -- Two batches of the same requests, from states with the same counts.
  batches_agree :
      (rs : List Request) (s u : State) (m : Counts) (v w : ℕ → List ℕ) → Follows g s m → Follows g u m → SameWords rs v w → Ruled g s rs v →
      (i : ℕ) (x y k l : List ℕ) → (i + length rs) * answer_cells ≤ length k → (i + length rs) * answer_cells ≤ length l →
      Written g s rs v x i → Written g u rs w y i →
      Agree i (length rs) (batch_from (length rs) i g s.table x k) (batch_from (length rs) i g u.table y l)
  unfolding batch_from answer_cells
  batches_agree [] s u m v w f e n a i x y k l p q xs ys =
      record { numbers = λ j c d. absurd (let z : ⊥ = omega arith in z); rows = λ h c hh hc. f.rows h c hh hc ∙ sym (e.rows h c hh hc) }
  batches_agree (r ∷ rs) s u m v w f e n a i x y k l p q xs ys =
      let here = follow g small s m f r a.0 (v 0) in
      let there : Fits g (step g u r (w 0)) (count_step g m r (length (v 0))) =
      rw (n 0 (omega arith)) (follow g small u m e r (same_allowed g small s u m f e r a.0) (w 0)) in
      let c = record_call x (i * record_bytes) in
      let d = record_call y (i * record_bytes) in
      let o₁ = perform_sound g s.table c in
      let o₂ = perform_sound g u.table d in
      let number : o₁.answer.number ≡ o₂.answer.number =
      sym (record_number s f.whole r (v 0) c xs.0) ∙ here.number ∙ sym there.number ∙ record_number u e.whole r (w 0) d ys.0 in
      let room : (b : List ℕ) (o : Outcome) → (i + suc (length rs)) * answer_cells ≤ length b → (i + 1 + length rs) * answer_cells ≤ length (answered b i o) =
      λ b o h. rw (answer_length b i o) (omega arith) in
      let rest =
      batches_agree rs (step g s r (v 0)).state (step g u r (w 0)).state (count_step g m r (length (v 0))).counts (λ j. v (suc j)) (λ j. w (suc j))
      here.follows there.follows (λ j h. n (suc j) (omega arith)) a.1 (i + 1) x y (answered k i o₁) (answered l i o₂) (room k o₁ p) (room l o₂ q)
      xs.1 ys.1 in
      agree_turn (length rs) i x y k l o₁ o₂ number (omega arith) (omega arith)
      (subst
      (λ (z : Tables).
      Agree (i + 1) (length rs) (batch_from (length rs) (i + 1) g o₁.table x (answered k i o₁)) (batch_from (length rs) (i + 1) g z y (answered l i o₂)))
      (record_table u e.whole r (w 0) d ys.0)
      (subst
      (λ (z : Tables).
      Agree (i + 1) (length rs) (batch_from (length rs) (i + 1) g z x (answered k i o₁))
      (batch_from (length rs) (i + 1) g (step g u r (w 0)).state.table y (answered l i o₂)))
      (record_table s f.whole r (v 0) c xs.0) rest))

-- ---- the batches

-- The records of a batch are answered, and the batch is accepted.
accepted : (n i : ℕ) (g : Shape) (t : Tables) (bytes answers : List ℕ) → (batch_from n i g t bytes answers).number ≡ 0
unfolding batch_from
accepted zero i g t bytes answers = refl
accepted (suc n) i g t bytes answers =
    let o = perform_sound g t (record_call bytes (i * record_bytes)) in accepted n (i + 1) g o.table bytes (answered answers i o)

module _ (bytes answers : List ℕ) (n : ℕ) (long : length bytes ≡ n * record_bytes) (room : n * answer_cells ≤ length answers) where
  -- So many bytes are so many records,
  as_many : length bytes / record_bytes ≡ n
  as_many = ap (λ (z : ℕ). z / record_bytes) long ∙ mul-div_cancel n (let e : 0 < record_bytes = unfold record_bytes in omega arith in e)

  -- and not refused with 10.
  no_ten : whole_records bytes answers ≡ true
  unfolding whole_records
  no_ten =
      and_so _ _ (eq-eqb (length bytes % record_bytes) 0 (ap (λ (z : ℕ). z % record_bytes) long ∙ mul-mod_left n record_bytes))
      (le-leb (length bytes / record_bytes * answer_cells) (length answers) (rw as_many room))

  -- A batch on a fresh table is its records.
  whole_batch : (g : Shape) (t : Tables) → as_stated g t ≡ true → batch g (fresh_tables t) bytes answers ≡ batch_from n 0 g (fresh_tables t) bytes answers
  unfolding batch
  whole_batch g t stated = rw (fresh_stated g t stated, no_ten, sound_passes g (fresh_tables t) (fresh_sound g t), as_many)

-- Demand 3 for batches of any admissible list of slot sizes.
pub chance_batch_any :
    (g : Shape) → Admissible g.sizes → g.spans * most_slots ≤ 2 ^ 64 → (t u : Tables) → as_stated g t ≡ true → as_stated g u ≡ true →
    (rs : List Request) (a b : ℕ → ℕ) (x y k l : List ℕ) → Records g (begin t) rs a x k → Records g (begin u) rs b y l →
    Ruled g (begin t) rs (words_of a) → SameBatch g (length rs) (batch g (fresh_tables t) x k) (batch g (fresh_tables u) y l)
chance_batch_any g sizes small t u c d rs a b x y k l p q r =
    let n = length rs in
    let z =
    batches_agree g small rs (begin t) (begin u) no_counts (words_of a) (words_of b) (fresh_follows g small t sizes c) (fresh_follows g small u sizes d)
    (λ i h. words_length words_needed (a i) ∙ sym (words_length words_needed (b i))) r 0 x y k l (rw zero-add p.room) (rw zero-add q.room)
    p.written q.written in
    rw (whole_batch x k n p.long p.room g t c, whole_batch y l n q.long q.room g u d)
    (record {
      first = accepted n 0 g (fresh_tables t) x k;
      second = accepted n 0 g (fresh_tables u) y l;
      numbers = λ i h. z.numbers i (omega arith) (omega arith);
      rows = z.rows;
    })

-- Demand 3 for batches: two batches of the same records but for the seeds, each on a fresh table of one size, each free naming the block that the n-th
-- accepted allocation of its own batch gave, answer each record with the same number, and leave each heap and class equally many cached blocks, blocks out
-- and spans.
pub chance_batch :
    (heaps spans : ℕ) (t u : Tables) → as_stated (base_shape heaps spans) t ≡ true → as_stated (base_shape heaps spans) u ≡ true →
    (rs : List Request) (a b : ℕ → ℕ) (x y k l : List ℕ) → Records (base_shape heaps spans) (begin t) rs a x k →
    Records (base_shape heaps spans) (begin u) rs b y l → Ruled (base_shape heaps spans) (begin t) rs (words_of a) →
    SameBatch (base_shape heaps spans) (length rs) (batch (base_shape heaps spans) (fresh_tables t) x k) (batch (base_shape heaps spans) (fresh_tables u) y l)
chance_batch heaps spans t u c d rs a b x y k l p q r =
    chance_batch_any (base_shape heaps spans) slot_sizes_admissible (base_few heaps spans t c) t u c d rs a b x y k l p q r

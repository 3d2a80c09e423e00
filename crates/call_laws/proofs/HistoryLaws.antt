-- Single calls and batches, one after the other, are one list of calls: a sound table stays sound, and no block that is out is handed out again before it
-- is freed. Assumes nothing.
use mathlib.Core.Path.{◌≡◌, refl, sym, ap, ap₂, subst, ◌∙◌}
use mathlib.Core.Bool.{true, false}
use mathlib.Core.List.{List, [], ◌∷◌, ◌++◌, map}
use mathlib.Core.Logic.{◌⊎◌, inl, inr}
use Prim.Native.Nat.{ℕ, ◌*◌, ◌/◌}
use lib.ListN.{length, get_or, drop, get_or-map}
use borrow.Table.Elements.{map_app}
use Rattle.laws.proofs.FirstLaws.{tested}
use Rattle.tables.specs.Shape.{Shape}
use Rattle.tables.specs.Cells.{Tables}
use Rattle.calls.specs.declared.Answer.{Answer}
use Rattle.calls.specs.Outcome.{Outcome, refusal}
use Rattle.calls.specs.Run.{Call, allocation, release, malformed, perform, perform_sound, Ran, run_by, run, run_sound}
use Rattle.calls.specs.Batch.{record_bytes, Batched, answer_cells, whole_records}
use Rattle.sound_calls.specs.Lent.{Lent}
use Rattle.call_laws.specs.Served.{Served}
use Rattle.call_laws.specs.Runs.{Gives, Frees, call_at, answer_at, NeverTwice}
use Rattle.call_laws.specs.Batches.{batch_calls, answer_numbers}
use Rattle.call_laws.specs.Histories.{Step, single, several, answers_in, calls_of, answers_of, table_of, history_calls, history_answers, history_table}
use Rattle.call_laws.proofs.SingleLaws.{perform_sound_lem}
use Rattle.call_laws.proofs.RunLaws.{run_lent, run_sound_lem, run_then, never_twice_sound}
use Rattle.call_laws.proofs.BatchLaws.{calls_length, answers_length_lem, batch_ten_lem, batch_is_singles}

-- ---- answers but for their words

-- the number, span and offset of an answer
abbrev placed : Answer → Answer
placed a = record { number = a.number; span = a.span; offset = a.offset; words = 0 }

gives_placed : (c : Call) (a b : Answer) (s start : ℕ) → placed a ≡ placed b → Gives c a s start → Gives c b s start
gives_placed (allocation heap size alignment words) a b s start e x = (
  sym (ap (λ (r : Answer). r.number) e) ∙ x.0,
  sym (ap (λ (r : Answer). r.span) e) ∙ x.1,
  sym (ap (λ (r : Answer). r.offset) e) ∙ x.2,
)
gives_placed (release heap span offset) a b s start e x = x
gives_placed malformed a b s start e x = x

frees_placed : (c : Call) (a b : Answer) (s start : ℕ) → placed a ≡ placed b → Frees c a s start → Frees c b s start
frees_placed (allocation heap size alignment words) a b s start e x = x
frees_placed (release heap span offset) a b s start e x = (sym (ap (λ (r : Answer). r.number) e) ∙ x.0, x.1, x.2)
frees_placed malformed a b s start e x = x

module _ (answers others : List Answer) (e : map placed answers ≡ map placed others) where
  placed_at : (i : ℕ) → placed (answer_at answers i) ≡ placed (answer_at others i)
  placed_at i =
      sym (get_or-map placed answers i (refusal 0)) ∙ ap (λ (l : List Answer). get_or l i (placed (refusal 0))) e ∙ get_or-map placed others i (refusal 0)

  -- What is said of a list of answers looks at no words.
  never_twice_placed : {g : Shape} {t : Tables} {cs : List Call} → NeverTwice g t cs others → NeverTwice g t cs answers
  never_twice_placed {g} {t} {cs} n =
      let give : (i s start : ℕ) → Gives (call_at cs i) (answer_at answers i) s start → Gives (call_at cs i) (answer_at others i) s start =
      λ i s start x. gives_placed (call_at cs i) (answer_at answers i) (answer_at others i) s start (placed_at i) x in
      let free : (i s start : ℕ) → Frees (call_at cs i) (answer_at others i) s start → Frees (call_at cs i) (answer_at answers i) s start =
      λ i s start x. frees_placed (call_at cs i) (answer_at others i) (answer_at answers i) s start (sym (placed_at i)) x in
      record {
        first =
            λ j s start l m x.
            let r = n.first j s start l m (give j s start x) in
            record { when = r.when; before = r.before; freed = free r.when s start r.freed };
        again =
            λ i j s start h l x y.
            let r = n.again i j s start h l (give i s start x) (give j s start y) in
            record { when = r.when; after = r.after; before = r.before; freed = free r.when s start r.freed };
      }

-- The cells of answers, read back.
numbers_read : (answers : List Answer) (rest : List ℕ) → map placed (answers_in (length answers) (answer_numbers answers ++ rest)) ≡ map placed answers
unfolding answers_in answer_numbers answer_cells
numbers_read [] rest = refl
numbers_read (a ∷ answers) rest = ap (λ (l : List Answer). placed a ∷ l) (numbers_read answers rest)

-- ---- a step is a list of calls

-- A step answers what its calls answer, and leaves the table that they leave.
record Runs (g : Shape) (t : Tables) (p : Step) : Type 0 where
  answers : map placed (answers_of g t p) ≡ map placed (run_sound g t (calls_of p)).answers
  table : table_of g t p ≡ (run_sound g t (calls_of p)).table

module _ {g : Shape} (w : Served g) where
  several_runs : {t : Tables} → Lent g t → (bytes answers : List ℕ) → (whole_records bytes answers ≡ true) ⊎ (whole_records bytes answers ≡ false) → Runs g t (several bytes answers)
  unfolding run_by
  several_runs {t} x bytes answers (inl e) =
      let n = length bytes / record_bytes in
      let cs = batch_calls bytes in
      let given = (run g t cs).answers in
      let rest = drop (n * answer_cells) answers in
      let b = batch_is_singles w t bytes answers x.stated x.sound e in
      let r = run_sound_lem cs x in
      let len : length given ≡ n = answers_length_lem (perform g) cs t ∙ calls_length n 0 bytes in
      record {
        answers =
            rw e
            (ap (λ (b : Batched). map placed (answers_in n b.answers)) b
            ∙ ap (λ (m : ℕ). map placed (answers_in m (answer_numbers given ++ rest))) (sym len)
            ∙ numbers_read given rest
            ∙ ap (λ (r : Ran). map placed r.answers) r);
        table = rw e (ap (λ (b : Batched). b.table) b ∙ ap (λ (r : Ran). r.table) r);
      }
  several_runs {t} x bytes answers (inr e) =
      record { answers = rw e refl; table = rw e (ap (λ (b : Batched). b.table) (batch_ten_lem g t bytes answers x.stated e)) }

  step_runs : {t : Tables} → Lent g t → (p : Step) → Runs g t p
  unfolding run_by
  step_runs x (single call) =
      record {
        answers = ap (λ (o : Outcome). placed o.answer ∷ []) (perform_sound_lem x call);
        table = ap (λ (o : Outcome). o.table) (perform_sound_lem x call);
      }
  step_runs x (several bytes answers) = several_runs x bytes answers (tested (whole_records bytes answers))

  -- ---- and so are steps one after the other

  -- They leave the table that their calls leave.
  pub history_table_lem : (ps : List Step) {t : Tables} → Lent g t → history_table g t ps ≡ (run_sound g t (history_calls ps)).table
  unfolding history_table history_calls run_by
  history_table_lem [] x = refl
  history_table_lem (p ∷ ps) {t} x =
      let e = (step_runs x p).table in
      ap (λ (u : Tables). history_table g u ps) e
      ∙ history_table_lem ps (run_lent (calls_of p) x)
      ∙ sym (run_then (perform_sound g) (calls_of p) (history_calls ps) t).1

  -- They answer what their calls answer.
  history_answers_lem : (ps : List Step) {t : Tables} → Lent g t → map placed (history_answers g t ps) ≡ map placed (run_sound g t (history_calls ps)).answers
  unfolding history_answers history_calls run_by
  history_answers_lem [] x = refl
  history_answers_lem (p ∷ ps) {t} x =
      let r = step_runs x p in
      let u = (run_sound g t (calls_of p)).table in
      map_app placed (answers_of g t p) (history_answers g (table_of g t p) ps)
      ∙ ap₂ ◌++◌ r.answers (ap (λ (v : Tables). map placed (history_answers g v ps)) r.table ∙ history_answers_lem ps (run_lent (calls_of p) x))
      ∙ sym (map_app placed (run_sound g t (calls_of p)).answers (run_sound g u (history_calls ps)).answers)
      ∙ ap (map placed) (sym (run_then (perform_sound g) (calls_of p) (history_calls ps) t).0)

  -- The table after them is lent again.
  pub history_lent : (ps : List Step) {t : Tables} → Lent g t → Lent g (history_table g t ps)
  history_lent ps x = subst (Lent g) (sym (history_table_lem ps x)) (run_lent (history_calls ps) x)

  -- No block that is out is handed out.
  pub never_twice_history : (ps : List Step) {t : Tables} → Lent g t → NeverTwice g t (history_calls ps) (history_answers g t ps)
  never_twice_history ps {t} x =
      never_twice_placed (history_answers g t ps) (run_sound g t (history_calls ps)).answers (history_answers_lem ps x)
      (never_twice_sound (history_calls ps) x)

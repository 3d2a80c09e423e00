-- Lists of calls: a sound table stays sound, and no block that is out is handed out again before it is freed. Assumes nothing.
use mathlib.Core.Path.{◌≡◌, refl, sym, ap, ap₂, subst, ◌∙◌}
use mathlib.Core.Bool.{true≢false}
use mathlib.Core.List.{List, [], ◌∷◌, ◌++◌}
use mathlib.Core.Logic.{◌⊎◌, inl, inr, ⊎_elim}
use Prim.Native.Nat.{ℕ, zero, suc, ◌<◌}
use native.Mathlib.Decide.{ℕ_discrete}
use native.Mathlib.Omega.{arith}
use lib.ListN.{length}
use Rattle.laws.proofs.FirstLaws.{tested}
use Rattle.tables.specs.Shape.{Shape}
use Rattle.tables.specs.Cells.{Tables, as_stated}
use Rattle.sound.specs.Sound.{Sound}
use Rattle.sound.specs.Decided.{sound}
use Rattle.calls.specs.declared.Answer.{Answer}
use Rattle.calls.specs.Outcome.{Outcome, refusal}
use Rattle.calls.specs.Calls.{allocate_sound, free_sound}
use Rattle.calls.specs.Run.{Call, allocation, release, malformed, perform, perform_sound, Ran, and_then, run_by, run, run_sound}
use Rattle.sound_calls.specs.Lent.{Lent}
use Rattle.call_laws.specs.Served.{Served}
use Rattle.call_laws.specs.Answers.{Refusal, NamesOut, Returned}
use Rattle.call_laws.specs.Runs.{Gives, Frees, call_at, answer_at, FreedBetween, FreedBefore, NeverTwice}
use Rattle.call_laws.proofs.AllocationLaws.{allocate_sound_cases, given_out, given_was, given_kept}
use Rattle.call_laws.proofs.FreeLaws.{free_sound_cases, returned_kept}
use Rattle.call_laws.proofs.SingleLaws.{refusal_keeps, lent_here, allocate_cases, free_cases, perform_kept, perform_refusal, perform_sound_lem, perform_lent}

-- ---- one call on a lent table

-- A refusal leaves out what is out.
refusal_out : {g : Shape} {t : Tables} {o : Outcome} {s start : ℕ} → Refusal t o → NamesOut g t s start → NamesOut g o.table s start
refusal_out {g} {s = s} {start = start} r n = subst (λ (u : Tables). NamesOut g u s start) (sym (refusal_keeps r)) n

module _ {g : Shape} {t : Tables} (x : Lent g t) where
  -- The block that a call gives was not out, and is.
  pub call_gives :
      (c : Call) {s start : ℕ} → Gives c (perform_sound g t c).answer s start →
      (NamesOut g t s start → ⊥) × NamesOut g (perform_sound g t c).table s start
  call_gives (allocation heap size alignment words) {s} {start} e =
      let o = allocate_sound g t heap size alignment words in
      ⊎_elim
      (λ a.
      let P : ℕ → ℕ → Type 0 = λ s start. (NamesOut g t s start → ⊥) × NamesOut g o.table s start in
      let here : P o.answer.span o.answer.offset = (given_was a x, given_out a (perform_lent x (allocation heap size alignment words))) in
      subst (λ (z : ℕ). P s z) e.2 (subst (λ (z : ℕ). P z o.answer.offset) e.1 here))
      (λ r. absurd (let y : ⊥ = omega (arith, e.0, r.some) in y))
      (allocate_sound_cases x heap size alignment words)
  call_gives (release heap span offset) e = absurd e
  call_gives malformed e = absurd e

  -- A block that is out stays out, but for an accepted free that names it.
  pub call_keeps :
      (c : Call) {s start : ℕ} → NamesOut g t s start → Frees c (perform_sound g t c).answer s start ⊎ NamesOut g (perform_sound g t c).table s start
  call_keeps (allocation heap size alignment words) n =
      inr
      (⊎_elim (λ a. given_kept a (perform_lent x (allocation heap size alignment words)) n) (λ r. refusal_out r n)
      (allocate_sound_cases x heap size alignment words))
  call_keeps (release heap span offset) {s} {start} n = ⊎_elim (λ a. go a (ℕ_discrete span s) (ℕ_discrete offset start)) (λ r. inr (refusal_out r n)) (free_sound_cases x heap span offset)
    where
      go : Returned g t span offset (free_sound g t heap span offset) → Dec (span ≡ s) → Dec (offset ≡ start)
          → Frees (release heap span offset) (free_sound g t heap span offset).answer s start ⊎ NamesOut g (free_sound g t heap span offset).table s start
      go a (yes e) (yes d) = inl (a.number, e, d)
      go a (yes e) (no d) = inr (returned_kept a (perform_lent x (release heap span offset)) (λ y z. d (sym z)) n)
      go a (no e) d = inr (returned_kept a (perform_lent x (release heap span offset)) (λ y z. e (sym y)) n)
  call_keeps malformed n = inr n

-- ---- lists of calls on a lent table

module _ {g : Shape} where
  -- The table after a list of calls is lent again.
  pub run_lent : (cs : List Call) {t : Tables} → Lent g t → Lent g (run_sound g t cs).table
  unfolding run_by
  run_lent [] x = x
  run_lent (c ∷ cs) x = run_lent cs (perform_lent x c)

  -- Calls with their checks do what calls without them do.
  pub run_sound_lem : (cs : List Call) {t : Tables} → Lent g t → run g t cs ≡ run_sound g t cs
  unfolding run_by
  run_sound_lem [] x = refl
  run_sound_lem (c ∷ cs) {t} x = rw (perform_sound_lem x c) (ap (and_then (perform_sound g t c).answer) (run_sound_lem cs (perform_lent x c)))

  -- A block that is out is freed before it is given.
  out_first :
      (cs : List Call) {t : Tables} → Lent g t → (j s start : ℕ) → j < length cs → NamesOut g t s start →
      Gives (call_at cs j) (answer_at (run_sound g t cs).answers j) s start → FreedBefore cs (run_sound g t cs).answers j s start
  unfolding run_by
  out_first [] x j s start l n e = absurd (let y : ⊥ = omega arith in y)
  out_first (c ∷ cs) x zero s start l n e = absurd ((call_gives x c e).0 n)
  out_first (c ∷ cs) x (suc j) s start l n e =
      ⊎_elim (λ f. record { when = 0; before = omega arith; freed = f })
      (λ m.
      let r = out_first cs (perform_lent x c) j s start (omega arith) m e in
      record { when = suc r.when; before = omega (arith, r.before); freed = r.freed })
      (call_keeps x c n)

  -- A block that was given is freed before it is given again.
  given_again :
      (cs : List Call) {t : Tables} → Lent g t → (i j s start : ℕ) → i < j → j < length cs →
      Gives (call_at cs i) (answer_at (run_sound g t cs).answers i) s start → Gives (call_at cs j) (answer_at (run_sound g t cs).answers j) s start →
      FreedBetween cs (run_sound g t cs).answers i j s start
  unfolding run_by
  given_again [] x i j s start h l d e = absurd (let y : ⊥ = omega arith in y)
  given_again (c ∷ cs) x i zero s start h l d e = absurd (let y : ⊥ = omega arith in y)
  given_again (c ∷ cs) x zero (suc j) s start h l d e =
      let r = out_first cs (perform_lent x c) j s start (omega arith) (call_gives x c d).1 e in
      record { when = suc r.when; after = omega arith; before = omega (arith, r.before); freed = r.freed }
  given_again (c ∷ cs) x (suc i) (suc j) s start h l d e =
      let r = given_again cs (perform_lent x c) i j s start (omega arith) (omega arith) d e in
      record { when = suc r.when; after = omega (arith, r.after); before = omega (arith, r.before); freed = r.freed }

  -- No block that is out is handed out.
  pub never_twice_sound : (cs : List Call) {t : Tables} → Lent g t → NeverTwice g t cs (run_sound g t cs).answers
  never_twice_sound cs x = record { first = out_first cs x; again = given_again cs x }

-- ---- on any table

module _ {g : Shape} (w : Served g) where
  -- A list of calls leaves the table as it was, or sound.
  pub run_kept : (cs : List Call) (t : Tables) → ((run g t cs).table ≡ t) ⊎ Sound g (run g t cs).table
  unfolding run_by
  run_kept [] t = inl refl
  run_kept (c ∷ cs) t =
      ⊎_elim
      (λ e. ⊎_elim (λ d. inl (e ∙ d)) (λ o. inr (subst (Sound g) (sym e) o)) (perform_kept w t c)) inr
      (run_kept cs (perform g t c).table)

  module _ (t : Tables) (not : Lent g t → ⊥) where
    -- A call on a table that is not sound gives no block,
    idle_gives : (c : Call) (s start : ℕ) → Gives c (perform g t c).answer s start → ⊥
    idle_gives (allocation heap size alignment words) s start e =
        ⊎_elim (λ a. not a.0) (λ r. omega (arith, e.0, r.some)) (allocate_cases w t heap size alignment words)
    idle_gives (release heap span offset) s start e = e
    idle_gives malformed s start e = e

    -- and leaves it as it is.
    idle_keeps : (c : Call) → (perform g t c).table ≡ t
    idle_keeps (allocation heap size alignment words) =
        ⊎_elim (λ a. absurd (not a.0)) refusal_keeps (allocate_cases w t heap size alignment words)
    idle_keeps (release heap span offset) = ⊎_elim (λ a. absurd (not a.0)) refusal_keeps (free_cases w t heap span offset)
    idle_keeps malformed = refl

    idle_run : (cs : List Call) (j s start : ℕ) → j < length cs → Gives (call_at cs j) (answer_at (run g t cs).answers j) s start → ⊥
    unfolding run_by
    idle_run [] j s start l e = omega arith
    idle_run (c ∷ cs) zero s start l e = idle_gives c s start e
    idle_run (c ∷ cs) (suc j) s start l e =
        idle_run cs j s start (omega arith)
        (subst (λ (u : Tables). Gives (call_at cs j) (answer_at (run g u cs).answers j) s start) (idle_keeps c) e)

  -- A table is lent as the calls ask, or not.
  lent_or : (t : Tables) → Dec (Lent g t)
  lent_or t =
      ⊎_elim
      (λ a.
      elim (sound g t) [
        | yes b ↦ yes (lent_here w t a b)
        | no b ↦ no (λ x. b x.sound)
      ])
      (λ a. no (λ x. true≢false (sym x.stated ∙ a)))
      (tested (as_stated g t))

  -- No block that is out is handed out.
  pub never_twice : (t : Tables) (cs : List Call) → NeverTwice g t cs (run g t cs).answers
  never_twice t cs =
      elim (lent_or t) [
        | yes x ↦ subst (λ (r : Ran). NeverTwice g t cs r.answers) (sym (run_sound_lem cs x)) (never_twice_sound cs x)
        | no n ↦
            record {
              first = λ j s start l m e. absurd (idle_run t n cs j s start l e);
              again = λ i j s start h l d e. absurd (idle_run t n cs j s start l e);
            }
      ]

-- One list of calls after another is one list of calls.
pub run_then :
    (does : Tables → Call → Outcome) (cs ds : List Call) (t : Tables) →
    ((run_by does t (cs ++ ds)).answers ≡ (run_by does t cs).answers ++ (run_by does (run_by does t cs).table ds).answers) ×
    ((run_by does t (cs ++ ds)).table ≡ (run_by does (run_by does t cs).table ds).table)
unfolding run_by
run_then does [] ds t = (refl, refl)
run_then does (c ∷ cs) ds t = let r = run_then does cs ds (does t c).table in (ap (λ (rest : List Answer). (does t c).answer ∷ rest) r.0, r.1)

-- ---- a refused call among others

module _ {g : Shape} (w : Served g) (t : Tables) where
  -- A refused call of a list answers its number and zeros, and the calls after it do as if it had not been made.
  pub refused_among :
      (cs ds : List Call) (c : Call) → ((perform g (run g t cs).table c).answer.number ≡ 0 → ⊥) →
      ((run g t (cs ++ c ∷ ds)).answers
      ≡ (run g t cs).answers ++ refusal (perform g (run g t cs).table c).answer.number ∷ (run g (run g t cs).table ds).answers)
      × ((run g t (cs ++ c ∷ ds)).table ≡ (run g t (cs ++ ds)).table)
  unfolding run_by
  refused_among cs ds c n =
      let u = (run g t cs).table in
      let r = perform_refusal w u c n in
      let a : (perform g u c).answer ≡ refusal (perform g u c).answer.number = ap (λ (o : Outcome). o.answer) r.is in
      let k : (perform g u c).table ≡ u = ap (λ (o : Outcome). o.table) r.is in
      let here = run_then (perform g) cs (c ∷ ds) t in
      let there = run_then (perform g) cs ds t in (
        here.0 ∙ ap₂ (λ (b : Answer) (v : Tables). (run g t cs).answers ++ b ∷ (run g v ds).answers) a k,
        here.1 ∙ ap (λ (v : Tables). (run g v ds).table) k ∙ sym there.1,
      )

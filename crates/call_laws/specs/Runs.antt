-- Demand 1's last sentence over a list of calls and of their answers: "A block that is out is never handed out again before it is freed." Assumes nothing.
use Rattle.std.specs.Prelude.{◌≡◌, List, ℕ, ◌<◌, length, get_or}
use Rattle.tables.specs.Shape.{Shape}
use Rattle.tables.specs.Cells.{Tables}
use Rattle.calls.specs.declared.Answer.{Answer}
use Rattle.calls.specs.Outcome.{refusal}
use Rattle.calls.specs.Run.{Call, allocation, release, malformed}
use Rattle.call_laws.specs.Answers.{NamesOut}

-- the call, so answered, is an accepted allocation of the block at offset `start` of span s
abbrev pub Gives : Call → Answer → ℕ → ℕ → Type 0
Gives (allocation heap size alignment words) a s start = (a.number ≡ 0) × (a.span ≡ s) × (a.offset ≡ start)
Gives (release heap span offset) a s start = ⊥
Gives malformed a s start = ⊥

-- the call, so answered, is an accepted free that names the block at offset `start` of span s
abbrev pub Frees : Call → Answer → ℕ → ℕ → Type 0
Frees (allocation heap size alignment words) a s start = ⊥
Frees (release heap span offset) a s start = (a.number ≡ 0) × (span ≡ s) × (offset ≡ start)
Frees malformed a s start = ⊥

-- the i-th call and the i-th answer
abbrev pub call_at : List Call → ℕ → Call
call_at calls i = get_or calls i malformed

abbrev pub answer_at : List Answer → ℕ → Answer
answer_at answers i = get_or answers i (refusal 0)

-- an accepted free, after call i and before call j, names the block
pub record FreedBetween (calls : List Call) (answers : List Answer) (i j s start : ℕ) : Type 0 where
  pub when : ℕ
  pub after : i < when
  pub before : when < j
  pub freed : Frees (call_at calls when) (answer_at answers when) s start

-- an accepted free before call j names the block
pub record FreedBefore (calls : List Call) (answers : List Answer) (j s start : ℕ) : Type 0 where
  pub when : ℕ
  pub before : when < j
  pub freed : Frees (call_at calls when) (answer_at answers when) s start

-- no call of the list hands out a block that is out: one that is out in the table that the list starts from is freed before it is given, and between two
-- accepted allocations of one block there is an accepted free that names it
pub record NeverTwice (g : Shape) (t : Tables) (calls : List Call) (answers : List Answer) : Type 0 where
  pub first :
      (j s start : ℕ) → j < length calls → NamesOut g t s start → Gives (call_at calls j) (answer_at answers j) s start → FreedBefore calls answers j s start
  pub again :
      (i j s start : ℕ) → i < j → j < length calls → Gives (call_at calls i) (answer_at answers i) s start →
      Gives (call_at calls j) (answer_at answers j) s start → FreedBetween calls answers i j s start

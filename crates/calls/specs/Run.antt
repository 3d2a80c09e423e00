-- Lists of calls, one after the other. Assumes nothing.
use Rattle.std.specs.Prelude.{List, [], ◌∷◌, ℕ}
use Rattle.calls.specs.declared.Answer.{Answer}
use Rattle.tables.specs.Shape.{Shape}
use Rattle.tables.specs.Cells.{Tables}
use Rattle.calls.specs.Outcome.{Outcome, refused}
use Rattle.calls.specs.Calls.{allocate, allocate_sound, free, free_sound}

-- a call: an allocation with the words lent, a free, or a record of a batch that is neither
pub data Call : Type 0 where
  allocation : (heap size alignment : ℕ) (words : List ℕ) → Call
  release : (heap span offset : ℕ) → Call
  malformed : Call

-- a call on any table, and on a sound one; "batch record malformed" is 9
abbrev pub perform : Shape → Tables → Call → Outcome
perform g t (allocation heap size alignment words) = allocate g t heap size alignment words
perform g t (release heap s offset) = free g t heap s offset
perform g t malformed = refused 9 t

abbrev pub perform_sound : Shape → Tables → Call → Outcome
perform_sound g t (allocation heap size alignment words) = allocate_sound g t heap size alignment words
perform_sound g t (release heap s offset) = free_sound g t heap s offset
perform_sound g t malformed = refused 9 t

pub record Ran : Type 0 where
  pub answers : List Answer
  pub table : Tables

abbrev pub and_then : Answer → Ran → Ran
and_then a r = record { answers = a ∷ r.answers; table = r.table }

-- the calls in order, each on the table that the one before it left
unfoldable pub run_by : (Tables → Call → Outcome) → Tables → List Call → Ran
run_by does t [] = record { answers = []; table = t }
run_by does t (c ∷ cs) = and_then (does t c).answer (run_by does (does t c).table cs)

abbrev pub run : Shape → Tables → List Call → Ran
run g = run_by (perform g)

abbrev pub run_sound : Shape → Tables → List Call → Ran
run_sound g = run_by (perform_sound g)

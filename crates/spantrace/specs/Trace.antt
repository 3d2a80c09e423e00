-- What the lines say: a record's number and answer; a used span's place, and the cached blocks of it. Assumes nothing.
use Rattle.std.specs.Prelude.{ℕ, ◌+◌, ◌<◌, ◌≤◌, ◌≡◌, cond, List, [], ◌∷◌, ◌++◌, ◌==◌, Option, Some, None, slice_index}
use Rattle.laws.specs.Choice.{sum}
use Rattle.tables.specs.declared.ClassHeap.{ClassHeap}
use Rattle.tables.specs.Shape.{base_shape, class_heap}
use Rattle.tables.specs.Cells.{Tables, class_at, owner_at, occupied_at, head_at, count_at, reserve, entry_span}
use Rattle.summing.specs.Tally.{pending_in}
use Rattle.trace_text.specs.Wrote.{Wrote, Decimal}
use Rattle.spantrace.specs.declared.Place.{Place}
use Rattle.spantrace.specs.declared.Place.TheVariants.{Partial, Full, Reserve, Empty}
use Rattle.spantrace.specs.declared.SpanLine.{SpanLine}

-- "A: record, number, span, offset.": the line that was written, cut where there is no room
abbrev pub WroteAnswer : ℕ → List ℕ → ℕ → ℕ → ℕ → ℕ → List ℕ → Type 0
WroteAnswer room before i number span offset now =
    (a b c d : List ℕ) × Decimal i a × Decimal number b × Decimal span c × Decimal offset d
    × Wrote room before ((((((0x41 ∷ []) ++ (0x20 ∷ a)) ++ (0x20 ∷ b)) ++ (0x20 ∷ c)) ++ (0x20 ∷ d)) ++ (0x0A ∷ [])) now

-- "place (P, F, reserve R, empty E)", as ASCII
abbrev pub letter : Place → ℕ
letter Partial = 0x50
letter Full = 0x46
letter Reserve = 0x52
letter Empty = 0x45

-- the same by the occupied count, and by whether the reserve of the span's class and owner is a link to it
unfoldable pub place_of : ℕ → ℕ → ℕ → ℕ → ℕ
place_of slots occupied kept s =
    cond (occupied == 0) (cond (kept == s + 1) 0x52 0x45) (cond (occupied == slots) 0x46 0x50)

-- "S: span, slot size, owner, place, occupied, pending, cached.": the line that was written, cut where there is no room
abbrev pub WroteSpan : ℕ → List ℕ → SpanLine → List ℕ → Type 0
WroteSpan room before line now =
    (a b c d e f : List ℕ) × Decimal line.span a × Decimal line.slot b × Decimal line.owner c × Decimal line.occupied d × Decimal line.pending e × Decimal line.cached f
    × Wrote room before ((((((((((0x53 ∷ []) ++ (0x20 ∷ a)) ++ (0x20 ∷ b)) ++ (0x20 ∷ c)) ++ (0x20 ∷ [])) ++ (letter line.place ∷ [])) ++ (0x20 ∷ d)) ++ (0x20 ∷ e)) ++ (0x20 ∷ f)) ++ (0x0A ∷ [])) now

-- 1 where entry e is a slot of span s
unfoldable pub naming : ℕ → ℕ → ℕ
naming e s = cond (entry_span e == s) 1 0

-- how many of n entries from base on are slots of span s
unfoldable pub named_in : List ℕ → ℕ → ℕ → ℕ → ℕ
named_in entries base s n = sum n (λ i. naming (slice_index entries (base + i)) s)

-- ---- what is said of a used span of a table of 4 heaps and 32 spans

-- the class of its heap, as its record names them
abbrev pub home_of : Tables → ℕ → ClassHeap
home_of t s = class_heap (base_shape 4 32) (owner_at t s) (class_at t s)

-- its record and its magazine's count can stand in a sound table
abbrev pub CanStand : Tables → ℕ → Type 0
CanStand t s = (class_at t s < 48) × (owner_at t s < 4) × (count_at t (home_of t s) ≤ (home_of t s).capacity)

-- each number of its line, and its place
pub record Said (t : Tables) (s : ℕ) (line : SpanLine) : Type 0 where
  pub span : line.span ≡ s
  pub slot : line.slot ≡ (home_of t s).slot
  pub owner : line.owner ≡ owner_at t s
  pub place : letter line.place ≡ place_of (home_of t s).slots (occupied_at t s) (head_at t (home_of t s) reserve) s
  pub occupied : line.occupied ≡ occupied_at t s
  pub pending : line.pending ≡ pending_in t.bits s 64
  pub cached : line.cached ≡ named_in t.entries (home_of t s).base s (count_at t (home_of t s))

-- a span has a line exactly where its record can stand in a sound table
abbrev pub SaidOf : Tables → ℕ → Option SpanLine → Type 0
SaidOf t s (Some line) = CanStand t s × Said t s line
SaidOf t s None = CanStand t s → ⊥

-- Lists of spans by their links: front, push at the front, remove, pop; and the spans that a list holds. Assumes nothing.
use Rattle.std.specs.Prelude.{cond, List, ℕ, ◌+◌, ◌-◌, set, eqb}
use Rattle.laws.specs.Links.{walk}
use Rattle.tables.specs.declared.ClassHeap.{ClassHeap}
use Rattle.tables.specs.Cells.{Tables, tables, span_cell, previous_field, next_field, previous_at, next_at, head_cell, head_at}

-- field f of the span that the link x names becomes v; a link to none names nothing
abbrev pub set_linked : List ℕ → ℕ → ℕ → ℕ → List ℕ
set_linked spans x f v = cond (eqb x 0) spans (set spans (span_cell (x - 1) f) v)

-- the links of span s
abbrev pub set_links : List ℕ → ℕ → ℕ → ℕ → List ℕ
set_links spans s previous next = set (set spans (span_cell s previous_field) previous) (span_cell s next_field) next

-- span s to the front of list f
unfoldable pub push : Tables → ClassHeap → ℕ → ℕ → Tables
push t k f s =
    tables t.bits
    (set_linked (set_links t.spans s 0 (head_at t k f)) (head_at t k f) previous_field (s + 1))
    t.entries
    (set t.heads (head_cell k.row f) (s + 1))
    t.used

-- span s out of list f: what stood before it, a span or else the head, and what stood after it now link to each other
unfoldable pub remove : Tables → ClassHeap → ℕ → ℕ → Tables
remove t k f s =
    tables t.bits
    (set_links
    (set_linked (set_linked t.spans (previous_at t s) next_field (next_at t s)) (next_at t s) previous_field (previous_at t s))
    s 0 0)
    t.entries
    (cond (eqb (previous_at t s) 0) (set t.heads (head_cell k.row f) (next_at t s)) t.heads)
    t.used

-- the front span out of list f, which is not empty
unfoldable pub pop : Tables → ClassHeap → ℕ → Tables
pop t k f = remove t k f (head_at t k f - 1)

-- the spans of list f, or of the reserve, front first
abbrev pub list_of : Tables → ClassHeap → ℕ → List ℕ
list_of t k f = walk (next_at t) t.used (head_at t k f)

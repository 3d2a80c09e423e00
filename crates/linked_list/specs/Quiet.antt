-- A step that moves spans between lists and does nothing else. Assumes nothing.
use Rattle.std.specs.Prelude.{◌≡◌, ℕ, ◌<◌, length, get_or}
use Rattle.tables.specs.Shape.{record_cells, head_cells}
use Rattle.tables.specs.Cells.{Tables, span_field, previous_field, next_field, head_cell, reserve}

-- t' differs from t in the links of spans and in the heads of lists and reserves alone
pub record Quiet (t t' : Tables) : Type 0 where
  pub bits : t'.bits ≡ t.bits
  pub entries : t'.entries ≡ t.entries
  pub used : t'.used ≡ t.used
  pub spans : length t'.spans ≡ length t.spans
  pub heads : length t'.heads ≡ length t.heads
  -- class, owner and occupied
  pub fields : (s d : ℕ) → d < record_cells → (d ≡ previous_field → ⊥) → (d ≡ next_field → ⊥) → span_field t' s d ≡ span_field t s d
  -- the count
  pub counts : (r g : ℕ) → g < head_cells → reserve < g → get_or t'.heads (head_cell r g) 0 ≡ get_or t.heads (head_cell r g) 0

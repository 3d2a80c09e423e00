-- What stands in the cells of a span when its pending frees are cleared. Assumes nothing.
use mathlib.Core.Path.{◌≡◌, refl, sym, ap, ◌∙◌}
use mathlib.Core.Bool.{false, true≢false, not}
use mathlib.Core.List.{List}
use Prim.Native.Nat.{ℕ, ◌+◌, ◌-◌, ◌/◌, ◌%◌, ◌<◌, ◌≤◌}
use native.Mathlib.Omega.{arith}
use lib.Dec.{eqb}
use lib.Pow.{pow_pos}
use lib.ListN.{length, replicate, length-replicate, get_or-replicate}
use Rattle.laws.specs.Word.{is_set}
use Rattle.laws.proofs.BitLaws.{bit_zero}
use Rattle.tables.specs.Shape.{bitmap_cells}
use Rattle.tables.specs.Cells.{Tables, bitmap_word, remote_summary, remote_word}
use Rattle.tables.proofs.CellLaws.{remote_in, summaries_in}
use Rattle.span.specs.Span.{loaded, clear_pending}
use Rattle.span.specs.Room.{WordCells}
use Rattle.filled_spans.proofs.SpanValues.{slot_place, same_loaded, RemoteRight}
use Rattle.filled_spans.proofs.FilledKept.{OnlyOccupancy}
use Rattle.filled_spans.proofs.SpanStores.{words_in, words_other, words_length}

-- The remote summary and the 64 remote words are the last words of a span.
pub remote_last : {i : ℕ} → i < bitmap_cells → i < remote_summary + 65
unfolding bitmap_cells
remote_last h = h

-- No bit of 0 is set.
pub zero_clear : (b : ℕ) → is_set 0 b ≡ false
zero_clear b = ap (λ (z : ℕ). eqb z 1) (bit_zero b)

-- The remote words are right where all are 0.
pub none_right : (t : Tables) (s slots : ℕ) → ((i : ℕ) → remote_summary ≤ i → i < bitmap_cells → bitmap_word t s i ≡ 0) → RemoteRight t s slots
none_right t s slots none =
    record {
      word = λ i l h. rw (none i l h) (pow_pos 64);
      summary =
          λ i h.
          ap (λ (z : ℕ). is_set z i) (none remote_summary (omega arith) (summaries_in (omega arith)))
          ∙ zero_clear i
          ∙ sym (ap (λ (z : ℕ). not (eqb z 0)) (none (remote_word i) (omega arith) (remote_in h)));
      held =
          λ q h e.
          absurd
          (true≢false
          (sym e ∙ ap (λ (z : ℕ). is_set z (q % 64)) (none (remote_word (q / 64)) (omega arith) (remote_in (slot_place h))) ∙ zero_clear (q % 64)));
    }

module _ (t : Tables) (s : ℕ) (cells : WordCells t.bits s) where
  -- the row that is copied
  abbrev zeros : List ℕ
  zeros = replicate 65 0

  -- They are as many as a span's remote side.
  zeros_fit : remote_summary + 65 ≤ bitmap_cells
  zeros_fit = omega (arith, remote_in {i = 63} (omega arith))

  zeros_long : 65 ≤ length zeros
  zeros_long = omega (arith, length-replicate 65 (let z : ℕ = 0 in z))

  -- The remote summary and every remote word are 0.
  pub cleared_none : (i : ℕ) → remote_summary ≤ i → i < bitmap_cells → bitmap_word (clear_pending t s) s i ≡ 0
  cleared_none i l h =
      let k : i < remote_summary + 65 = remote_last h in
      words_in t.bits s cells remote_summary zeros 65 (summaries_in (omega arith)) zeros_fit zeros_long i (i - remote_summary) (omega arith)
      (omega arith)
      ∙ get_or-replicate 65 (i - remote_summary) 0 0 (omega arith)

  -- The local side of the span, and the words of every other span, stay.
  cleared_other : (r i : ℕ) → i < bitmap_cells → (r ≡ s → i < remote_summary) → bitmap_word (clear_pending t s) r i ≡ bitmap_word t r i
  cleared_other r i h apart =
      words_other t.bits s cells remote_summary zeros 65 (summaries_in (omega arith)) zeros_fit zeros_long r i h
      (λ e j l k. let z : ⊥ = omega (arith, apart e) in z)

  -- Nothing but the span's words changed.
  pub cleared_only : OnlyOccupancy t (clear_pending t s) s
  cleared_only =
      record {
        span =
            record {
              bits_length = words_length t.bits s cells remote_summary zeros 65 (summaries_in (omega arith)) zeros_fit zeros_long;
              spans_length = refl;
              entries = refl;
              heads = refl;
              words = λ r i h n. cleared_other r i h (λ e. absurd (n e));
              fields = λ r k h n. refl;
            };
        used = refl;
        own = λ k h n. refl;
      }

  -- The occupancy stays.
  pub cleared_loaded : loaded (clear_pending t s) s ≡ loaded t s
  cleared_loaded =
      same_loaded t (clear_pending t s) s cells cleared_only.span.bits_length
      (λ i l. cleared_other s i (summaries_in (omega arith)) (λ e. l)) refl

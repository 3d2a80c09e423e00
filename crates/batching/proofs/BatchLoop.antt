-- The batch, a record at a time. Assumes nothing.
use mathlib.Core.Path.{◌≡◌, refl, ap, ◌∙◌}
use mathlib.Core.List.{List, [], ◌∷◌}
use Prim.Native.Nat.{ℕ, zero, suc, ◌+◌, ◌*◌, ◌/◌, ◌%◌, ◌<◌, ◌≤◌}
use native.Mathlib.Omega.{arith}
use mathlib.Core.Bool.{false}
use borrow.Author.Tests.{ne_eqb}
use lib.ListN.{length}
use lib.Seq.{length-sets}
use Rattle.tables.specs.Shape.{Shape}
use Rattle.tables.specs.Cells.{Tables}
use Rattle.calls.specs.Outcome.{Outcome}
use Rattle.calls.specs.Run.{perform_sound}
use Rattle.calls.specs.Batch.{record_bytes, record_call, answer_cells, answered, batched, batch_from, whole_records}
use Rattle.sound_calls.specs.Lent.{Lent}
use Rattle.call_laws.proofs.SingleLaws.{perform_lent}

-- An answer keeps the number of cells.
length_answered : (a : List ℕ) (i : ℕ) (o : Outcome) → length (answered a i o) ≡ length a
length_answered a i o = length-sets a (i * answer_cells) (o.answer.number ∷ o.answer.span ∷ o.answer.offset ∷ [])

-- the records before i are answered, and `left` are to come
pub record Answering (g : Shape) (bytes a₀ : List ℕ) (t₀ : Tables) (a : List ℕ) (t : Tables) (i n : ℕ) : Type 0 where
  pub left : ℕ
  pub total : i + left ≡ n
  pub lent : Lent g t
  pub answers_length : length a ≡ length a₀
  pub same : batch_from left i g t bytes a ≡ batch_from n 0 g t₀ bytes a₀

pub answering_none : (g : Shape) (bytes a : List ℕ) (t : Tables) (n : ℕ) → Lent g t → Answering g bytes a t a t 0 n
answering_none g bytes a t n x = record { left = n; total = omega arith; lent = x; answers_length = refl; same = refl }

module _ {g : Shape} {bytes a₀ : List ℕ} {t₀ : Tables} {a : List ℕ} {t : Tables} {i n : ℕ} (w : Answering g bytes a₀ t₀ a t i n) where
  -- what record i comes to
  abbrev here : Outcome
  here = perform_sound g t (record_call bytes (i * record_bytes))

  pub answering_more :
      (a' : List ℕ) (t' : Tables) → i < n → t' ≡ here.table → a' ≡ answered a i here → Answering g bytes a₀ t₀ a' t' (i + 1) n
  unfolding batch_from
  answering_more a' t' l e d = go w.left w.total w.same
    where
      go : (left : ℕ) → i + left ≡ n → batch_from left i g t bytes a ≡ batch_from n 0 g t₀ bytes a₀ → Answering g bytes a₀ t₀ a' t' (i + 1) n
      go zero z s = absurd (let y : ⊥ = omega arith in y)
      go (suc k) z s =
          record {
            left = k;
            total = omega (arith, z);
            lent = rw e (perform_lent w.lent (record_call bytes (i * record_bytes)));
            answers_length = ap length d ∙ length_answered a i here ∙ w.answers_length;
            same =
                ap (λ (u : Tables). batch_from k (i + 1) g u bytes a') e
                ∙ ap (λ (x : List ℕ). batch_from k (i + 1) g here.table bytes x) d ∙ s;
          }

  pub answering_all : n ≤ i → batched 0 a t ≡ batch_from n 0 g t₀ bytes a₀
  unfolding batch_from
  answering_all l = go w.left w.total w.same
    where
      go : (left : ℕ) → i + left ≡ n → batch_from left i g t bytes a ≡ batch_from n 0 g t₀ bytes a₀ → batched 0 a t ≡ batch_from n 0 g t₀ bytes a₀
      go zero z s = s
      go (suc k) z s = absurd (let y : ⊥ = omega arith in y)

-- Record i of n whole ones is there, and so are the cells of its answer.
pub record_there : (bytes : List ℕ) (i : ℕ) → i < length bytes / record_bytes → i * record_bytes + record_bytes ≤ length bytes
unfolding record_bytes
record_there bytes i l = omega arith

pub answer_there :
    (i n m long before : ℕ) → i < n → n ≡ m → m * answer_cells ≤ before → long ≡ before → i * answer_cells + answer_cells ≤ long
unfolding answer_cells
answer_there i n m long before l e h d = omega arith

-- The count of records is a batch's.
pub counted :
    (g : Shape) (bytes a : List ℕ) (t : Tables) (n : ℕ) → n ≡ length bytes / record_bytes →
    batch_from n 0 g t bytes a ≡ batch_from (length bytes / record_bytes) 0 g t bytes a
counted g bytes a t n e = ap (λ (k : ℕ). batch_from k 0 g t bytes a) e

-- Bytes that are no whole records.
pub not_whole_lem : (bytes answers : List ℕ) → (length bytes % record_bytes ≡ 0 → ⊥) → false ≡ whole_records bytes answers
unfolding whole_records
not_whole_lem bytes answers n = rw (ne_eqb (length bytes % record_bytes) 0 n)

-- One span's occupancy: a fresh one, a claim, a release, and the fold of pending frees. Assumes nothing.
use Rattle.std.specs.Prelude.{◌||◌, not, cond, List, [], ◌∷◌, ℕ, zero, suc, ◌+◌, ◌-◌, ◌/◌, ◌%◌, ◌^◌, min, get_or, set, eqb, leb}
use Rattle.laws.specs.First.{first}
use Rattle.laws.specs.Word.{all_ones, bit_at, set_bit, clear_bit, popcount}
use Rattle.occupancy.specs.declared.Occupancy.{Occupancy}
use Rattle.occupancy.specs.declared.Claim.{Claim}
use Rattle.occupancy.specs.declared.Claimed.TheVariants.{Nothing, Taken}

abbrev pub occupancy : ℕ → List ℕ → ℕ → Occupancy
occupancy summary words count = record { summary = summary; words = words; count = count }

abbrev pub word_of : Occupancy → ℕ → ℕ
word_of o i = get_or o.words i 0

-- ---- a fresh span

-- d words of a span with n slots left: "Bits past the last slot are set from the start."
unfoldable pub fresh_words : ℕ → ℕ → List ℕ
fresh_words zero n = []
fresh_words (suc d) n = (2 ^ 64 - 2 ^ min n 64) ∷ fresh_words d (n - 64)

-- "A summary bit is set exactly when its word is all ones.": from the first word with no slot on
unfoldable pub fresh_of : ℕ → Occupancy
fresh_of slots = occupancy (2 ^ 64 - 2 ^ ((slots + 63) / 64)) (fresh_words 64 slots) 0

-- ---- a claim: "at most m slots, word w"

-- "the first word with room, cyclically from w mod 64": counted on past 63 without turning back, and 64 past the start where there is none
unfoldable pub first_room : List ℕ → ℕ → ℕ
first_room words from = first (λ i. not (eqb (get_or words (i % 64) 0) all_ones)) 64 from

-- "the first m free bits, cyclically from (w/64) mod 64", among d bits from bit i on
abbrev pub free_bit : ℕ → ℕ → ℕ → (ℕ → ℕ) → ℕ
free_bit (suc b) m at after = after m
free_bit zero zero at after = 0
free_bit zero (suc m) at after = 2 ^ at + after m

unfoldable pub first_free : ℕ → ℕ → ℕ → ℕ → ℕ
first_free zero m i word = 0
first_free (suc d) m i word = free_bit (bit_at word (i % 64)) m (i % 64) (λ n. first_free d n (suc i) word)

-- "If it has at most m free bits, all are taken; else the first m free bits"
unfoldable pub window_of : ℕ → ℕ → ℕ → ℕ
window_of word m from = cond (leb (popcount (all_ones - word)) m) (all_ones - word) (first_free 64 m from word)

abbrev pub nothing : Occupancy → Claim
nothing o = record { answer = Nothing; occupancy = o }

-- the mask's slots are taken of word i; the summary bit is set where that word is now all ones
unfoldable pub taking : Occupancy → ℕ → ℕ → Claim
taking o i mask =
    record {
      answer = Taken i mask;
      occupancy =
          occupancy (cond (eqb (word_of o i + mask) all_ones) (set_bit o.summary i) o.summary)
          (set o.words i (word_of o i + mask))
          (o.count + popcount mask);
    }

-- a claim in word i
unfoldable pub claim_in : Occupancy → ℕ → ℕ → ℕ → Claim
claim_in o m w i = taking o i (window_of (word_of o i) m (w / 64 % 64))

-- a claim; nothing where none is wanted or no word has room
unfoldable pub claim : Occupancy → ℕ → ℕ → Claim
claim o m w =
    cond (eqb m 0 || leb (w % 64 + 64) (first_room o.words (w % 64))) (nothing o)
    (claim_in o m w (first_room o.words (w % 64) % 64))

-- ---- a release, and the fold of pending frees

unfoldable pub release_slot : Occupancy → ℕ → Occupancy
release_slot o q =
    occupancy (clear_bit o.summary (q / 64)) (set o.words (q / 64) (clear_bit (word_of o (q / 64)) (q % 64))) (o.count - 1)

-- the slots `freed` of word i, all of them taken before
unfoldable pub release_slots_by_word : Occupancy → ℕ → ℕ → Occupancy
release_slots_by_word o i freed =
    cond (eqb freed 0) o
    (occupancy (clear_bit o.summary i) (set o.words i (word_of o i - freed)) (o.count - popcount freed))

-- the pending words of a span, d of them from word i on, leave its occupancy
unfoldable pub fold_from : ℕ → ℕ → List ℕ → Occupancy → Occupancy
fold_from zero i pending o = o
fold_from (suc d) i pending o = fold_from d (suc i) pending (release_slots_by_word o i (get_or pending i 0))

unfoldable pub fold_in : Occupancy → List ℕ → Occupancy
fold_in o pending = fold_from 64 0 pending o

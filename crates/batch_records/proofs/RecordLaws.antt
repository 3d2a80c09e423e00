-- Little-endian numbers from their bytes, and the words of a seed one after the other. Assumes nothing.
use Rattle.std.proofs.Common.{◌≡◌, ℕ, zero, suc, ◌+◌, ◌*◌, ◌%◌, ◌^◌, ◌<◌, ◌≤◌, List, ◌∷◌, ◌++◌, length, get_or, take, drop, set, replicate, sym, refl, ap, ◌∙◌, append-nil, zero-add, arith, take_all, drop-cons}
use Rattle.std.specs.Int.{w64, from_le_bytes}
use Rattle.std.proofs.lemmas.List.{get_or-take, get_or-drop}
use lib.ListN.{length-replicate}
use lib.Seq.{paste, paste-zero, paste-suc, drop-length}
use Rattle.calls.specs.Batch.{little_endian, word_step, words_from}

-- ---- numbers

-- Eight bytes from a place on, as the library takes them.
pub eight_bytes : (bytes : List ℕ) (at n : ℕ) → n ≡ 8 → from_le_bytes w64 (take n (drop at bytes)) ≡ little_endian 8 bytes at
unfolding little_endian
eight_bytes bytes at n e =
    let b = take n (drop at bytes) in
    let byte : (i j : ℕ) → i < 8 → at + i ≡ j → get_or b i 0 ≡ get_or bytes j 0 =
    λ i j h q. get_or-take n (drop at bytes) i 0 (omega arith) ∙ get_or-drop at bytes i 0 ∙ ap (λ (k : ℕ). get_or bytes k 0) q in
    let taken : from_le_bytes w64 b ≡
    get_or b 0 0 + get_or b 1 0 * 256 + get_or b 2 0 * 65536 + get_or b 3 0 * 16777216 + get_or b 4 0 * 4294967296
    + get_or b 5 0 * 1099511627776 + get_or b 6 0 * 281474976710656 + get_or b 7 0 * 72057594037927936 = refl in
    taken ∙ omega (
      arith,
      byte 0 at (omega arith) (omega arith),
      byte 1 (at + 1) (omega arith) (omega arith),
      byte 2 (at + 1 + 1) (omega arith) (omega arith),
      byte 3 (at + 1 + 1 + 1) (omega arith) (omega arith),
      byte 4 (at + 1 + 1 + 1 + 1) (omega arith) (omega arith),
      byte 5 (at + 1 + 1 + 1 + 1 + 1) (omega arith) (omega arith),
      byte 6 (at + 1 + 1 + 1 + 1 + 1 + 1) (omega arith) (omega arith),
      byte 7 (at + 1 + 1 + 1 + 1 + 1 + 1 + 1) (omega arith) (omega arith),
    )

-- ---- words

pub words_length : (n seed : ℕ) → length (words_from n seed) ≡ n
unfolding words_from
words_length zero seed = refl
words_length (suc n) seed = ap suc (words_length n ((seed + word_step) % 2 ^ 64))

-- the words of the seed are written up to i; `left` are to come, of which word is the next
pub record Writing (n seed : ℕ) (words : List ℕ) (word i : ℕ) : Type 0 where
  pub left : ℕ
  pub total : i + left ≡ n
  pub written : words ≡ paste (replicate n 0) 0 (words_from n seed) i
  pub next : drop i (words_from n seed) ≡ words_from left word

pub writing_none : (n seed : ℕ) → Writing n seed (replicate n 0) seed 0
writing_none n seed =
    record { left = n; total = omega arith; written = paste-zero (replicate n 0) 0 (words_from n seed); next = refl }

pub writing_more :
    (n seed : ℕ) (words : List ℕ) (word i next : ℕ) → i < n → next ≡ (word + word_step) % 2 ^ 64 → Writing n seed words word i →
    Writing n seed (set words i word) next (i + 1)
unfolding words_from
writing_more n seed words word i next l e w = go w.left w.total w.next
  where
    go : (left : ℕ) → i + left ≡ n → drop i (words_from n seed) ≡ words_from left word → Writing n seed (set words i word) next (i + 1)
    go zero t d = absurd (let z : ⊥ = omega arith in z)
    go (suc m) t d =
        let s = words_from n seed in
        let zeros : List ℕ = replicate n 0 in
        let one : i + 1 ≡ suc i = omega arith in
        let long : i < length s = rw (words_length n seed) l in
        let cut : get_or s i 0 ∷ drop (suc i) s ≡ word ∷ words_from m ((word + word_step) % 2 ^ 64) = sym (drop-cons s i 0 long) ∙ d in
        let here : get_or s i 0 ≡ word = ap (λ (x : List ℕ). get_or x 0 0) cut in
        let after : drop (suc i) s ≡ words_from m ((word + word_step) % 2 ^ 64) = ap (λ (x : List ℕ). drop 1 x) cut in
        record {
          left = m;
          total = omega (arith, t);
          written =
              ap (λ (x : List ℕ). set x i word) w.written ∙ ap (set (paste zeros 0 s i) i) (sym here)
              ∙ ap (λ (j : ℕ). set (paste zeros 0 s i) j (get_or s i 0)) (sym (zero-add i))
              ∙ paste-suc zeros 0 s i 0 (omega (arith, l, length-replicate {A = ℕ} n 0)) long ∙ ap (paste zeros 0 s) (sym one);
          next = ap (λ (j : ℕ). drop j s) one ∙ after ∙ ap (words_from m) (sym e);
        }

pub writing_all : (n seed : ℕ) (words : List ℕ) (word i : ℕ) → n ≤ i → Writing n seed words word i → words ≡ words_from n seed
writing_all n seed words word i l w =
    let s = words_from n seed in
    let zeros : List ℕ = replicate n 0 in
    let e : i ≡ n = omega (arith, w.total) in
    let z : 0 + i ≡ length zeros = omega (arith, e, length-replicate {A = ℕ} n 0) in
    w.written ∙ ap (λ (j : ℕ). take i s ++ drop j zeros) z ∙ rw (drop-length zeros, append-nil, take_all i s (omega (arith, e, words_length n seed)))

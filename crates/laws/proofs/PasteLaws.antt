-- More laws of `paste`, a row of cells copied over another: cell by cell, and one cell at a time. Assumes nothing.
use mathlib.Core.Path.{◌≡◌, sym, ap, ◌∙◌}
use mathlib.Core.List.{List, [], ◌∷◌, ◌++◌, append_assoc}
use Prim.Native.Nat.{ℕ, suc, ◌+◌, ◌-◌, ◌<◌, ◌≤◌}
use native.Mathlib.Nat.{add-suc, suc-add}
use native.Mathlib.Omega.{arith}
use lib.ListN.{length, take, drop, get_or, set, get_or-append}
use lib.Seq.{paste, take-paste, drop-paste, drop-drop, take-append-add, take-suc-set, drop-set-lt, get_or-take, get_or-drop, get_or-append-add, length-take-le, length_paste_head, append_snoc, take_all}

-- A copy of one cell more is a store and a copy of the rest.
pub paste_cons : (d : List ℕ) (at x : ℕ) (xs : List ℕ) (n : ℕ) → at < length d → paste d at (x ∷ xs) (suc n) ≡ paste (set d at x) (suc at) xs n
paste_cons d at x xs n h =
    let e : at + suc n ≡ suc at + n = add-suc at n ∙ sym (suc-add at n) in
    let p : take (suc at) (set d at x) ≡ take at d ++ (x ∷ []) = take-suc-set d at x h in
    let q : drop (suc at + n) (set d at x) ≡ drop (suc at + n) d = drop-set-lt (suc at + n) d at x (omega arith) in
    rw (p, q, e) (ap (λ (l : List ℕ). l ++ drop (suc at + n) d) (sym (append_snoc (take at d) x (take n xs))))

-- A copied cell is the one copied.
pub paste_in :
    (d : List ℕ) (at : ℕ) (s : List ℕ) (n j : ℕ) → at ≤ length d → n ≤ length s → j < n → get_or (paste d at s n) (at + j) 0 ≡ get_or s j 0
paste_in d at s n j hd hs h =
    let l : length (take at d) ≡ at = length-take-le at d hd in
    let m : length (take n s) ≡ n = length-take-le n s hs in
    ap (λ (z : List ℕ). get_or z (at + j) 0) (append_assoc (take at d) (take n s) (drop (at + n) d))
    ∙ ap (λ (z : ℕ). get_or (take at d ++ (take n s ++ drop (at + n) d)) (z + j) 0) (sym l)
    ∙ get_or-append-add (take at d) (take n s ++ drop (at + n) d) j 0
    ∙ get_or-append (take n s) (drop (at + n) d) 0 j (omega arith)
    ∙ get_or-take n s j 0 h

-- A cell before the copied ones stays.
pub paste_before : (d : List ℕ) (at : ℕ) (s : List ℕ) (n i : ℕ) → at ≤ length d → i < at → get_or (paste d at s n) i 0 ≡ get_or d i 0
paste_before d at s n i hd h =
    let l : length (take at d) ≡ at = length-take-le at d hd in
    ap (λ (z : List ℕ). get_or z i 0) (append_assoc (take at d) (take n s) (drop (at + n) d))
    ∙ get_or-append (take at d) (take n s ++ drop (at + n) d) 0 i (omega arith)
    ∙ get_or-take at d i 0 h

-- A cell after the copied ones stays.
pub paste_after :
    (d : List ℕ) (at : ℕ) (s : List ℕ) (n i : ℕ) → at ≤ length d → n ≤ length s → at + n ≤ i → get_or (paste d at s n) i 0 ≡ get_or d i 0
paste_after d at s n i hd hs h =
    let l : length (take at d ++ take n s) ≡ at + n = length_paste_head d at s n hd hs in
    let e : length (take at d ++ take n s) + (i - (at + n)) ≡ i = omega arith in
    let f : at + n + (i - (at + n)) ≡ i = omega arith in
    ap (λ (z : ℕ). get_or (paste d at s n) z 0) (sym e)
    ∙ get_or-append-add (take at d ++ take n s) (drop (at + n) d) (i - (at + n)) 0
    ∙ get_or-drop (at + n) d (i - (at + n)) 0
    ∙ ap (λ (z : ℕ). get_or d z 0) f

-- A copy of two rows, one behind the other, is a copy of the first and then of the second.
pub paste_append :
    (d : List ℕ) (at : ℕ) (xs ys : List ℕ) (n m : ℕ) →
    length xs ≡ n →
    at + n ≤ length d →
    paste d at (xs ++ ys) (n + m) ≡ paste (paste d at xs n) (at + n) ys m
paste_append d at xs ys n m lx h =
    let front : take (at + n) (paste d at xs n) ≡ take at d ++ take n xs = take-paste d at xs n (omega arith) (omega arith) in
    let back : drop (at + n + m) (paste d at xs n) ≡ drop (at + n + m) d =
    sym (drop-drop m (at + n) (paste d at xs n))
    ∙ ap (drop m) (drop-paste d at xs n (omega arith) (omega arith))
    ∙ drop-drop m (at + n) d in
    let copied : take (n + m) (xs ++ ys) ≡ take n xs ++ take m ys =
    ap (λ (z : ℕ). take (z + m) (xs ++ ys)) (sym lx) ∙ take-append-add xs ys m ∙ ap (λ (z : List ℕ). z ++ take m ys) (sym (take_all n xs (omega arith))) in
    let e : at + (n + m) ≡ at + n + m = omega arith in
    rw (copied, front, back, e) (ap (λ (z : List ℕ). z ++ drop (at + n + m) d) (sym (append_assoc (take at d) (take n xs) (take m ys))))

-- Decisions that compute: of a pair, of every number below a bound, of every element of a list, of a chain. Assumes nothing.
use Rattle.std.specs.Prelude.{◌≡◌, List, [], ◌∷◌, ℕ, zero, suc, ◌+◌, ◌<◌}
use Rattle.std.proofs.Common.{subst, not-suc-le-zero, arith}
use Rattle.std.proofs.Math.Decide.{dec_lt, ℕ_discrete}
use Rattle.laws.specs.Links.{All, Joined, Chain}

abbrev pub both : {P Q : Type 0} → Dec P → Dec Q → Dec (P × Q)
both (yes p) (yes q) = yes (p, q)
both (yes p) (no n) = no (λ r. n r.1)
both (no n) d = no (λ r. n r.0)

-- the same fact in another form
abbrev pub same : {P Q : Type 0} → (P → Q) → (Q → P) → Dec P → Dec Q
same to from (yes p) = yes (to p)
same to from (no n) = no (λ q. n (from q))

abbrev pub three : {P Q R : Type 0} → Dec P → Dec Q → Dec R → Dec (P × Q × R)
three p q r = same (λ w. (w.0.0, w.0.1, w.1)) (λ w. ((w.0, w.1), w.2)) (both (both p q) r)

-- P where A holds
abbrev pub given : {A P : Type 0} → Dec A → Dec P → Dec (A → P)
given (yes a) (yes p) = yes (λ _. p)
given (yes a) (no n) = no (λ f. n (f a))
given (no n) d = yes (λ a. absurd (n a))

abbrev pub never : {P : Type 0} → Dec P → Dec (P → ⊥)
never (yes p) = no (λ f. f p)
never (no n) = yes n

-- what holds below n and at n holds below n + 1
abbrev pub further : {P : ℕ → Type 0} (n : ℕ) → Dec ((k : ℕ) → k < n → P k) → Dec (P n) → Dec ((k : ℕ) → k < suc n → P k)
further {P} n (yes f) (yes p) = yes (λ k h. elim (dec_lt k n) [ yes l ↦ f k l | no l ↦ let e : n ≡ k = omega arith in subst P e p ])
further n (yes f) (no q) = no (λ f. q (f n (omega arith)))
further n (no g) d = no (λ f. g (λ k h. f k (omega arith)))

abbrev pub below : {P : ℕ → Type 0} → ((k : ℕ) → Dec (P k)) → (n : ℕ) → Dec ((k : ℕ) → k < n → P k)
below d zero = yes (λ k h. absurd (not-suc-le-zero h))
below d (suc n) = further n (below d n) (d n)

abbrev pub all_of : {P : ℕ → Type 0} → ((k : ℕ) → Dec (P k)) → (l : List ℕ) → Dec (All P l)
all_of d [] = yes tt
all_of d (x ∷ xs) = both (d x) (all_of d xs)

joined : (previous : ℕ → ℕ) (p x s : ℕ) → Dec (Joined previous p x s)
joined previous p x s =
    same (λ r. record { here = r.0; back = r.1 }) (λ j. (j.here, j.back)) (both (ℕ_discrete x (s + 1)) (ℕ_discrete (previous s) p))

unfoldable pub chain : (previous next : ℕ → ℕ) (p x : ℕ) (l : List ℕ) → Dec (Chain previous next p x l)
unfolding joined
chain previous next p x [] = ℕ_discrete x 0
chain previous next p x (s ∷ xs) = both (joined previous p x s) (chain previous next (s + 1) (next s) xs)

-- The tests of one word by its bits: those past the last slot are set, and those pending stand on set bits in range. Assumes nothing.
use mathlib.Core.Path.{◌≡◌, sym, ap, ◌∙◌}
use mathlib.Core.Bool.{true}
use Prim.Native.Nat.{ℕ, zero, suc, ◌+◌, ◌-◌, ◌*◌, ◌^◌, ◌<◌, ◌≤◌, min}
use native.Mathlib.Nat.{min-le_right, lt_of_le_of_lt}
use native.Mathlib.Decide.{dec_lt}
use native.Mathlib.Omega.{arith}
use lib.Bits.{bit_and, and_le_l, and_le_r}
use lib.Pow.{pow_pos, pow-sub-lt}
use borrow.Author.Tests.{eq-eqb}
use Rattle.laws.specs.Word.{bit_at, is_set}
use Rattle.laws.proofs.BitLaws.{bit_lt, bit_and_lem, bit_ext, bit_zero, set_one}
use Rattle.occupancy.proofs.FreshLaws.{from_low, from_high}
use Rattle.sound_spans.specs.WordSound.{pad_of}

-- ---- bit by bit

-- A bit that is kept by a mask with that bit set is set.
kept : (a b : ℕ) → a < 2 → b ≡ 1 → min a b ≡ b → a ≡ 1
kept a b h e m = omega arith

-- A bit that is kept by another is that bit's bound.
under : (a b : ℕ) → a < 2 → b < 2 → (a ≡ 1 → b ≡ 1) → min a b ≡ a
under zero b ha hb f = omega arith
under (suc a) b ha hb f = let e : b ≡ 1 = f (omega arith) in omega arith

module _ (slots i : ℕ) where
  -- A bit of a slot is not past the last slot.
  pub pad_low : (b : ℕ) → b < 64 → i * 64 + b < slots → bit_at (pad_of slots i) b ≡ 0
  unfolding pad_of
  pad_low b hb h = from_low (min (slots - i * 64) 64) b (min-le_right (slots - i * 64) 64) (omega arith)

  -- The others are.
  pub pad_high : (b : ℕ) → b < 64 → slots ≤ i * 64 + b → bit_at (pad_of slots i) b ≡ 1
  unfolding pad_of
  pad_high b hb h = from_high (min (slots - i * 64) 64) b (omega arith) hb

  pub pad_small : pad_of slots i < 2 ^ 64
  unfolding pad_of
  pad_small = pow-sub-lt 64 (pow_pos (min (slots - i * 64) 64))

  -- ---- the bits past the last slot are set exactly where the mask of them stays whole
  module _ (x : ℕ) where
    pub pad_set : bit_and x (pad_of slots i) ≡ pad_of slots i → (b : ℕ) → b < 64 → slots ≤ i * 64 + b → is_set x b ≡ true
    pad_set e b hb h =
        eq-eqb (bit_at x b) 1
        (kept (bit_at x b) (bit_at (pad_of slots i) b) (bit_lt x b) (pad_high b hb h)
        (sym (bit_and_lem x (pad_of slots i) b) ∙ ap (λ (z : ℕ). bit_at z b) e))

    pub set_pad :
        ((b : ℕ) → b < 64 → slots ≤ i * 64 + b → is_set x b ≡ true) → bit_and x (pad_of slots i) ≡ pad_of slots i
    set_pad f =
        bit_ext 64 (bit_and x (pad_of slots i)) (pad_of slots i) (lt_of_le_of_lt (and_le_r x (pad_of slots i)) pad_small) pad_small
        (λ b h. bit_and_lem x (pad_of slots i) b ∙ each b h)
      where
        each : (b : ℕ) → b < 64 → min (bit_at x b) (bit_at (pad_of slots i) b) ≡ bit_at (pad_of slots i) b
        each b h =
            elim (dec_lt (i * 64 + b) slots) [
              | yes y ↦ omega (arith, pad_low b h y)
              | no y ↦ omega (arith, pad_high b h (omega arith), set_one x b (f b h (omega arith)))
            ]

  -- ---- pending bits stand on set bits in range exactly where the mask by x keeps them and that of the bits past the end keeps none
  module _ (x p : ℕ) (small : p < 2 ^ 64) where
    pub held : bit_and p (pad_of slots i) ≡ 0 → bit_and p x ≡ p → (b : ℕ) → b < 64 → is_set p b ≡ true → (i * 64 + b < slots) × (is_set x b ≡ true)
    held e k b hb s =
        let one : bit_at p b ≡ 1 = set_one p b s in
        let m : min (bit_at p b) (bit_at (pad_of slots i) b) ≡ 0 = sym (bit_and_lem p (pad_of slots i) b) ∙ ap (λ (z : ℕ). bit_at z b) e ∙ bit_zero b in
        let n : min (bit_at p b) (bit_at x b) ≡ bit_at p b = sym (bit_and_lem p x b) ∙ ap (λ (z : ℕ). bit_at z b) k in (
          elim (dec_lt (i * 64 + b) slots) [
            | yes y ↦ y
            | no y ↦ absurd (let z : ⊥ = omega (arith, pad_high b hb (omega arith)) in z)
          ],
          eq-eqb (bit_at x b) 1 (omega (arith, bit_lt x b)),
        )

    module _ (f : (b : ℕ) → b < 64 → is_set p b ≡ true → (i * 64 + b < slots) × (is_set x b ≡ true)) where
      pub none_past : bit_and p (pad_of slots i) ≡ 0
      none_past =
          bit_ext 64 (bit_and p (pad_of slots i)) 0 (lt_of_le_of_lt (and_le_l p (pad_of slots i)) small) (pow_pos 64)
          (λ b h. bit_and_lem p (pad_of slots i) b ∙ each b h ∙ sym (bit_zero b))
        where
          each : (b : ℕ) → b < 64 → min (bit_at p b) (bit_at (pad_of slots i) b) ≡ 0
          each b h =
              elim (dec_lt 0 (bit_at p b)) [
                | yes y ↦
                    let s : bit_at p b ≡ 1 = omega (arith, bit_lt p b) in
                    omega (arith, pad_low b h (f b h (eq-eqb (bit_at p b) 1 s)).0)
                | no y ↦ omega arith
              ]

      pub all_set : bit_and p x ≡ p
      all_set =
          bit_ext 64 (bit_and p x) p (lt_of_le_of_lt (and_le_l p x) small) small
          (λ b h. bit_and_lem p x b ∙ under (bit_at p b) (bit_at x b) (bit_lt p b) (bit_lt x b) (λ s. set_one x b (f b h (eq-eqb (bit_at p b) 1 s)).1))

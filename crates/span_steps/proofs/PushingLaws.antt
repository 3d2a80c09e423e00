-- The loop that pushes the slots of a mask, in ascending number: what is left to push, turn by turn. Assumes nothing.
use mathlib.Core.Path.{◌≡◌, refl, sym, ap, ◌∙◌}
use mathlib.Core.List.{List, [], ◌∷◌}
use mathlib.Core.Bool.{true, false}
use Prim.Native.Nat.{ℕ, suc, ◌+◌, ◌-◌, ◌/◌, ◌^◌, ◌<◌, ◌≤◌}
use native.Mathlib.Nat.{add-zero, div-one}
use native.Mathlib.Omega.{arith}
use lib.ListN.{length, length-set}
use lib.Pow.{shr-shr}
use Rattle.laws.specs.Word.{is_set, bits_from}
use Rattle.laws.proofs.BitLaws.{set_one, set_none}
use Rattle.tables.specs.declared.ClassHeap.{ClassHeap}
use Rattle.tables.specs.Cells.{Tables, tables}
use Rattle.magazine.specs.Magazine.{push_entry, push_entries}
use Rattle.magazine.specs.Room.{Room, count_in}
use Rattle.magazine.proofs.MagazineLaws.{push_count}

-- the entries still to push where b bits of the mask are passed
abbrev pub to_push : ℕ → ℕ → ℕ → List ℕ
to_push first mask b = bits_from (64 - b) (first + b) (mask / 2 ^ b)

-- A turn passes a clear bit, or has an entry to push.
more : (first mask b : ℕ) → b < 64 → to_push first mask b ≡ bits_from (suc (64 - (b + 1))) (first + b) (mask / 2 ^ b)
more first mask b h = let e : 64 - b ≡ suc (64 - (b + 1)) = omega arith in rw e

next : (first b : ℕ) → suc (first + b) ≡ first + (b + 1)
next first b = omega arith

above : (mask b : ℕ) → mask / 2 ^ b / 2 ≡ mask / 2 ^ (b + 1)
above mask b = shr-shr mask b 1

pub pass_clear : (first mask b : ℕ) → b < 64 → is_set mask b ≡ false → to_push first mask b ≡ to_push first mask (b + 1)
unfolding bits_from
pass_clear first mask b h z = more first mask b h ∙ rw (set_none mask b z, above mask b, next first b)

pub pass_set : (first mask b : ℕ) → b < 64 → is_set mask b ≡ true → to_push first mask b ≡ (first + b) ∷ to_push first mask (b + 1)
unfolding bits_from
pass_set first mask b h z = more first mask b h ∙ rw (set_one mask b z, above mask b, next first b)

pub pass_none : (first mask b : ℕ) → b ≡ 64 → to_push first mask b ≡ []
unfolding bits_from
pass_none first mask b e = rw e

-- What holds whenever the loop is reached.
pub record Pushing (k : ClassHeap) (e₀ h₀ : List ℕ) (first mask : ℕ) (e h : List ℕ) (b : ℕ) : Type 0 where
  pub entries : length e ≡ length e₀
  pub heads : length h ≡ length h₀
  pub room : Room e h k
  pub fits : count_in h k + length (to_push first mask b) ≤ k.capacity
  pub same :
      (c p : List ℕ) (u : ℕ) →
      push_entries (to_push first mask b) (tables c p e h u) k ≡ push_entries (bits_from 64 first mask) (tables c p e₀ h₀ u) k

pub starts :
    (k : ClassHeap) (e h : List ℕ) (first mask : ℕ) →
    Room e h k →
    count_in h k + length (bits_from 64 first mask) ≤ k.capacity →
    Pushing k e h first mask e h 0
starts k e h first mask r f =
    record {
      entries = refl;
      heads = refl;
      room = r;
      fits = rw (add-zero, div-one) f;
      same = λ c p u. rw (add-zero, div-one) refl;
    }

module _ (k : ClassHeap) (e₀ h₀ : List ℕ) (first mask : ℕ) (e h : List ℕ) (b : ℕ) (o : Pushing k e₀ h₀ first mask e h b) (l : b < 64) where
  pub passes : is_set mask b ≡ false → Pushing k e₀ h₀ first mask e h (b + 1)
  passes z =
      let q : to_push first mask b ≡ to_push first mask (b + 1) = pass_clear first mask b l z in
      record {
        entries = o.entries;
        heads = o.heads;
        room = o.room;
        fits = rw q at o.fits;
        same = λ c p u. ap (λ (x : List ℕ). push_entries x (tables c p e h u) k) (sym q) ∙ o.same c p u;
      }

  pub has_room : is_set mask b ≡ true → count_in h k < k.capacity
  has_room z = omega (arith, o.fits, ap length (pass_set first mask b l z))

  module _ (z : is_set mask b ≡ true) (e' h' : List ℕ)
      (pushed : (c p : List ℕ) (u : ℕ) → tables c p e' h' u ≡ push_entry (tables c p e h u) k (first + b)) where
    now : tables [] [] e' h' 0 ≡ push_entry (tables [] [] e h 0) k (first + b)
    now = pushed [] [] 0

    counted : count_in h' k ≡ count_in h k + 1
    counted = ap (λ (t : Tables). count_in t.heads k) now ∙ push_count (tables [] [] e h 0) k o.room (first + b) (has_room z)

    long_entries : length e' ≡ length e
    unfolding push_entry
    long_entries = ap (λ (t : Tables). length t.entries) now ∙ simp length-set

    long_heads : length h' ≡ length h
    unfolding push_entry
    long_heads = ap (λ (t : Tables). length t.heads) now ∙ simp length-set

    pub pushes : Pushing k e₀ h₀ first mask e' h' (b + 1)
    unfolding push_entries
    pushes =
        let q : to_push first mask b ≡ (first + b) ∷ to_push first mask (b + 1) = pass_set first mask b l z in
        record {
          entries = long_entries ∙ o.entries;
          heads = long_heads ∙ o.heads;
          room = record { row = omega (arith, o.room.row, long_heads); held = omega (arith, counted, has_room z); fits = omega (arith, o.room.fits, long_entries) };
          fits = omega (arith, counted, o.fits, ap length q);
          same =
              λ c p u.
              ap (λ (t : Tables). push_entries (to_push first mask (b + 1)) t k) (pushed c p u)
              ∙ ap (λ (x : List ℕ). push_entries x (tables c p e h u) k) (sym q)
              ∙ o.same c p u;
        }

-- At the end nothing is left to push.
pub ends :
    (k : ClassHeap) (e₀ h₀ : List ℕ) (first mask : ℕ) (e h : List ℕ) (b : ℕ) →
    Pushing k e₀ h₀ first mask e h b →
    b ≡ 64 →
    (c p : List ℕ) (u : ℕ) →
    tables c p e h u ≡ push_entries (bits_from 64 first mask) (tables c p e₀ h₀ u) k
unfolding push_entries
ends k e₀ h₀ first mask e h b o n c p u =
    ap (λ (x : List ℕ). push_entries x (tables c p e h u) k) (sym (pass_none first mask b n)) ∙ o.same c p u

-- The entries of a claim are those of the slots in its mask. Assumes nothing.
use mathlib.Core.Path.{◌≡◌, ◌∙◌}
use Prim.Native.Nat.{ℕ, ◌+◌, ◌*◌, ◌/◌, ◌%◌, ◌<◌}
use native.Mathlib.Nat.{mod-lt, div-add-mod'}
use native.Mathlib.Omega.{arith}
use lib.ListN.{length, get_or}
use lib.Dec.{lit<}
use Rattle.tables.specs.Cells.{entry_of}
use Rattle.span.specs.Span.{claimed_entries}
use Rattle.sound.specs.States.{EntriesOf}
use Rattle.filled_spans.proofs.ClaimKept.{InMask}
use Rattle.claiming.proofs.BitsListed.{bits_at, bits_stand}

-- y is the entry of a slot of span s in the mask
pub record MaskEntry (s i mask y : ℕ) : Type 0 where
  pub slot : ℕ
  pub in_mask : InMask i mask slot
  pub is : y ≡ entry_of s slot

-- A slot of word i, by its bit.
slot_in : (i b : ℕ) → b < 64 → (i * 64 + b) / 64 ≡ i
slot_in i b l = omega arith

slot_bit : (i b : ℕ) → b < 64 → (i * 64 + b) % 64 ≡ b
slot_bit i b l = omega arith

entry_plus : (s a b : ℕ) → entry_of s a + b ≡ entry_of s (a + b)
unfolding entry_of
entry_plus s a b = omega arith

module _ (s i mask : ℕ) where
  -- Each entry is that of a slot in the mask.
  pub claimed_entry : (j : ℕ) → j < length (claimed_entries s i mask) → MaskEntry s i mask (get_or (claimed_entries s i mask) j 0)
  unfolding claimed_entries
  claimed_entry j l =
      let b = bits_at 64 (entry_of s (i * 64)) mask j l in
      record {
        slot = i * 64 + b.bit;
        in_mask = record { word = slot_in i b.bit b.below; bit = rw (slot_bit i b.bit b.below) b.is_one };
        is = b.place ∙ entry_plus s (i * 64) b.bit;
      }

  -- Each slot in the mask has its entry among them.
  pub claimed_has : (q : ℕ) → InMask i mask q → EntriesOf (claimed_entries s i mask) s q
  unfolding claimed_entries
  claimed_has q m =
      let r = bits_stand 64 (entry_of s (i * 64)) mask (q % 64) (mod-lt q (lit< tt)) m.bit in
      record { place = r.place; below = r.below; is = r.is ∙ entry_plus s (i * 64) (q % 64) ∙ at_slot }
    where
      at_slot : entry_of s (i * 64 + q % 64) ≡ entry_of s q
      at_slot = rw (← m.word) (rw (div-add-mod' q 64))

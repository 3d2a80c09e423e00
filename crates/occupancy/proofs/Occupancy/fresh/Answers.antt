-- `Occupancy::fresh` meets its contract: the words filled, with the partial one, are the fresh words. Assumes nothing.
use mathlib.Core.Path.{◌≡◌, refl, ap, ◌∙◌}
use mathlib.Core.List.{List}
use Prim.Native.Nat.{ℕ, ◌-◌, ◌/◌, ◌%◌}
use native.Mathlib.Omega.{arith}
use borrow.Rule.Slice.PartMut.{put_mid}
use lib.ListN.{set, replicate}
use Rattle.std.proofs.lemmas.Nat.Bits.{ones_shl}
use Rattle.occupancy.specs.Occupied.{fresh_words, fresh_of}
use Rattle.occupancy.proofs.FreshLaws.{Filled, filled, filled_whole, filled_partial}
use Rattle.occupancy.proofs.Occupancy.fresh.Goals as goal
use Rattle.occupancy.proofs.Occupancy.fresh.Goals.{then-full_words-lt64, else-full_words-lt64}

pub returns : goal.returns
unfolding fresh_of
returns c =
    let n = c.args.slots in
    let full : ℕ = n / 64 in
    let words : List ℕ = put_mid full (64 - full) (replicate 64 0) c.fill.new.self in
    let f : Filled full words = filled full (replicate 64 0) c.fill.new.self (omega arith) refl (c.fill.ensures.after (λ y e. e)) in
    let e : c.if-full_words-lt64.words ≡ fresh_words 64 n =
    elim c.if-full_words-lt64.branch [
      | then-full_words-lt64 w ↦
          w.words-is ∙ ap (set words full) (ones_shl 64 (n % 64) (omega arith)) ∙ filled_partial n words f w.if-full_words-lt64.true
      | else-full_words-lt64 w ↦ w.words-is ∙ filled_whole n words f w.if-full_words-lt64.false
    ] in
    λ t. record { summary = c.ones_from.ensures t; words = e t; count = 0 }

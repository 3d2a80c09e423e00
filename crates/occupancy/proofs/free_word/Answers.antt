-- `free_word` meets its contract: the rotation and the count of zeros are the scan for the first clear bit. Assumes nothing.
use mathlib.Core.Path.{ap}
use Prim.Native.Nat.{ℕ, ◌%◌}
use native.Mathlib.Nat.{mod-lt}
use lib.Dec.{lit<}
use Rattle.occupancy.proofs.RoomLaws.{free_word_is}
use Rattle.occupancy.proofs.free_word.Goals as goal

pub returns : goal.returns
returns c =
    let a = c.args in
    rw (c.from.ensures, c.rotate_right-turned.ensures)
    (ap (λ (z : ℕ). z % 64) (free_word_is a.summary (a.random % 64) c.requires (mod-lt a.random (lit< tt))))

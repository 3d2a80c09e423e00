-- 01's worked trace as a batch, on 4 heaps and 32 spans, and the class summary after it. Assumes nothing.
use mathlib.Core.Path.{◌≡◌, refl}
use mathlib.Core.List.{List, [], ◌∷◌, ◌++◌}
use Prim.Native.Nat.{ℕ}
use lib.ListN.{take, drop, replicate}
use Rattle.tables.specs.Shape.{Shape, base_shape}
use Rattle.tables.specs.Cells.{Tables, tables}
use Rattle.calls.specs.Batch.{Batched, batch}
use Rattle.calls.specs.Summary.{class_record}
use Rattle.calls.proofs.Computed.{computed}

abbrev shape : Shape
shape = base_shape 4 32

abbrev fresh : Tables
fresh = tables (replicate 4160 0) (replicate 160 0) (replicate 3168 0) (replicate 960 0) 0

-- "heap 0 allocates (131072,1,seed 0); heap 1 frees (0,655360); heap 0 frees the same; heap 1 allocates (0,0,seed 0)"
abbrev records : List ℕ
records =
    (0xA5 ∷ 0x5A ∷ 1 ∷ 0 ∷ 0 ∷ 0 ∷ 2 ∷ 0 ∷ 0 ∷ 0 ∷ 0 ∷ 0 ∷ 1 ∷ replicate 15 0) ++
    (0xA5 ∷ 0x5A ∷ 2 ∷ 1 ∷ replicate 8 0 ++ (0 ∷ 0 ∷ 10 ∷ replicate 13 0)) ++
    (0xA5 ∷ 0x5A ∷ 2 ∷ 0 ∷ replicate 8 0 ++ (0 ∷ 0 ∷ 10 ∷ replicate 13 0)) ++
    (0xA5 ∷ 0x5A ∷ 1 ∷ 1 ∷ replicate 24 0)

-- thirteen answer cells for four records
abbrev done : Batched
done = batch shape fresh records (replicate 13 77)

pub record WorkedTrace : Type 0 where
  pub number : done.number ≡ 0
  -- "A 1 0 0 655360", "A 2 0 0 655360", "A 3 8 0 0", "A 4 0 1 336"; "Cells past the last answer stay."
  pub answers :
      done.answers ≡ 0 ∷ 0 ∷ 655360 ∷ 0 ∷ 0 ∷ 655360 ∷ 8 ∷ 0 ∷ 0 ∷ 0 ∷ 1 ∷ 336 ∷ 77 ∷ []
  -- "S 0 131072 0 F 8 1 7", "S 1 16 1 P 64 0 63": class, owner, occupied, previous, next of both; the heads of class 47 of heap 0 and of class 0 of heap 1
  pub spans : take 10 done.table.spans ≡ 47 ∷ 0 ∷ 8 ∷ 0 ∷ 0 ∷ 0 ∷ 1 ∷ 64 ∷ 0 ∷ 0 ∷ []
  pub heads : take 10 (drop 235 done.table.heads) ≡ 0 ∷ 1 ∷ 0 ∷ 0 ∷ 7 ∷ 2 ∷ 0 ∷ 0 ∷ 0 ∷ 63 ∷ []
  pub used : done.table.used ≡ 2
  -- spans, slots, used, cached, pending
  pub class47 : class_record shape done.table 47 ≡ 1 ∷ 8 ∷ 8 ∷ 7 ∷ 1 ∷ []
  pub class0 : class_record shape done.table 0 ≡ 1 ∷ 4096 ∷ 64 ∷ 63 ∷ 0 ∷ []

pub worked : WorkedTrace
unfolding computed
worked =
    record { number = refl; answers = refl; spans = refl; heads = refl; used = refl; class47 = refl; class0 = refl }

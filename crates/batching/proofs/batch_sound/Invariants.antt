-- `batching::batch_sound` meets its contract. The loop's invariant: the records before i are answered. Assumes nothing.
use Rattle.tables.specs.Lent.{cells, SameLent}
use Rattle.batching.proofs.BatchLoop.{Answering}
use Rattle.batching.proofs.batch_sound.Given as goal

abbrev pub invariant-loop-i : goal.invariant-loop-i
invariant-loop-i l = record {
  lent : SameLent l.initial.tables l.tables;
  answering : Answering l.shape l.bytes l.initial.answers (cells l.initial.tables) l.answers (cells l.tables) l.i l.i-end;
}

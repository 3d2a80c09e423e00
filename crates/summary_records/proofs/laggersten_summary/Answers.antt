-- `laggersten_summary` meets its contract: the counted numbers are written, or none. Assumes nothing.
use Rattle.summary_records.proofs.CountedLaws.{counted_there, structs_written, structs_stay}
use Rattle.summary_records.proofs.laggersten_summary.Goals as goal

pub write-requires : goal.write-requires
write-requires c = λ i h. counted_there _ _ _ c.in-Ok.ensures h

pub returns-in-Ok : goal.returns-in-Ok
returns-in-Ok c = rw c.write.ensures (structs_written _ _ _ c.args.out.now c.in-Ok.ensures)

pub returns-in-Err : goal.returns-in-Err
returns-in-Err c = rw c.from.ensures (structs_stay _ _ _ c.args.out.now _ c.in-Err.ensures)

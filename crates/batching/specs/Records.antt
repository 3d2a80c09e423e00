-- The call that a batch's record asks for. Assumes nothing.
use Rattle.std.specs.Prelude.{Option, Some, None}
use Rattle.calls.specs.Calls.{words_needed}
use Rattle.calls.specs.Run.{Call, allocation, release, malformed}
use Rattle.calls.specs.Batch.{words_from}
use Rattle.batching.specs.declared.Record.{Record}
use Rattle.batching.specs.declared.Record.TheVariants.{Allocate, Free}

-- no record is a malformed one
abbrev pub call_of : Option Record → Call
call_of (Some (Allocate heap size alignment seed)) = allocation heap size alignment (words_from words_needed seed)
call_of (Some (Free heap span offset)) = release heap span offset
call_of None = malformed

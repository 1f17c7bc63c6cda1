-- What becomes of a request that was sent over a connection.
use Rattle.std.specs.Prelude.{Bool, true, false, not, ◌&&◌, Result, Ok, Err}
use Rattle.wire.specs.declared.answer.BackendAnswer.{BackendAnswer}
use Rattle.wire.specs.declared.answer.BackendAnswer.TheVariants as answer
use Rattle.wire.specs.Response.{ResponseValue}
use Rattle.wire.specs.declared.fault.WireFault.{WireFault}
use Rattle.wire.specs.declared.fault.WireFault.TheVariants as fault
use Rattle.tcp_backend.specs.declared.attempt.Attempt.{Attempt}

-- STALE is a connection that had been kept, over which no byte of an answer came
abbrev pub is_stale : {S E : Type 0} → Bool → Attempt S E → Bool
is_stale reused attempt = reused && not attempt.is_heard

-- a response was read; out of memory and a body that isn't held are the gateway's own; a call that
-- failed where the last look found its deadline reached is late; all else is the connection's
-- fault, which was stale or broke
abbrev pub answer_of : Result ResponseValue WireFault → Bool → Bool → BackendAnswer
answer_of (Ok response) is_over stale = answer.Answered response
answer_of (Err fault.Memory) is_over stale = answer.Memory
answer_of (Err fault.Bodies) is_over stale = answer.Bodies
answer_of (Err fault.Read) true stale = answer.Late
answer_of (Err fault.Write) true stale = answer.Late
answer_of (Err other) is_over true = answer.Stale other
answer_of (Err other) is_over false = answer.Broken other

-- What was written of a request.
use Rattle.std.specs.Prelude.{Option}
use Rattle.timed_io.specs.declared.countdown.Countdown.{Countdown}
use Rattle.tcp_backend.specs.declared.unanswered.UnansweredWrite.{UnansweredWrite}

-- the end that is written to
abbrev pub end_of : {S E C : Type 0} → UnansweredWrite S E C → E
end_of writer = writer.end

-- the countdown of its call, where that is limited
abbrev pub writer_time : {S E C : Type 0} → UnansweredWrite S E C → Option (Countdown C)
writer_time writer = writer.time

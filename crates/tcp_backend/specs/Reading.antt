-- How an answer is read.
use Rattle.std.specs.Prelude.{ℕ, zero, suc, Bool, true, false, Option, Result, Ok, Err}
use Rattle.tcp_backend.specs.declared.answer_read.AnswerRead.{AnswerRead}
use Rattle.timed_io.specs.declared.countdown.Countdown.{Countdown}

-- the countdown of its call, where that is limited
abbrev pub reader_time : {S C : Type 0} → AnswerRead S C → Option (Countdown C)
reader_time reader = reader.time

-- whether a byte of the answer came
abbrev pub is_heard : {S C : Type 0} → AnswerRead S C → Bool
is_heard reader = reader.is_heard

-- a read gives bytes that neither fails nor finds the end
abbrev pub gives_bytes : {E : Type 0} → Result ℕ E → Bool
gives_bytes (Ok zero) = false
gives_bytes (Ok (suc count)) = true
gives_bytes (Err fault) = false

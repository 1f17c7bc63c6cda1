use Rattle.std.specs.Prelude.{◌≡◌}
use Rattle.tcp_backend.specs.CallTime.{Stands, countdown_to}
use Rattle.tcp_backend.specs.Reading.{is_heard, reader_time}
use Rattle.tcp_backend.proofs.answer_read.AnswerReadRead.read.Given as goal

-- the reads so far left the deadline as it was, and gave no bytes
abbrev pub invariant-loop : goal.invariant-loop
invariant-loop g l = record {
  deadline : Stands (countdown_to (reader_time l.fn.self)) (countdown_to (reader_time l.self));
  heard : is_heard l.self ≡ is_heard l.fn.self;
}

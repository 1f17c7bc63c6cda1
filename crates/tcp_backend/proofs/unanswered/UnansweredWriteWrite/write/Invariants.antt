use Rattle.std.specs.Io.KnownBytes.{Keeps}
use Rattle.tcp_backend.specs.CallTime.{Stands, countdown_to}
use Rattle.tcp_backend.specs.Sent.{end_of, writer_time}
use Rattle.tcp_backend.proofs.unanswered.UnansweredWriteWrite.write.Given as goal

-- the calls so far left the known bytes and the deadline as they were
abbrev pub invariant-loop : goal.invariant-loop
invariant-loop g l = record {
  kept : Keeps (g.E.RequestOutlet.contents (end_of l.fn.self))
      (g.E.RequestOutlet.contents (end_of l.self));
  deadline : Stands (countdown_to (writer_time l.fn.self)) (countdown_to (writer_time l.self));
}

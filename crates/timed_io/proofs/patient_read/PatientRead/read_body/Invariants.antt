use Rattle.std.proofs.Common.{◌≤◌}
use Rattle.std.specs.Duration.{as_nanos}
use Rattle.std.specs.Io.KnownBytes.{Keeps}
use Rattle.timed_io.specs.Timed.{patient_in}
use Rattle.timed_io.proofs.patient_read.PatientRead.read_body.Given as goal

-- the waits so far left the known bytes as they were, and were of what there was
abbrev pub invariant-loop : goal.invariant-loop
invariant-loop g l = record {
  kept : Keeps (g.R.LimitedRead.remaining (patient_in l.fn.self))
      (g.R.LimitedRead.remaining (patient_in l.self));
  left : as_nanos l.left ≤ as_nanos l.fn.most;
}

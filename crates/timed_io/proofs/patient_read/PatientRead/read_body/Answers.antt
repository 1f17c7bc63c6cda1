use Rattle.std.proofs.Common.{rules}
use Rattle.timed_io.proofs.patient_read.PatientRead.read_body.Goals as goal

pub returns-in-TooSlow-clause-bytes : goal.returns-in-TooSlow-clause-bytes
returns-in-TooSlow-clause-bytes g c = search rules

pub returns-in_default-clause-bytes : goal.returns-in_default-clause-bytes
returns-in_default-clause-bytes g c = search rules

pub loop-preserved : goal.loop-preserved
loop-preserved g c = search rules

use Rattle.std.proofs.Common.{rules}
use Rattle.timed_io.proofs.patient_read.PatientRead.read_head.Goals as goal

pub returns-then-is_let_go-clause-bytes : goal.returns-then-is_let_go-clause-bytes
returns-then-is_let_go-clause-bytes g c = search rules

pub returns-in_default-clause-bytes : goal.returns-in_default-clause-bytes
returns-in_default-clause-bytes g c = search rules

pub loop-preserved : goal.loop-preserved
loop-preserved g c = search rules

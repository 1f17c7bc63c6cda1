use Rattle.std.proofs.Common.{rules}
use Rattle.serve_command.proofs.reading.read_config.Goals as goal

pub returns-in-Ok-clause-text : goal.returns-in-Ok-clause-text
returns-in-Ok-clause-text c = search rules

pub returns-in-Ok-clause-refused : goal.returns-in-Ok-clause-refused
returns-in-Ok-clause-refused c = search rules

pub returns-in-Err-clause-text : goal.returns-in-Err-clause-text
returns-in-Err-clause-text c = search rules

-- the fault is that of the file which was not had
pub returns-in-Err-clause-refused : goal.returns-in-Err-clause-refused
returns-in-Err-clause-refused g c =
    (c.in-Err.unread, c.into_fault-fault.ensures, c.in-Err.ensures.refused)

use Rattle.std.proofs.Common.{rules}
use Rattle.script.proofs.settings.make_table.Goals as goal

pub returns-in-Ok : goal.returns-in-Ok
returns-in-Ok c = search rules

pub returns-in-Err-Memory : goal.returns-in-Err-Memory
returns-in-Err-Memory c = search rules

pub returns-in-Err : goal.returns-in-Err
returns-in-Err c = search rules

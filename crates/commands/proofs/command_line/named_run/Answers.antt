use Rattle.std.proofs.Common.{rules}
use Rattle.commands.proofs.command_line.named_run.Goals as goal

pub returns-clause-run : goal.returns-clause-run
returns-clause-run c = search rules

pub returns-clause-none : goal.returns-clause-none
returns-clause-none c = search rules

pub returns-in_err-name-clause-none : goal.returns-in_err-name-clause-none
returns-in_err-name-clause-none c = search rules

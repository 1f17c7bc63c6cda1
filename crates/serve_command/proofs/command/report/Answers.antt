use Rattle.std.proofs.Common.{rules}
use Rattle.serve_command.proofs.command.report.Goals as goal

pub returns-clause-status : goal.returns-clause-status
returns-clause-status g c = search rules

pub returns-clause-told : goal.returns-clause-told
returns-clause-told g c = search rules

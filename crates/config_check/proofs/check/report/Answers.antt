use Rattle.std.proofs.Common.{rules}
use Rattle.config_check.proofs.check.report.Goals as goal

pub returns-clause-told : goal.returns-clause-told
returns-clause-told c = search rules

pub returns-clause-status : goal.returns-clause-status
returns-clause-status c = search rules

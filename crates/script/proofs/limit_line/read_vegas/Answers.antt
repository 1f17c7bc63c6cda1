use Rattle.std.proofs.Common.{rules}
use Rattle.script.proofs.limit_line.read_vegas.Goals as goal

pub returns-in_err-limits : goal.returns-in_err-limits
returns-in_err-limits c = search rules

pub returns-in_err-alpha : goal.returns-in_err-alpha
returns-in_err-alpha c = search rules

pub returns-in_err-beta : goal.returns-in_err-beta
returns-in_err-beta c = search rules

pub returns : goal.returns
returns c = search rules

use Rattle.std.proofs.Common.{rules}
use Rattle.script.proofs.limit_line.read_limits.Goals as goal

pub returns-in_err-limits : goal.returns-in_err-limits
returns-in_err-limits c = search rules

pub returns-then-is_some : goal.returns-then-is_some
returns-then-is_some c = search rules

pub returns : goal.returns
returns c = search rules

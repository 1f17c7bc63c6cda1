use Rattle.std.proofs.Common.{rules}
use Rattle.limit_kinds.proofs.kinds.AnyLimitLimit.copy.Goals as goal

pub returns-in-Plain : goal.returns-in-Plain
returns-in-Plain c = search rules

pub returns-in-Windowed : goal.returns-in-Windowed
returns-in-Windowed c = search rules

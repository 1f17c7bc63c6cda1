use Rattle.std.proofs.Common.{rules}
use Rattle.limit_kinds.proofs.kinds.AnyLimitLimit.limit.Goals as goal

pub returns-in-Plain-clause-value : goal.returns-in-Plain-clause-value
returns-in-Plain-clause-value c = search rules

pub returns-in-Plain-clause-within : goal.returns-in-Plain-clause-within
returns-in-Plain-clause-within c = search rules

pub returns-in-Windowed-clause-value : goal.returns-in-Windowed-clause-value
returns-in-Windowed-clause-value c = search rules

pub returns-in-Windowed-clause-within : goal.returns-in-Windowed-clause-within
returns-in-Windowed-clause-within c = search rules

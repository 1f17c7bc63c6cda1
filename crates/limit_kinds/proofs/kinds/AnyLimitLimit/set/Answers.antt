use Rattle.std.proofs.Common.{rules}
use Rattle.limit_kinds.proofs.kinds.AnyLimitLimit.set.Goals as goal

pub returns-in-Plain-clause-taken : goal.returns-in-Plain-clause-taken
returns-in-Plain-clause-taken c = search rules

pub returns-in-Plain-clause-refused : goal.returns-in-Plain-clause-refused
returns-in-Plain-clause-refused c = search rules

pub returns-in-Plain-clause-unchanged : goal.returns-in-Plain-clause-unchanged
returns-in-Plain-clause-unchanged c = search rules

pub returns-in-Windowed-clause-taken : goal.returns-in-Windowed-clause-taken
returns-in-Windowed-clause-taken c = search rules

pub returns-in-Windowed-clause-refused : goal.returns-in-Windowed-clause-refused
returns-in-Windowed-clause-refused c = search rules

pub returns-in-Windowed-clause-unchanged : goal.returns-in-Windowed-clause-unchanged
returns-in-Windowed-clause-unchanged c = search rules

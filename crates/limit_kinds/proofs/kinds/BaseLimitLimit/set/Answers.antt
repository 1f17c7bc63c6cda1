use Rattle.std.proofs.Common.{rules}
use Rattle.limit_kinds.proofs.kinds.BaseLimitLimit.set.Goals as goal

pub returns-in-Fixed-clause-taken : goal.returns-in-Fixed-clause-taken
returns-in-Fixed-clause-taken c = search rules

pub returns-in-Fixed-clause-refused : goal.returns-in-Fixed-clause-refused
returns-in-Fixed-clause-refused c = search rules

pub returns-in-Fixed-clause-unchanged : goal.returns-in-Fixed-clause-unchanged
returns-in-Fixed-clause-unchanged c = search rules

pub returns-in-Settable-clause-taken : goal.returns-in-Settable-clause-taken
returns-in-Settable-clause-taken c = search rules

pub returns-in-Settable-clause-refused : goal.returns-in-Settable-clause-refused
returns-in-Settable-clause-refused c = search rules

pub returns-in-Settable-clause-unchanged : goal.returns-in-Settable-clause-unchanged
returns-in-Settable-clause-unchanged c = search rules

pub returns-in-Aimd-clause-taken : goal.returns-in-Aimd-clause-taken
returns-in-Aimd-clause-taken c = search rules

pub returns-in-Aimd-clause-refused : goal.returns-in-Aimd-clause-refused
returns-in-Aimd-clause-refused c = search rules

pub returns-in-Aimd-clause-unchanged : goal.returns-in-Aimd-clause-unchanged
returns-in-Aimd-clause-unchanged c = search rules

pub returns-in-Vegas-clause-taken : goal.returns-in-Vegas-clause-taken
returns-in-Vegas-clause-taken c = search rules

pub returns-in-Vegas-clause-refused : goal.returns-in-Vegas-clause-refused
returns-in-Vegas-clause-refused c = search rules

pub returns-in-Vegas-clause-unchanged : goal.returns-in-Vegas-clause-unchanged
returns-in-Vegas-clause-unchanged c = search rules

pub returns-in-Auto-clause-taken : goal.returns-in-Auto-clause-taken
returns-in-Auto-clause-taken c = search rules

pub returns-in-Auto-clause-refused : goal.returns-in-Auto-clause-refused
returns-in-Auto-clause-refused c = search rules

pub returns-in-Auto-clause-unchanged : goal.returns-in-Auto-clause-unchanged
returns-in-Auto-clause-unchanged c = search rules

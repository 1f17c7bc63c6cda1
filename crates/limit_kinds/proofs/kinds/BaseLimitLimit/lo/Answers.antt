use Rattle.std.proofs.Common.{rules}
use Rattle.limit_kinds.proofs.kinds.BaseLimitLimit.lo.Goals as goal

pub returns-in-Fixed-clause-value : goal.returns-in-Fixed-clause-value
returns-in-Fixed-clause-value c = search rules

pub returns-in-Fixed-clause-within : goal.returns-in-Fixed-clause-within
returns-in-Fixed-clause-within c = search rules

pub returns-in-Settable-clause-value : goal.returns-in-Settable-clause-value
returns-in-Settable-clause-value c = search rules

pub returns-in-Settable-clause-within : goal.returns-in-Settable-clause-within
returns-in-Settable-clause-within c = search rules

pub returns-in-Aimd-clause-value : goal.returns-in-Aimd-clause-value
returns-in-Aimd-clause-value c = search rules

pub returns-in-Aimd-clause-within : goal.returns-in-Aimd-clause-within
returns-in-Aimd-clause-within c = search rules

pub returns-in-Vegas-clause-value : goal.returns-in-Vegas-clause-value
returns-in-Vegas-clause-value c = search rules

pub returns-in-Vegas-clause-within : goal.returns-in-Vegas-clause-within
returns-in-Vegas-clause-within c = search rules

pub returns-in-Auto-clause-value : goal.returns-in-Auto-clause-value
returns-in-Auto-clause-value c = search rules

pub returns-in-Auto-clause-within : goal.returns-in-Auto-clause-within
returns-in-Auto-clause-within c = search rules

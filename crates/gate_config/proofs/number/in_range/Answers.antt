use Rattle.std.proofs.Common.{rules}
use Rattle.gate_config.proofs.number.in_range.Goals as goal

pub returns-then-number-from-clause-within : goal.returns-then-number-from-clause-within
returns-then-number-from-clause-within c = search rules

pub returns-then-number-from-clause-value : goal.returns-then-number-from-clause-value
returns-then-number-from-clause-value c = search rules

pub returns-else-from-number-clause-within : goal.returns-else-from-number-clause-within
returns-else-from-number-clause-within c = search rules

pub returns-else-from-number-clause-value : goal.returns-else-from-number-clause-value
returns-else-from-number-clause-value c = search rules

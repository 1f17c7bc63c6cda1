use Rattle.std.proofs.Common.{rules}
use Rattle.limiter_core.proofs.permits.Permits.total.Goals as goal

pub returns-clause-value : goal.returns-clause-value
returns-clause-value c = search rules

pub returns-clause-within : goal.returns-clause-within
returns-clause-within c = search rules

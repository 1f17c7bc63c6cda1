use Rattle.std.proofs.Common.{rules}
use Rattle.limiter_core.proofs.state.moment_of.Goals as goal

pub returns-in-End : goal.returns-in-End
returns-in-End c = search rules

pub returns-in-All-LimitSet : goal.returns-in-All-LimitSet
returns-in-All-LimitSet c = search rules

pub returns-in_default : goal.returns-in_default
returns-in_default c = search rules

pub returns-in-All : goal.returns-in-All
returns-in-All c = search rules

pub returns-in-Newest : goal.returns-in-Newest
returns-in-Newest c = search rules

pub returns-in-Acquire : goal.returns-in-Acquire
returns-in-Acquire c = search rules

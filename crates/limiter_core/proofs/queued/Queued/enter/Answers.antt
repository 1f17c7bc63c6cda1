use Rattle.std.proofs.Common.{rules}
use Rattle.limiter_core.proofs.queued.Queued.enter.Goals as goal

pub returns-clause-places : goal.returns-clause-places
returns-clause-places c = search rules

use Rattle.std.proofs.Common.{rules}
use Rattle.windowed.proofs.windowed.WindowedLimit.lo.Goals as goal

pub returns-clause-value : goal.returns-clause-value
returns-clause-value g c = search rules

use Rattle.std.proofs.Common.{rules}
use Rattle.windowed.proofs.windowed.WindowedLimit.copy.Goals as goal

pub returns : goal.returns
returns g c = search rules

use Rattle.std.proofs.Common.{rules}
use Rattle.windowed.proofs.settings.WindowSettings.min_rtt.Goals as goal

pub returns : goal.returns
returns c = search rules

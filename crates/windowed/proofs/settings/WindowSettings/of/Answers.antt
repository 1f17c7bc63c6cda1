use Rattle.std.proofs.Common.{rules}
use Rattle.windowed.proofs.settings.WindowSettings.of.Goals as goal

pub returns-clause-made : goal.returns-clause-made
returns-clause-made c = search rules

pub returns-clause-value : goal.returns-clause-value
returns-clause-value c = search rules

use Rattle.std.proofs.Common.{rules}
use Rattle.windowed.proofs.windowed.Windowed.with_settings.Goals as goal

pub returns : goal.returns
returns c = search rules

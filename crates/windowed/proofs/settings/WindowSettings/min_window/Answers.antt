use Rattle.std.proofs.Common.{rules}
use Rattle.windowed.proofs.settings.WindowSettings.min_window.Goals as goal

pub returns : goal.returns
returns c = search rules

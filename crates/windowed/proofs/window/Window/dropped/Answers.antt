use Rattle.std.proofs.Common.{rules}
use Rattle.windowed.proofs.window.Window.dropped.Goals as goal

pub returns : goal.returns
returns c = search rules

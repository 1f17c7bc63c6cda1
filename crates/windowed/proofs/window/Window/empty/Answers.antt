use Rattle.std.proofs.Common.{rules}
use Rattle.windowed.proofs.window.Window.empty.Goals as goal

pub returns : goal.returns
returns c = search rules

use Rattle.std.proofs.Common.{rules}
use Rattle.commands.proofs.interface.described.Goals as goal

pub returns : goal.returns
returns c = search rules

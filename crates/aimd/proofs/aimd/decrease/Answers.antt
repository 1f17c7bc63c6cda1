use Rattle.std.proofs.Common.{rules}
use Rattle.aimd.proofs.aimd.decrease.Goals as goal

pub returns-clause-greatest : goal.returns-clause-greatest
returns-clause-greatest c = search rules

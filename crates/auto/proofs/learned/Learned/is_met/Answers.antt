use Rattle.std.proofs.Common.{rules}
use Rattle.auto.proofs.learned.Learned.is_met.Goals as goal

pub returns : goal.returns
returns c = search rules

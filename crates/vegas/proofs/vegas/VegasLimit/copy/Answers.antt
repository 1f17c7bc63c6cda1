use Rattle.std.proofs.Common.{rules}
use Rattle.vegas.proofs.vegas.VegasLimit.copy.Goals as goal

pub returns : goal.returns
returns c = search rules

use Rattle.std.proofs.Common.{rules}
use Rattle.limit_kinds.proofs.kinds.BaseLimitLimit.copy.Goals as goal

pub returns : goal.returns
returns c = search rules

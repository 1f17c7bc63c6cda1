use Rattle.std.proofs.Common.{rules}
use Rattle.gate_config.proofs.build.limit.windows.Goals as goal

pub returns : goal.returns
returns c = search rules

use Rattle.std.proofs.Common.{rules}
use Rattle.gate_config.proofs.allowed.is_called.Goals as goal

pub returns : goal.returns
returns c = search rules

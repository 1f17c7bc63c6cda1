use Rattle.std.proofs.Common.{rules}
use Rattle.gate_config.proofs.reading.version_of.Goals as goal

pub returns-in-1 : goal.returns-in-1
returns-in-1 c = search rules

pub returns-in-2 : goal.returns-in-2
returns-in-2 c = search rules

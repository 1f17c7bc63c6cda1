use Rattle.std.proofs.Common.{rules}
use Rattle.gate_config.proofs.build.limit.any_limit.Goals as goal

pub returns-in-Some : goal.returns-in-Some
returns-in-Some c = search rules

use Rattle.std.proofs.Common.{rules}
use Rattle.gate_config.proofs.bypass.BypassKeys.keys.Goals as goal

pub returns-in-Method : goal.returns-in-Method
returns-in-Method c = search rules

pub returns-in-Prefix : goal.returns-in-Prefix
returns-in-Prefix c = search rules

pub returns-in-Header : goal.returns-in-Header
returns-in-Header c = search rules

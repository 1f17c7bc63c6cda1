use Rattle.std.proofs.Common.{rules}
use Rattle.gate_config.proofs.bypass.BypassKind.named.Goals as goal

pub returns-in-method : goal.returns-in-method
returns-in-method c = search rules

pub returns-in-prefix : goal.returns-in-prefix
returns-in-prefix c = search rules

pub returns-in-header : goal.returns-in-header
returns-in-header c = search rules

pub returns-in_default : goal.returns-in_default
returns-in_default c = search rules

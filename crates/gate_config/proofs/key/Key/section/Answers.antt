use Rattle.std.proofs.Common.{rules}
use Rattle.gate_config.proofs.key.Key.section.Goals as goal

pub returns-in-Version : goal.returns-in-Version
returns-in-Version c = search rules

pub returns-in-LimitKind : goal.returns-in-LimitKind
returns-in-LimitKind c = search rules

pub returns-in-WindowSize : goal.returns-in-WindowSize
returns-in-WindowSize c = search rules

pub returns-in-ClassName : goal.returns-in-ClassName
returns-in-ClassName c = search rules

pub returns-in-ResolverKind : goal.returns-in-ResolverKind
returns-in-ResolverKind c = search rules

pub returns-in-BypassKind : goal.returns-in-BypassKind
returns-in-BypassKind c = search rules

use Rattle.std.proofs.Common.{rules}
use Rattle.gate_config.proofs.resolver.ResolverKeys.keys.Goals as goal

pub returns-in-Header : goal.returns-in-Header
returns-in-Header c = search rules

pub returns-in-Method : goal.returns-in-Method
returns-in-Method c = search rules

pub returns-in-Route : goal.returns-in-Route
returns-in-Route c = search rules

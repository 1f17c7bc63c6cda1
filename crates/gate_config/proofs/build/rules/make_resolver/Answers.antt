use Rattle.std.proofs.Common.{rules}
use Rattle.gate_config.proofs.build.rules.make_resolver.Goals as goal

pub returns-in_ok-method-in-Method : goal.returns-in_ok-method-in-Method
returns-in_ok-method-in-Method c = search rules

use Rattle.std.proofs.Common.{rules}
use Rattle.gate_config.proofs.resolver.routes_at.Goals as goal

pub returns-then-are_classes : goal.returns-then-are_classes
returns-then-are_classes c = search rules

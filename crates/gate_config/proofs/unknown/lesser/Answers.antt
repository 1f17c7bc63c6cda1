use Rattle.std.proofs.Common.{rules}
use Rattle.gate_config.proofs.unknown.lesser.Goals as goal

pub returns-in-None : goal.returns-in-None
returns-in-None c = search rules

pub returns-then-is_before : goal.returns-then-is_before
returns-then-is_before c = search rules

pub returns-else-is_before : goal.returns-else-is_before
returns-else-is_before c = search rules

use Rattle.std.proofs.Common.{rules}
use Rattle.gate_config.proofs.text.read_prefix.Goals as goal

pub returns-in_err-text : goal.returns-in_err-text
returns-in_err-text c = search rules

pub returns-then-starts_with : goal.returns-then-starts_with
returns-then-starts_with c = search rules

pub returns-else-starts_with : goal.returns-else-starts_with
returns-else-starts_with c = search rules

use Rattle.std.proofs.Common.{rules}
use Rattle.gate_config.proofs.text.read_token.Goals as goal

pub returns-in_err-text : goal.returns-in_err-text
returns-in_err-text c = search rules

pub returns-then-is_token : goal.returns-then-is_token
returns-then-is_token c = search rules

pub returns-else-is_token : goal.returns-else-is_token
returns-else-is_token c = search rules

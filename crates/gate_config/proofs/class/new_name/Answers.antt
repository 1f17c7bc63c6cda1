use Rattle.std.proofs.Common.{rules}
use Rattle.gate_config.proofs.class.new_name.Goals as goal

pub returns-in_err-text : goal.returns-in_err-text
returns-in_err-text c = search rules

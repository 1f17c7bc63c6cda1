use Rattle.std.proofs.Common.{rules}
use Rattle.gate_config.proofs.key_text.push_escaped.Goals as goal

pub returns-in-34 : goal.returns-in-34
returns-in-34 c = search rules

pub returns-in-92 : goal.returns-in-92
returns-in-92 c = search rules

pub returns-in-8 : goal.returns-in-8
returns-in-8 c = search rules

pub returns-in-9 : goal.returns-in-9
returns-in-9 c = search rules

pub returns-in-10 : goal.returns-in-10
returns-in-10 c = search rules

pub returns-in-12 : goal.returns-in-12
returns-in-12 c = search rules

pub returns-in-13 : goal.returns-in-13
returns-in-13 c = search rules

pub returns-in_default : goal.returns-in_default
returns-in_default c = search rules

pub returns-in-0-to-31 : goal.returns-in-0-to-31
returns-in-0-to-31 c = search rules

use Rattle.std.proofs.Common.{rules}
use Rattle.script.proofs.setting.read_rolling.Goals as goal

pub returns-in_default : goal.returns-in_default
returns-in_default c = search rules

pub returns : goal.returns
returns c = search rules

pub returns-then-is_some : goal.returns-then-is_some
returns-then-is_some c = search rules

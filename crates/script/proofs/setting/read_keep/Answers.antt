use Rattle.std.proofs.Common.{rules}
use Rattle.script.proofs.setting.read_keep.Goals as goal

pub returns-in_err-entries : goal.returns-in_err-entries
returns-in_err-entries c = search rules

pub returns-in_err-is_rolling : goal.returns-in_err-is_rolling
returns-in_err-is_rolling c = search rules

pub returns : goal.returns
returns c = search rules

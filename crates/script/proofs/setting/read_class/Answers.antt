use Rattle.std.proofs.Common.{rules}
use Rattle.script.proofs.setting.read_class.Goals as goal

pub returns-in_err-name : goal.returns-in_err-name
returns-in_err-name c = search rules

pub returns-in_err-percent : goal.returns-in_err-percent
returns-in_err-percent c = search rules

pub returns : goal.returns
returns c = search rules

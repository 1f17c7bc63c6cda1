use Rattle.std.proofs.Common.{rules}
use Rattle.script.proofs.setting.read_share.Goals as goal

pub returns-in_err-name : goal.returns-in_err-name
returns-in_err-name c = search rules

pub returns-in_err-thousandths : goal.returns-in_err-thousandths
returns-in_err-thousandths c = search rules

pub returns : goal.returns
returns c = search rules

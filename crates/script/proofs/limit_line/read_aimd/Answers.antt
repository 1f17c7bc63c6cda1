use Rattle.std.proofs.Common.{rules}
use Rattle.script.proofs.limit_line.read_aimd.Goals as goal

pub returns-in_err-limits : goal.returns-in_err-limits
returns-in_err-limits c = search rules

pub returns-in_err-ratio_thousandths : goal.returns-in_err-ratio_thousandths
returns-in_err-ratio_thousandths c = search rules

pub returns : goal.returns
returns c = search rules

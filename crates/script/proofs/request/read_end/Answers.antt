use Rattle.std.proofs.Common.{rules}
use Rattle.script.proofs.request.read_end.Goals as goal

pub returns-in_err-number : goal.returns-in_err-number
returns-in_err-number c = search rules

pub returns-in_err-outcome : goal.returns-in_err-outcome
returns-in_err-outcome c = search rules

pub returns-in_err-outcome-2 : goal.returns-in_err-outcome-2
returns-in_err-outcome-2 c = search rules

pub returns-in_err-now : goal.returns-in_err-now
returns-in_err-now c = search rules

pub returns : goal.returns
returns c = search rules

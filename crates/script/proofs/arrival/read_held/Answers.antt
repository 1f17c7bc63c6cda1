use Rattle.std.proofs.Common.{rules}
use Rattle.script.proofs.arrival.read_held.Goals as goal

pub returns-in_err-outcome : goal.returns-in_err-outcome
returns-in_err-outcome c = search rules

pub returns-in_err-outcome-2 : goal.returns-in_err-outcome-2
returns-in_err-outcome-2 c = search rules

pub returns-in_err-wait : goal.returns-in_err-wait
returns-in_err-wait c = search rules

pub returns : goal.returns
returns c = search rules

use Rattle.std.proofs.Common.{rules}
use Rattle.script.proofs.request.read_acquire.Goals as goal

pub returns-in_err-class : goal.returns-in_err-class
returns-in_err-class c = search rules

pub returns-in_err-now : goal.returns-in_err-now
returns-in_err-now c = search rules

pub returns-in_err-wait : goal.returns-in_err-wait
returns-in_err-wait c = search rules

pub returns : goal.returns
returns c = search rules

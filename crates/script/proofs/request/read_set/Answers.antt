use Rattle.std.proofs.Common.{rules}
use Rattle.script.proofs.request.read_set.Goals as goal

pub returns-in_default : goal.returns-in_default
returns-in_default c = search rules

pub returns : goal.returns
returns c = search rules

pub returns-in_err-limit : goal.returns-in_err-limit
returns-in_err-limit c = search rules

use Rattle.std.proofs.Common.{rules}
use Rattle.script.proofs.limit_line.read_fixed.Goals as goal

pub returns-in_err-read_lone_number : goal.returns-in_err-read_lone_number
returns-in_err-read_lone_number c = search rules

pub returns : goal.returns
returns c = search rules

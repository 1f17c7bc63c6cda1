use Rattle.std.proofs.Common.{rules}
use Rattle.script.proofs.numbers.read_lone_number.Goals as goal

pub returns-in_err-number : goal.returns-in_err-number
returns-in_err-number c = search rules

pub returns-then-is_some : goal.returns-then-is_some
returns-then-is_some c = search rules

pub returns : goal.returns
returns c = search rules

use Rattle.std.proofs.Common.{rules}
use Rattle.script.proofs.numbers.read_number_pair.Goals as goal

pub returns-in_err-first : goal.returns-in_err-first
returns-in_err-first c = search rules

pub returns-in_err-read_lone_number : goal.returns-in_err-read_lone_number
returns-in_err-read_lone_number c = search rules

pub returns : goal.returns
returns c = search rules

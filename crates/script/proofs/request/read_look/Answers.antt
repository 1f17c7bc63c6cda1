use Rattle.std.proofs.Common.{rules}
use Rattle.script.proofs.request.read_look.Goals as goal

pub returns-in_err-class : goal.returns-in_err-class
returns-in_err-class c = search rules

pub returns-then-is_some : goal.returns-then-is_some
returns-then-is_some c = search rules

pub returns : goal.returns
returns c = search rules

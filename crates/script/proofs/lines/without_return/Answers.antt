use Rattle.std.proofs.Common.{arith}
use Rattle.std.proofs.lemmas.Grind.{common_steps}
use Rattle.script.proofs.lines.without_return.Goals as goal

pub returns-in-Some-eq13-default : goal.returns-in-Some-eq13-default
returns-in-Some-eq13-default c = grind (arith, common_steps)

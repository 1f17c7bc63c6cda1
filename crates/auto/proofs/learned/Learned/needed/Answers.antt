use Rattle.std.proofs.Common.{arith}
use Rattle.std.proofs.lemmas.Grind.{common_steps}
use Rattle.auto.proofs.learned.Learned.needed.Goals as goal

pub returns-clause-most : goal.returns-clause-most
returns-clause-most c = grind (arith, common_steps)

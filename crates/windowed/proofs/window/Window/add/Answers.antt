use Rattle.std.proofs.Common.{arith, rules}
use Rattle.std.proofs.lemmas.Grind.{common_steps}
use Rattle.windowed.proofs.window.Window.add.Goals as goal

pub returns-clause-adds : goal.returns-clause-adds
returns-clause-adds c = search rules

pub returns-clause-totals : goal.returns-clause-totals
returns-clause-totals c = grind (arith, common_steps)

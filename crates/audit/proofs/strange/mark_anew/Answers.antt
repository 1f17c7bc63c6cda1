use Rattle.std.proofs.Common.{arith, rules}
use Rattle.std.proofs.lemmas.Grind.{common_steps}
use Rattle.audit.proofs.strange.mark_anew.Goals as goal

pub returns-then-not-is_of_call-clause-stands : goal.returns-then-not-is_of_call-clause-stands
returns-then-not-is_of_call-clause-stands g c = grind (arith, common_steps)

pub returns-then-not-is_of_call-clause-marked : goal.returns-then-not-is_of_call-clause-marked
returns-then-not-is_of_call-clause-marked g c = search rules

pub returns-clause-marked : goal.returns-clause-marked
returns-clause-marked g c = grind (arith, common_steps)

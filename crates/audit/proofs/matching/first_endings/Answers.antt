use Rattle.std.proofs.Common.{arith, rules}
use Rattle.std.proofs.lemmas.Grind.{common_steps}
use Rattle.audit.proofs.matching.first_endings.Goals as goal

pub returns-in_err-endings : goal.returns-in_err-endings
returns-in_err-endings c = search rules

pub loop-number-init : goal.loop-number-init
loop-number-init c = grind (arith, common_steps)

pub loop-number-smaller-in-Some : goal.loop-number-smaller-in-Some
loop-number-smaller-in-Some c = search rules

pub loop-number-preserved-in-Some : goal.loop-number-preserved-in-Some
loop-number-preserved-in-Some c = grind (arith, common_steps)

pub loop-number-smaller : goal.loop-number-smaller
loop-number-smaller c = search rules

pub loop-number-preserved : goal.loop-number-preserved
loop-number-preserved c = grind (arith, common_steps)

pub returns : goal.returns
returns c = search rules

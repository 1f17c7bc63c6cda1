use Rattle.std.proofs.Common.{rules, arith}
use Rattle.std.proofs.lemmas.Grind.{common_steps}
use Rattle.gate_config.proofs.class.places_left.Goals as goal

pub returns-clause-value : goal.returns-clause-value
returns-clause-value c = grind (arith, common_steps)

pub loop-class-init : goal.loop-class-init
loop-class-init c = search rules

pub loop-class-smaller : goal.loop-class-smaller
loop-class-smaller c = search rules

pub loop-class-preserved : goal.loop-class-preserved
loop-class-preserved c = grind (arith, common_steps)

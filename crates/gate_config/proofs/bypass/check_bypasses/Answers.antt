use Rattle.std.proofs.Common.{rules, arith}
use Rattle.std.proofs.lemmas.Grind.{common_steps}
use Rattle.gate_config.proofs.bypass.check_bypasses.Goals as goal

pub loop-item-init : goal.loop-item-init
loop-item-init c = search rules

pub returns-in_err-read_member : goal.returns-in_err-read_member
returns-in_err-read_member c = grind (arith, common_steps)

pub returns : goal.returns
returns c = grind (arith, common_steps)

use Rattle.std.proofs.Common.{rules, arith, ◌≤◌, length, map}
use Rattle.std.proofs.lemmas.Grind.{common_steps}
use Rattle.gate_config.specs.ClassRows.{class_row}
use Rattle.gate_config.proofs.Places.{placed-sum}
use Rattle.gate_config.proofs.class.read_classes.Goals as goal

pub loop-item-init : goal.loop-item-init
loop-item-init c = search rules

pub returns-in_err-class-clause-value : goal.returns-in_err-class-clause-value
returns-in_err-class-clause-value c = grind (arith, common_steps)

pub returns-clause-value : goal.returns-clause-value
returns-clause-value c = grind (arith, common_steps)

pub returns-clause-within : goal.returns-clause-within
returns-clause-within c =
    let few : length (map class_row c.loop-item.classes.items) ≤ 4 = grind (arith, common_steps) in
    let sum = placed-sum (map class_row c.loop-item.classes.items) few in
    omega (arith, sum, c.loop-item.invariant.within)

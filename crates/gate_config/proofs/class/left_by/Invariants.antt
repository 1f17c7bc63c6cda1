use Rattle.std.proofs.Common.{◌≡◌, ◌≤◌, ◌-◌, drop, map, sum_by}
use Rattle.gate_config.specs.ClassRows.{class_row, left_by}
use Rattle.gate_config.proofs.class.left_by.Given as goal

-- what is left, less what the classes to come take, and at most a thousand
abbrev pub invariant-loop-class : goal.invariant-loop-class
invariant-loop-class l =
    (left_by (map class_row l.classes)
    ≡ l.left - sum_by (λ class. class.thousandths) (map class_row (drop l.class-index l.classes)))
    × (l.left ≤ 1000)

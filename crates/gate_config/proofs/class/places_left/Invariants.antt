use Rattle.std.proofs.Common.{◌≡◌, ◌≤◌, ◌-◌, drop, map, sum_by}
use Rattle.gate_config.specs.ClassRows.{class_row, places_left}
use Rattle.gate_config.proofs.class.places_left.Given as goal

-- what is left, less what the classes to come take, and at most ten thousand
abbrev pub invariant-loop-class : goal.invariant-loop-class
invariant-loop-class l =
    (places_left l.backlog (map class_row l.classes)
    ≡ l.left - sum_by (λ class. class.places) (map class_row (drop l.class-index l.classes)))
    × (l.left ≤ 10000)

use Rattle.std.proofs.Common.{◌≡◌, ◌++◌, drop, map}
use Rattle.partitions.specs.Faults.{given}
use Rattle.partitions.specs.Table.{unplaced}
use Rattle.gate_config.specs.ClassRows.{class_row}
use Rattle.gate_config.proofs.build.rules.class_pairs.Given as goal

-- the pairs so far, and those of the classes to come
abbrev pub invariant-loop-class : goal.invariant-loop-class
invariant-loop-class l =
    unplaced (map class_row l.classes)
    ≡ given l.pairs.items ++ unplaced (map class_row (drop l.class-index l.classes))

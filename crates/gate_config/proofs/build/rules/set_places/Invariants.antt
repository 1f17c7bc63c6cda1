use Rattle.std.proofs.Common.{◌≡◌, ◌++◌, drop, map, take}
use Rattle.partitions.specs.Table.{unplaced}
use Rattle.gate_config.specs.ClassRows.{class_row}
use Rattle.gate_config.proofs.build.rules.set_places.Given as goal

-- the rows so far have their places
abbrev pub invariant-loop-row : goal.invariant-loop-row
invariant-loop-row l =
    l.table
    ≡ take l.row (map class_row l.classes) ++ unplaced (drop l.row (map class_row l.classes))

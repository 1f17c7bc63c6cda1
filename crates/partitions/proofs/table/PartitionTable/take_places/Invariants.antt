use Rattle.std.proofs.Common.{◌≡◌, List, ◌++◌, take, drop}
use Rattle.partitions.specs.Table.{Row, unplaced}
use Rattle.partitions.proofs.table.PartitionTable.take_places.Given as goal

-- the rows so far have the other's places
abbrev pub invariant-loop-row : goal.invariant-loop-row
invariant-loop-row l = (rest : List Row) → l.fn.self ≡ unplaced l.other ++ rest
    → l.self ≡ take l.row l.other ++ unplaced (drop l.row l.other) ++ rest

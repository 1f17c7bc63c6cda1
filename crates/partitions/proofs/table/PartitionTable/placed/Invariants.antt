use Rattle.std.proofs.Common.{◌≡◌, ◌*◌, ◌^◌, ◌≤◌, sum_by, take}
use Rattle.partitions.specs.Table.{own_places, known_places}
use Rattle.partitions.proofs.table.PartitionTable.placed.Given as goal

abbrev pub invariant-loop-row : goal.invariant-loop-row
invariant-loop-row l =
    (l.placed ≡ sum_by (λ place. own_places l.self place) (take l.row known_places))
    × (l.placed ≤ l.row * 2 ^ 32)

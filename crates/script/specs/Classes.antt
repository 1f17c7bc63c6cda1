-- The parts of classes by their names.
use Rattle.std.specs.Prelude.{ℕ, List, bytes_eq, codes, Option, Some, if◌then◌else◌}
use Rattle.partitions.specs.declared.part.Part.{Part}
use Rattle.partitions.specs.declared.part.Part.TheVariants.{Unknown}
use Rattle.partitions.specs.Table.{Row, find_part}

-- the part of a class: `unknown`, or a name of the table
abbrev pub part_of : List Row → List ℕ → Option Part
part_of rows class = if bytes_eq class (codes "unknown") then Some Unknown else find_part rows class

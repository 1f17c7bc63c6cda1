-- The classes of a configuration as rows, and what is left to those behind them.
use Rattle.std.specs.List.{list_any}
use Rattle.std.specs.Prelude.{ℕ, ◌+◌, ◌-◌, Bool, ◌&&◌, not, List, sum_by, bytes_eq}
use Rattle.partitions.specs.Table.{Row, is_name}
use Rattle.gate_config.specs.declared.class.ClassKeys.{ClassKeys}

-- a class as a row of the table of partitions
abbrev pub class_row : ClassKeys → Row
class_row class = record {
  name = class.name.now;
  thousandths = class.thousandths;
  places = class.places;
}

-- the name of one of the classes
abbrev pub is_class : List Row → List ℕ → Bool
is_class classes s = list_any (λ class. bytes_eq class.name s) classes

-- a name for a partition that none of the classes has
abbrev pub is_new_name : List Row → List ℕ → Bool
is_new_name classes s = is_name s && not (is_class classes s)

-- what the classes leave of a thousand thousandths
abbrev pub left_by : List Row → ℕ
left_by classes = 1000 - sum_by (λ class. class.thousandths) classes

-- what everybody's places, as many as `backlog` says, and those of the classes leave of the ten
-- thousand that there may be
abbrev pub places_left : ℕ → List Row → ℕ
places_left backlog classes = 10000 - (backlog + sum_by (λ class. class.places) classes)

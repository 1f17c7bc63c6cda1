-- A class of a configuration, and all of them one after the other.
use Rattle.std.specs.Prelude.{ℕ, ◌*◌, List, [], ◌∷◌, fold, length, Result, Ok, codes}
use Rattle.toml.specs.Data.{Members}
use Rattle.partitions.specs.Table.{Row}
use Rattle.gate_config.specs.declared.fault.ConfigFault.{ConfigFault}
use Rattle.gate_config.specs.Outcomes.{of_member, ◌>>=◌}
use Rattle.gate_config.specs.declared.version.Version.{Version}
use Rattle.gate_config.specs.declared.version.Version.TheVariants.{One, Two}
use Rattle.gate_config.specs.Rows.{class_rows}
use Rattle.gate_config.specs.Section.{Values, number_at, number_is, read_each, read_row, text_at}

-- the thousandths among a class's values: ten times its percentage, or its share
abbrev pub thousandths_at : Version → Values → ℕ
thousandths_at One values = 10 * number_at (codes "percent") values
thousandths_at Two values = number_at (codes "share") values

-- the row of a class's values; it has no places of its own where the version has no key for them
abbrev pub row_from : Version → Values → Row
row_from version values = record {
  name = text_at (codes "name") values;
  thousandths = thousandths_at version values;
  places = number_at (codes "places") values;
}

-- the values of a class, read behind the number of `backlog` and the classes before it
abbrev pub class_values : Version → ℕ → List Row → Members → Result Values ConfigFault
class_values version backlog before t =
    fold (read_row before t) (Ok ((codes "backlog", number_is backlog) ∷ [])) (class_rows version)

-- the keys of a class behind that number and the classes before it
abbrev pub class_from : Version → ℕ → List Row → Members → Result Row ConfigFault
class_from version backlog before t =
    class_values version backlog before t >>= λ values. Ok (row_from version values)

-- a class behind that number and the classes before it
abbrev pub class_after : Version → ℕ → List Row → Members → Result Row ConfigFault
class_after version backlog before t =
    of_member (length before) (class_from version backlog before t)

-- the classes behind that number, one after the other
abbrev pub classes_of : Version → ℕ → List Members → Result (List Row) ConfigFault
classes_of version backlog tables = read_each (class_after version backlog) [] tables

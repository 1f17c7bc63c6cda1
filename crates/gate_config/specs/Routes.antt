-- The patterns of a resolver, each with the name of a class.
use Rattle.std.specs.List.{list_all}
use Rattle.std.specs.Prelude.{ℕ, ◌&&◌, not, List, length, map, Option, Result, Ok, Err, is_some, nat_le, if◌then◌else◌}
use Rattle.toml.specs.Data.{Data, Members, as_str}
use Rattle.partitions.specs.Table.{Row}
use Rattle.gate_config.specs.declared.fault.ConfigFault.{ConfigFault}
use Rattle.gate_config.specs.declared.fault.ConfigFault.TheVariants as Fault
use Rattle.gate_config.specs.declared.key.Key.{Key}
use Rattle.gate_config.specs.Fault.{plain}
use Rattle.gate_config.specs.Outcomes.{◌>>=◌}
use Rattle.gate_config.specs.Table.{pairs_of, table_from}
use Rattle.gate_config.specs.Text.{string_of}
use Rattle.gate_config.specs.ClassRows.{is_class}

-- the patterns of a table, each with its text
abbrev pub routes_of : Members → List (List ℕ × List ℕ)
routes_of t = map (λ pair. (pair.0, string_of pair.1)) (pairs_of t)

-- a table of at most 256 patterns, each with the name of a class
abbrev pub routes_in : Key → List Row → Members → Result (List (List ℕ × List ℕ)) ConfigFault
routes_in key classes t =
    if not (list_all (λ pair. is_some (as_str pair.1)) (pairs_of t))
    then Err (Fault.Kind (plain key)) else (
    if nat_le (length (pairs_of t)) 256
    && list_all (λ pair. is_class classes (string_of pair.1)) (pairs_of t)
    then Ok (routes_of t) else Err (Fault.Value (plain key)))

-- the table of patterns
abbrev pub routes_from : Key → List Row → Option Data →
    Result (List (List ℕ × List ℕ)) ConfigFault
routes_from key classes d = table_from key d >>= routes_in key classes

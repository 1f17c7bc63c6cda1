-- The table or the array of tables at a key.
use Rattle.std.specs.List.{filter_map, list_all}
use Rattle.std.specs.Prelude.{ℕ, List, [], ◌∷◌, length, map, Option, Some, None, Result, Ok, Err, is_some, nat_le, if◌then◌else◌}
use Rattle.toml.specs.declared.value.Value.{Value}
use Rattle.toml.specs.Data.{Data, Items, Members, array, as_table, item, member, no_items, no_members, table}
use Rattle.toml.specs.View.{view}
use Rattle.gate_config.specs.declared.fault.ConfigFault.{ConfigFault}
use Rattle.gate_config.specs.declared.fault.ConfigFault.TheVariants as Fault
use Rattle.gate_config.specs.declared.key.Key.{Key}
use Rattle.gate_config.specs.Fault.{plain}

-- the members of a table as a list
abbrev pub pairs_of : Members → List (List ℕ × Data)
pairs_of no_members = []
pairs_of (member key d t) = (key, d) ∷ pairs_of t

-- the items of an array as a list
abbrev pub items_in : Items → List Data
items_in no_items = []
items_in (item d ds) = d ∷ items_in ds

-- the items that are tables
abbrev pub tables_among : List Value → List Members
tables_among items = filter_map as_table (map view items)

-- a table
abbrev pub table_from : Key → Option Data → Result Members ConfigFault
table_from key None = Err (Fault.Missing (plain key))
table_from key (Some (table t)) = Ok t
table_from key (Some _) = Err (Fault.Kind (plain key))

-- a table that may be absent
abbrev pub optional_from : Key → Option Data → Result (Option Members) ConfigFault
optional_from key None = Ok None
optional_from key (Some (table t)) = Ok (Some t)
optional_from key (Some _) = Err (Fault.Kind (plain key))

-- the items, which all are tables, and not too many
abbrev pub tables_in : Key → ℕ → List Data → Result (List Members) ConfigFault
tables_in key most items =
    if list_all (λ d. is_some (as_table d)) items
    then (if nat_le (length items) most
    then Ok (filter_map as_table items) else Err (Fault.Value (plain key)))
    else Err (Fault.Kind (plain key))

-- the tables of an array; none where it is absent
abbrev pub tables_from : Key → ℕ → Option Data → Result (List Members) ConfigFault
tables_from key most None = Ok []
tables_from key most (Some (array items)) = tables_in key most (items_in items)
tables_from key most (Some _) = Err (Fault.Kind (plain key))

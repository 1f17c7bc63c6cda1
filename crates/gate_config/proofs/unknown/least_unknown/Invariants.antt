use Rattle.std.proofs.Common.{◌≡◌, fold, map, option_map, string_bytes}
use Rattle.toml.specs.View.{table_view}
use Rattle.gate_config.specs.Allowed.{allowed_keys}
use Rattle.gate_config.specs.Rows.{name_of}
use Rattle.gate_config.specs.Unknown.{lesser, unknown_key_of, unknown_keys_among, unknown_keys_in}
use Rattle.gate_config.proofs.unknown.least_unknown.Given as goal

-- the least of all, by the least so far and the names to come
abbrev pub invariant-loop-name : goal.invariant-loop-name
invariant-loop-name l =
    fold lesser (option_map unknown_key_of l.initial.least)
    (unknown_keys_in l.section (map name_of (allowed_keys l.keys)) (table_view l.table))
    ≡ fold lesser (option_map unknown_key_of l.least)
    (unknown_keys_among l.section (map name_of (allowed_keys l.keys))
    (map string_bytes l.name-iterator))

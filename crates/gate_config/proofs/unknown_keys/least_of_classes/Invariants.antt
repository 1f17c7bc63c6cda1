use Rattle.std.proofs.Common.{◌≡◌, drop, flat_map, fold, option_map}
use Rattle.gate_config.specs.Table.{tables_among}
use Rattle.gate_config.specs.Unknown.{lesser, unknown_key_of}
use Rattle.gate_config.specs.UnknownKeys.{class_unknown_keys}
use Rattle.gate_config.proofs.unknown_keys.least_of_classes.Given as goal

-- the least of all, by the least so far and the tables to come
abbrev pub invariant-loop-item : goal.invariant-loop-item
invariant-loop-item l =
    fold lesser (option_map unknown_key_of l.initial.least)
    (flat_map (class_unknown_keys l.version) (tables_among l.items))
    ≡ fold lesser (option_map unknown_key_of l.least)
    (flat_map (class_unknown_keys l.version) (tables_among (drop l.item-index l.items)))

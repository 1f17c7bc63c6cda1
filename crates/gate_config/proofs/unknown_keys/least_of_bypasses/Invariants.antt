use Rattle.std.proofs.Common.{◌≡◌, drop, flat_map, fold, map, option_map}
use Rattle.gate_config.specs.Unknown.{lesser, unknown_key_of}
use Rattle.gate_config.specs.Bypass.{bypass_member}
use Rattle.gate_config.specs.UnknownKeys.{bypass_unknown_keys}
use Rattle.gate_config.proofs.unknown_keys.least_of_bypasses.Given as goal

-- the least of all, by the least so far and the tables to come
abbrev pub invariant-loop-table : goal.invariant-loop-table
invariant-loop-table l =
    fold lesser (option_map unknown_key_of l.initial.least)
    (flat_map bypass_unknown_keys (map bypass_member l.rules))
    ≡ fold lesser (option_map unknown_key_of l.least)
    (flat_map bypass_unknown_keys (map bypass_member (drop l.table-index l.rules)))

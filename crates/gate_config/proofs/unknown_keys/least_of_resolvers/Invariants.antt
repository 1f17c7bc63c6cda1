use Rattle.std.proofs.Common.{◌≡◌, drop, flat_map, fold, map, option_map}
use Rattle.gate_config.specs.Unknown.{lesser, unknown_key_of}
use Rattle.gate_config.specs.Resolver.{resolver_member}
use Rattle.gate_config.specs.UnknownKeys.{resolver_unknown_keys}
use Rattle.gate_config.proofs.unknown_keys.least_of_resolvers.Given as goal

-- the least of all, by the least so far and the tables to come
abbrev pub invariant-loop-table : goal.invariant-loop-table
invariant-loop-table l =
    fold lesser (option_map unknown_key_of l.initial.least)
    (flat_map resolver_unknown_keys (map resolver_member l.resolvers))
    ≡ fold lesser (option_map unknown_key_of l.least)
    (flat_map resolver_unknown_keys (map resolver_member (drop l.table-index l.resolvers)))
